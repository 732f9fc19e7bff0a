use Rattle.std.specs.Str.Parse.{ExplainsUnsignedError, HasUnsignedDigitsIfOk, ParsesUnsigned}
use Rattle.clap.specs.Words.{found_of}
use Rattle.sm_command_line.proofs.NumberLemmas.{number_of-reads}
use Rattle.sm_command_line.proofs.reading.number_of.Goals as goal

pub returns : goal.returns
returns c =
    number_of-reads 64 (λ text read. ParsesUnsigned 64 10 text read × ExplainsUnsignedError 10 text read
    × HasUnsignedDigitsIfOk text read) (λ text read parsed. parsed.0) (found_of c.args.matches.now)
    c.args.name.now c.get_one.result c.get_one.ensures.none c.get_one.ensures.value
