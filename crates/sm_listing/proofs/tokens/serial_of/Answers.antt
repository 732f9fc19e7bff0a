use Rattle.std.proofs.lemmas.Str.Pattern.{strip_prefix_char}
use Rattle.sm_listing.proofs.TokenLemmas.{not_stripped, stripped_number}
use Rattle.sm_listing.proofs.tokens.serial_of.Goals as goal

pub returns-in-None : goal.returns-in-None
returns-in-None c =
    rw (← c.as_str.ensures)
    (not_stripped c.args.letter c.as_str.result.now c.strip_prefix.result
    (strip_prefix_char c.args.letter c.as_str.result.now c.strip_prefix.result c.strip_prefix.ensures.cases c.requires)
    c.in-None.is)

pub returns-in-Some : goal.returns-in-Some
returns-in-Some c =
    rw (← c.as_str.ensures)
    (stripped_number c.args.letter c.as_str.result.now c.strip_prefix.result c.in-Some.digits c.number_of.result
    (strip_prefix_char c.args.letter c.as_str.result.now c.strip_prefix.result c.strip_prefix.ensures.cases c.requires)
    c.in-Some.is c.number_of.ensures)
