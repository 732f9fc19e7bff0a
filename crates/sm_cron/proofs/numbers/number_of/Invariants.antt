use Rattle.std.proofs.Common.{◌≡◌, take, min}
use Rattle.sm_cron.specs.Languages.{number_of}
use Rattle.sm_cron.proofs.numbers.number_of.Given as goal

abbrev pub invariant-loop-byte : goal.invariant-loop-byte
invariant-loop-byte l = l.number ≡ min (number_of (take l.byte-index l.text)) 4_294_967_295
