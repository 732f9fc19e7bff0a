use Rattle.sm_http.proofs.HeadLemmas.{IsRead}
use Rattle.sm_http.proofs.head.decimal.Given as goal

abbrev pub invariant-loop-byte : goal.invariant-loop-byte
invariant-loop-byte l = IsRead l.text l.byte-index l.value
