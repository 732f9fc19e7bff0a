use Rattle.std.proofs.Common.{◌≡◌, length}
use Rattle.sm_http.proofs.ChainLemmas.{Counted}
use Rattle.sm_http.proofs.laws.whole_messages.Given as goal

abbrev pub invariant-loop-message : goal.invariant-loop-message
invariant-loop-message l = Counted l.bytes l.count l.rest × (length l.room ≡ 64)

abbrev pub decreases-loop-message : goal.decreases-loop-message
decreases-loop-message l = length l.rest
