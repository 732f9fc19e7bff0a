use Rattle.sm_replication.proofs.DecodeLemmas.{Gathers}
use Rattle.sm_replication.proofs.decoding.entries_of.Given as goal

abbrev pub invariant-loop-body : goal.invariant-loop-body
invariant-loop-body l = Gathers l.bodies l.body-index l.entries.items
