use Rattle.sm_table.proofs.GatherLemmas.{Gathered}
use Rattle.sm_table.proofs.gathered.gathered.Given as goal

abbrev pub invariant-loop-row : goal.invariant-loop-row
invariant-loop-row l = Gathered l.rows l.left l.row-index l.indexed
