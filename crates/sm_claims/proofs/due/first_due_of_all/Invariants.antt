use Rattle.std.proofs.Common.{◌≡◌, drop}
use Rattle.sm_claims.specs.Due.{first_due}
use Rattle.sm_claims.proofs.due.first_due_of_all.Given as goal

abbrev pub invariant-loop-i : goal.invariant-loop-i
invariant-loop-i l =
    first_due (drop l.i l.table.secrets) l.moment l.token ≡ first_due l.table.secrets l.moment l.token
