use Rattle.std.proofs.Common.{arith, string_bytes, refl}
use Rattle.sm_summary.proofs.WalkLemmas.{shown_with}
use Rattle.sm_summary.proofs.walk.show_row.Goals as goal

pub returns-clause-shown : goal.returns-clause-shown
returns-clause-shown c =
    λ before is.
    shown_with c.args.row.now c.args.shown.now _ (string_bytes c.in_ok-line.line) c.in_ok-line.ensures refl
    (grind arith) (grind arith) before is
