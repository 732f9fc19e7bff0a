use Rattle.std.proofs.Common.{arith, string_bytes, refl}
use Rattle.sm_table.specs.Sweep.{swept}
use Rattle.sm_summary.proofs.WalkLemmas.{one_summary}
use Rattle.sm_summary.proofs.walk.summary.Goals as goal

pub returns-clause-only : goal.returns-clause-only
returns-clause-only c =
    λ other is.
    let shown = c.in_ok-shown.ensures in
    one_summary (swept c.args.table.now.secrets c.args.moment) c.args.entries c.new.result other
    (string_bytes c.in_ok-shown.shown.lines, shown.lines, grind arith) is
