use Rattle.std.proofs.Common.{arith}
use Rattle.sm_summary.proofs.line.state_text.Goals as goal

pub returns-in_ok-format-in-Some : goal.returns-in_ok-format-in-Some
returns-in_ok-format-in-Some c =
    rw c.in-Some.is (c.in_ok-date-in-Some.date, c.in_ok-date-in-Some.ensures.date, grind arith)
