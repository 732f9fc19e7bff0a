use Rattle.std.proofs.Common.{arith, string_bytes}
use Rattle.sm_summary.proofs.line.line.Goals as goal

pub returns : goal.returns
returns c = record {
  made = c.in_ok-made.made;
  state = string_bytes c.in_ok-state.state;
  is_made = c.in_ok-made.ensures.date;
  is_state = c.in_ok-state.ensures;
  is = grind arith;
}
