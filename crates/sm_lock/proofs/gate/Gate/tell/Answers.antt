use Rattle.std.proofs.Common.{rules}
use Rattle.sm_lock.specs.Boxed.{boxed}
use Rattle.sm_lock.proofs.SeatSteps.{copies}
use Rattle.sm_lock.proofs.gate.Gate.tell.Goals as goal

pub split_seat-copy-requires : goal.split_seat-copy-requires
split_seat-copy-requires g c = (
  search rules,
  search rules,
  copies (boxed g.T.Storied.origin) (boxed g.T.Storied.story) _ _ _ _ _,
)
