use Rattle.std.proofs.Common.{rules, arith}
use Rattle.sm_lock.specs.Boxed.{boxed}
use Rattle.sm_lock.proofs.QueueSteps.{looks}
use Rattle.sm_lock.proofs.gate.Gate.wait_for.Goals as goal

pub load-serving-requires : goal.load-serving-requires
load-serving-requires g c = let few = c.args.self.now.counted in (
  search rules,
  search rules,
  looks (boxed g.T.Storied.origin) (boxed g.T.Storied.story) _ _ _ _ _ c.args.place.now.me _ c.requires.turn.0
      (omega (arith, few.0, few.2)),
)
