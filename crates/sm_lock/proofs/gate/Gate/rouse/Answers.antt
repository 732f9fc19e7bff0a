use Rattle.std.proofs.Common.{rules}
use Rattle.sm_lock.specs.Boxed.{boxed}
use Rattle.sm_lock.proofs.FlagSteps.{rouses}
use Rattle.sm_lock.proofs.gate.Gate.rouse.Goals as goal

pub load-requires : goal.load-requires
load-requires g c = (
  search rules,
  search rules,
  rouses (boxed g.T.Storied.origin) (boxed g.T.Storied.story) _ _ _ _ _ c.args.place.now.me _ _ c.requires.turn,
)
