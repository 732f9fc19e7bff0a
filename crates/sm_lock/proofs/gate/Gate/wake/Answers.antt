use Rattle.std.proofs.Common.{rules, ap, ◌∙◌}
use Rattle.sm_lock.specs.Boxed.{boxed}
use Rattle.sm_lock.specs.View.{ticket}
use Rattle.sm_lock.proofs.FlagSteps.{sees_flag, lowers, same_flag}
use Rattle.sm_lock.proofs.gate.Gate.wake.Goals as goal

pub load-requires : goal.load-requires
load-requires g c = let v = c.args.place.now.me.0 in (
  search rules,
  search rules,
  sees_flag (boxed g.T.Storied.origin) (boxed g.T.Storied.story) _ _ _ _ _ c.args.place.now.me (ticket v.turn) _
      c.requires.turn.0
      (same_flag (ticket v.turn) _ _ c.requires.turn.1 c.flag_of-flag.ensures),
)

pub store-requires : goal.store-requires
store-requires g c =
    let v = c.args.place.now.me.0 in let same = c.load.ensures.2.1 c.if-load-eq-DOWN.false in (
      c.load.ensures.0 ∙ c.requires.gate,
      search rules,
      lowers (boxed g.T.Storied.origin) (boxed g.T.Storied.story) _ _ _ _ _ c.load.new.seat.me (ticket v.turn) _
          (ap (λ m. m.0.turn) same ∙ c.requires.turn.0)
          (same_flag (ticket v.turn) _ _ c.requires.turn.1 c.flag_of-flag.ensures),
    )
