use Rattle.std.proofs.Common.{rules, ap, ◌∙◌, inl, inr, ⊎_elim, arith}
use Rattle.sm_lock.specs.Boxed.{boxed}
use Rattle.sm_lock.specs.View.{ticket}
use Rattle.sm_lock.proofs.FlagSteps.{raises_flag, looks_again, same_flag, flag_raised}
use Rattle.sm_lock.proofs.gate.Gate.park_until_served.Goals as goal

pub store-requires : goal.store-requires
store-requires g c = let few = c.args.self.now.counted in let v = c.args.place.now.me.0 in (
  c.loop.invariant.0 ∙ c.requires.gate,
  search rules,
  raises_flag (boxed g.T.Storied.origin) (boxed g.T.Storied.story) _ _ _ _ _ c.loop.place.me (ticket v.turn) _
      (⊎_elim (λ same. inl (ap (λ m. m.0.turn) same ∙ c.requires.turn.0)) (λ parked. inr (ap (λ m. m.0.turn) parked))
      c.loop.invariant.1)
      (omega (arith, few.0, few.2)) (same_flag (ticket v.turn) _ _ c.requires.turn.1 c.flag_of-flag.ensures),
)

pub load-again-requires : goal.load-again-requires
load-again-requires g c =
    let few = c.args.self.now.counted in let m = c.args.place.now.me in
    let raised = flag_raised m c.loop.place.me c.store.new.seat.me c.loop.invariant.1 c.store.ensures.2.1 in (
      c.store.ensures.0 ∙ c.loop.invariant.0 ∙ c.requires.gate,
      search rules,
      looks_again (boxed g.T.Storied.origin) (boxed g.T.Storied.story) _ _ _ _ _ c.store.new.seat.me (ticket m.0.turn)
          (ap (λ x. x.0.turn) raised) (omega (arith, few.0, few.2)),
    )
