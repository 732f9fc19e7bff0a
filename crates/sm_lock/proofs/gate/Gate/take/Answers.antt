use Rattle.std.proofs.Common.{rules, ◌∷◌, ap, ◌∙◌, sym, Some}
use Rattle.atomic_table.specs.Table.{rest}
use Rattle.sm_lock.specs.Boxed.{boxed}
use Rattle.sm_lock.proofs.SlotSteps.{takes_value}
use Rattle.sm_lock.proofs.gate.Gate.take.Goals as goal

pub load-count-requires : goal.load-count-requires
load-count-requires g c = (
  search rules,
  search rules,
  takes_value (boxed g.T.Storied.origin) (boxed g.T.Storied.story) _ _ _ _ _ c.args.place.now.me _ c.requires.turn.0
      c.requires.gate.1,
)

pub exchange-requires : goal.exchange-requires
exchange-requires g c =
    let took = c.load-count.ensures.2 _ c.requires.turn.0 in
    let carries = ap (λ m. m.1) took.1 in
    (search rules, (Some took.0, carries ∙ ap (λ cs. (0, Some took.0) ∷ rest cs) (sym carries)))
