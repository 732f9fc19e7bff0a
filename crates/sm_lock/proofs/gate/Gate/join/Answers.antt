use Rattle.std.proofs.Common.{rules, ap, ◌∙◌}
use Rattle.sm_lock.specs.Boxed.{boxed}
use Rattle.sm_lock.proofs.SeatSteps.{joins_seats, takes_in}
use Rattle.sm_lock.proofs.gate.Gate.join.Goals as goal

pub join_seat-requires : goal.join_seat-requires
join_seat-requires g c = let place = c.args.place.now in let other = c.args.other in (
  c.requires.gate.0.0,
  c.requires.gate.1.0,
  c.requires.other.3,
  search rules,
  joins_seats (boxed g.T.Storied.origin) (boxed g.T.Storied.story) _ _ _ place.id place.me.0 other.id other.me.0
      c.requires.place.1
      c.requires.other.1 c.requires.other.0 c.requires.other.2,
)

pub load-requires : goal.load-requires
load-requires g c = let place = c.join_seat.new.seat in (
  search rules,
  search rules,
  takes_in (boxed g.T.Storied.origin) (boxed g.T.Storied.story) _ _ _ _ place.id place.me
      (ap (λ m. m.0.turn) c.join_seat.ensures.2 ∙ c.requires.place.0),
)
