use Rattle.std.proofs.Common.{◌≤◌, length, arith, ◌∙◌}
use Rattle.sm_http.proofs.AheadLemmas.{moves_behind}
use Rattle.sm_http.proofs.ahead.Ahead.take_more.Goals as goal

pub returns-in-Got-clause-moves : goal.returns-in-Got-clause-moves
returns-in-Got-clause-moves g c =
    let new = c.take_behind.new.buffer in
    let inside : c.to_front-places.result.1 ≤ length new.items = omega (arith, c.in-Got.ensures.inside) in
    moves_behind _ _ _ _ _ _ _ _ _ c.to_front-places.ensures.ordered inside
    (c.to_front-places.ensures.bytes ∙ c.self.view_is) c.make_room.ensures.front c.take_behind.ensures.front
    c.in-Got.ensures.bytes
