use Rattle.std.proofs.Common.{◌∙◌, nat_eq, sym, ap}
use Rattle.std.specs.Cmp.Lexicographic.{pointwise}
use Rattle.std.specs.List.{position}
use Rattle.sm_base.proofs.SharedLemmas.{position_nowhere}
use Rattle.sm_base.proofs.shared_list.SharedList.position.Goals as goal

pub returns-in-None-position_of : goal.returns-in-None-position_of
returns-in-None-position_of g c =
    rw (← c.self.view_is)
    (sym (position_nowhere (λ item. pointwise nat_eq (g.T.Keyed.key item) c.args.key.now) c.self.inside.front
    c.self.inside.own.items (sym c.in-None.ensures)
    (ap (position (λ item. pointwise nat_eq (g.T.Keyed.key item) c.args.key.now)) (sym c.as_slice.ensures.value)
    ∙ sym c.in-None-position_of.ensures)))
