use Rattle.std.proofs.Common.{rules, sym}
use Rattle.std.proofs.lemmas.Fn.{filter_same}
use Rattle.std.proofs.lemmas.List.Elements.{filter-append}
use Rattle.sm_base.proofs.shared_list.SharedList.retain.Goals as goal

pub returns : goal.returns
returns g c =
    let picked = g.P.Picks.picked c.args.picks.now in
    rw (← c.self.view_is)
    (rw c.retain.ensures
    (rw (filter_same _ picked _ (λ x b f' k. search rules) _ _ c.retain-2.ensures.filtered)
    (sym (filter-append picked c.self.inside.front c.self.inside.own.items))))
