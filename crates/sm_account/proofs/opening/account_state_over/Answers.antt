use Rattle.std.proofs.Common.{refl, ap, ◌∙◌}
use Rattle.sm_recovery.specs.Lawful.{base_under}
use Rattle.sm_store.specs.Held.{Held}
use Rattle.sm_account.proofs.OpenLemmas.{opened_kept}
use Rattle.sm_account.proofs.opening.account_state_over.Goals as goal

pub returns : goal.returns
returns g c = record {
  kept = opened_kept c.args.opened c.args.limit c.requires.store c.requires.second c.requires.lawful
      c.requires.replayed _ c.requires.limits
      (record {
        table = c.into_parts-table.ensures.rows;
        store_is = refl;
        based = c.base_under.ensures ∙ ap (λ (h : Held). base_under h.base) c.taken.view_is;
        entries_are = c.into_vec.ensures ∙ ap (λ (h : Held). h.entries) c.taken.view_is;
        claims_are = c.new.ensures.items;
        history_is = c.nothing.ensures;
        marks = refl;
        last = c.into_parts-table.ensures.last;
        made = refl;
        limit_is = refl;
        taken_is = c.of-found.ensures;
        failed = c.of.ensures;
      })
      c.into_parts-table.ensures.sound c.requires.later;
  history_is = c.nothing.ensures;
  taken_is = c.of-found.ensures;
  limit_is = refl;
  began_is = refl;
  store_is = refl;
  sure = c.of.ensures;
}
