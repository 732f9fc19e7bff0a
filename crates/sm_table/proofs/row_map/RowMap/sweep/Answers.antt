use Rattle.std.proofs.Common.{◌≡◌, ◌∙◌, ℕ, Some, rules, ap}
use Rattle.std.specs.Map.{values_of}
use Rattle.indexmap.proofs.CallerLemmas.{filter-RetainsPairs}
use Rattle.sm_model.specs.declared.rows.SecretRow.{SecretRow}
use Rattle.sm_table.specs.Sweep.{swept}
use Rattle.sm_table.specs.Maps.{by_serial, stays}
use Rattle.sm_table.proofs.MapLemmas.{seen_list, seen_by, rows_swept}
use Rattle.sm_table.proofs.row_map.RowMap.sweep.Goals as goal
use Rattle.sm_table.proofs.row_map.RowMap.sweep.Goals.{After-retain}

entries : (c : After-retain) → c.retain.new.self.entries
    ≡ by_serial (swept (values_of c.self.inside.map.entries) c.args.moment)
entries c =
    rows_swept c.self.inside.map.entries c.retain.new.self.entries c.self.invariant c.args.moment
    (filter-RetainsPairs _ (λ (e : ℕ × SecretRow). stays (Some e.1) c.args.moment) _ (λ k v b w g call. search rules)
    _ _
    c.retain.ensures.filtered)

pub invariant_of-self : goal.invariant_of-self
invariant_of-self c = seen_by _ _ (entries c)

pub returns-clause-list : goal.returns-clause-list
returns-clause-list c =
    seen_list _ _ (entries c) ∙ ap (λ rs. swept rs c.args.moment) (ap (λ v. v.list) c.self.view_is)
