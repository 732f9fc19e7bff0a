use Rattle.std.proofs.Common.{◌≡◌, ◌∙◌, ap, subst, sym}
use Rattle.std.specs.Map.{values_of}
use Rattle.sm_table.specs.Changes.{dropped}
use Rattle.sm_table.specs.Kept.{IsRising}
use Rattle.sm_table.specs.Maps.{by_serial}
use Rattle.sm_table.proofs.MapLemmas.{seen_list, seen_by, rows_removed}
use Rattle.sm_table.proofs.row_map.RowMap.remove.Goals as goal
use Rattle.sm_table.proofs.row_map.RowMap.remove.Goals.{Joined-shift_remove}

entries : (c : Joined-shift_remove) → c.shift_remove.new.self.entries
    ≡ by_serial (dropped (values_of c.self.inside.map.entries) c.args.serial)
entries c =
    rows_removed c.self.inside.map.entries c.shift_remove.new.self.entries c.self.invariant c.args.serial
    (subst IsRising (sym (ap (λ v. v.list) c.self.view_is)) c.requires) c.shift_remove.ensures.entries

pub invariant_of-self : goal.invariant_of-self
invariant_of-self c = seen_by _ _ (entries c)

pub returns-clause-list : goal.returns-clause-list
returns-clause-list c =
    seen_list _ _ (entries c) ∙ ap (λ rs. dropped rs c.args.serial) (ap (λ v. v.list) c.self.view_is)
