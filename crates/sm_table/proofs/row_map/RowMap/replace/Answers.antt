use Rattle.std.proofs.Common.{◌≡◌, ◌∙◌, ℕ, List, None, ap, sym}
use Rattle.std.specs.Map.{values_of}
use Rattle.std.specs.Option.{option_copied_mut}
use Rattle.sm_model.specs.declared.rows.SecretRow.{SecretRow}
use Rattle.sm_table.specs.Changes.{row_with, replaced}
use Rattle.sm_table.specs.Maps.{by_serial}
use Rattle.sm_table.proofs.MapLemmas.{seen_list, seen_by, row_is, rows_replaced, replaced_absent}
use Rattle.sm_table.proofs.row_map.RowMap.replace.Goals as goal
use Rattle.sm_table.proofs.row_map.RowMap.replace.Goals.{Joined-get_mut, in-Some, in-None}

entries : (c : Joined-get_mut) → c.match-get_mut.self-inside.map.entries
    ≡ by_serial (replaced (values_of c.self.inside.map.entries) c.args.kept)
entries c =
    let es : List (ℕ × SecretRow) = c.self.inside.map.entries in
    let same = ap (λ r. r.serial) c.row.ensures in
    elim c.match-get_mut.branch [
      | in-Some w ↦ ap (λ i. i.map.entries) w.self-inside-is
          ∙ rows_replaced es _ c.self.invariant c.row.result.now.serial c.args.kept same
          (c.get_mut.follows.holds c.args.kept).0
      | in-None w ↦
          let none : row_with (values_of es) c.args.kept.serial ≡ None =
          ap (row_with (values_of es)) (sym same) ∙ row_is es c.row.result.now.serial c.self.invariant
          ∙ sym c.get_mut.ensures.value ∙ ap option_copied_mut w.in-None.is in
          ap (λ i. i.map.entries) w.self-inside-is ∙ ap (λ m. m.entries) c.get_mut.follows.holds-at-none ∙
          c.self.invariant
          ∙ ap by_serial (sym (replaced_absent (values_of es) c.args.kept none))
    ]

pub invariant_of-self : goal.invariant_of-self
invariant_of-self c = seen_by _ _ (entries c)

pub returns-clause-list : goal.returns-clause-list
returns-clause-list c =
    seen_list _ _ (entries c) ∙ ap (λ rs. replaced rs c.args.kept) (ap (λ v. v.list) c.self.view_is)
