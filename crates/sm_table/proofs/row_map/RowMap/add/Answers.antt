use Rattle.std.proofs.Common.{◌≡◌, ◌∙◌, ◌∷◌, ◌++◌, [], None, ap}
use Rattle.std.specs.Map.{values_of}
use Rattle.sm_table.specs.Changes.{row_with}
use Rattle.sm_table.specs.Maps.{by_serial}
use Rattle.sm_table.proofs.MapLemmas.{seen_list, seen_by, rows_added}
use Rattle.sm_table.proofs.row_map.RowMap.add.Goals as goal
use Rattle.sm_table.proofs.row_map.RowMap.add.Goals.{Joined-this}

entries : (c : Joined-this) → c.insert.new.self.entries ≡ by_serial
    (values_of c.self.inside.map.entries ++ c.args.kept ∷ [])
entries c =
    let list : values_of c.self.inside.map.entries ≡ c.args.self.now.list = ap (λ v. v.list) c.self.view_is in
    let new : row_with (values_of c.self.inside.map.entries) c.args.kept.serial ≡ None =
    ap (λ rs. row_with rs c.args.kept.serial) list ∙ c.requires.new in
    rows_added c.self.inside.map.entries c.insert.new.self.entries c.self.invariant _ c.args.kept
    (ap (λ r. r.serial) c.row.ensures) new c.in-Ok.ensures.entries

pub invariant_of-self : goal.invariant_of-self
invariant_of-self c = seen_by _ _ (entries c)

pub returns-clause-list : goal.returns-clause-list
returns-clause-list c =
    seen_list _ _ (entries c) ∙ ap (λ rs. rs ++ c.args.kept ∷ []) (ap (λ v. v.list) c.self.view_is)
