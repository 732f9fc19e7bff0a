use Rattle.std.proofs.Common.{◌≡◌, ◌∙◌, ◌≤◌, length, ap, sym, arith}
use Rattle.std.proofs.lemmas.Bool.{false≢true}
use Rattle.std.specs.Map.{values_of}
use Rattle.indexmap.specs.IndexMap.{spare}
use Rattle.sm_table.specs.Maps.{by_serial}
use Rattle.sm_table.proofs.MapLemmas.{rows_taken, values_count}
use Rattle.sm_table.proofs.row_map.RowMap.take_all.Goals as goal
use Rattle.sm_table.proofs.row_map.RowMap.take_all.Goals.{In-Ok}

entries : (c : In-Ok) → c.append.new.self.entries ≡ c.other.inside.map.entries
entries c =
    rows_taken c.self.inside.map.entries c.other.inside.map.entries c.append.new.self.entries
    (ap (λ v. v.list) c.self.view_is ∙ c.requires.empty) c.len-count.ensures.unique c.in-Ok.ensures.entries

pub invariant_of-self : goal.invariant_of-self
invariant_of-self c = entries c ∙ c.other.invariant ∙ ap (λ es. by_serial (values_of es)) (sym (entries c))

pub returns-clause-list : goal.returns-clause-list
returns-clause-list c = ap values_of (entries c) ∙ ap (λ v. v.list) c.other.view_is

pub unreachable-requires : goal.unreachable-requires
unreachable-requires c =
    let fits : length c.other.inside.map.entries ≤ spare c.self.inside.map =
    omega (
      arith,
      c.requires.room,
      values_count c.other.inside.map.entries,
      ap (λ v. length v.list) c.other.view_is,
      ap (λ v. v.room) c.self.view_is,
    ) in
    false≢true (rw c.in-Err.is at (c.append.ensures.succeeds fits))

pub returns-clause-room : goal.returns-clause-room
returns-clause-room c =
    omega (
      arith,
      c.append.ensures.room.0,
      values_count c.other.inside.map.entries,
      ap (λ v. length v.list) c.other.view_is,
      ap (λ v. v.room) c.self.view_is,
    )
