use Rattle.std.proofs.Common.{◌≤◌, ◌∙◌, length, ap, arith}
use Rattle.std.proofs.lemmas.Bool.{false≢true}
use Rattle.indexmap.specs.IndexMap.{spare}
use Rattle.sm_table.specs.Maps.{pairs_of}
use Rattle.sm_table.proofs.MapLemmas.{names_taken, pairs-length}
use Rattle.sm_table.proofs.name_map.NameMap.take_all.Goals as goal

pub returns-clause-pairs : goal.returns-clause-pairs
returns-clause-pairs c =
    ap pairs_of
    (names_taken c.self.inside.map.entries c.other.inside.map.entries c.append.new.self.entries
    (ap (λ n. n.pairs) c.self.view_is ∙ c.requires.empty) c.len-count.ensures.unique c.in-Ok.ensures.entries)
    ∙ ap (λ n. n.pairs) c.other.view_is

pub unreachable-requires : goal.unreachable-requires
unreachable-requires c =
    let fits : length c.other.inside.map.entries ≤ spare c.self.inside.map =
    omega (
      arith,
      c.requires.room,
      pairs-length c.other.inside.map.entries,
      ap (λ n. length n.pairs) c.other.view_is,
      ap (λ n. n.room) c.self.view_is,
    ) in
    false≢true (rw c.in-Err.is at (c.append.ensures.succeeds fits))

pub returns-clause-room : goal.returns-clause-room
returns-clause-room c =
    omega (
      arith,
      c.append.ensures.room.0,
      pairs-length c.other.inside.map.entries,
      ap (λ n. length n.pairs) c.other.view_is,
      ap (λ n. n.room) c.self.view_is,
    )
