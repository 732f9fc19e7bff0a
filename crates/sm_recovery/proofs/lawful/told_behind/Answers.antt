use Rattle.std.proofs.Common.{◌≡◌, ◌+◌, ◌∙◌, ap, arith, length, map, subst, sym, take}
use Rattle.std.proofs.lemmas.List.{length-map}
use Rattle.sm_journal.specs.Records.{size}
use Rattle.sm_record.specs.Spelling.{spelling}
use Rattle.sm_store.specs.Openings.{held_of}
use Rattle.sm_store.specs.Held.{AreEntries, base_bodies}
use Rattle.sm_recovery.proofs.PlaceLemmas.{entries_take, sizes_take, sizes_in, fewer_than_bytes, told_behind}
use Rattle.sm_recovery.proofs.lawful.told_behind.Goals as goal

pub split_at-requires : goal.split_at-requires
split_at-requires c = omega (arith, c.requires.within, ap length c.as_slice.ensures)

pub place_behind-requires-clause-spelled : goal.place_behind-requires-clause-spelled
place_behind-requires-clause-spelled c =
    let front : c.split_at.result.0.now ≡ take c.args.count c.args.loaded.now.entries =
    c.split_at.ensures.front ∙ ap (take c.args.count) c.as_slice.ensures in
    subst (AreEntries c.args.edition) (sym front)
    (entries_take c.args.edition c.args.loaded.now.entries c.args.count c.requires.spelled.entries)

pub place_behind-requires-clause-short : goal.place_behind-requires-clause-short
place_behind-requires-clause-short c =
    let front : c.split_at.result.0.now ≡ take c.args.count c.args.loaded.now.entries =
    c.split_at.ensures.front ∙ ap (take c.args.count) c.as_slice.ensures in
    omega (
      arith,
      c.requires.gate,
      c.requires.short,
      ap (λ list. size (map (spelling c.args.edition) list)) front,
      sizes_take c.args.edition c.args.loaded.now.entries c.args.count,
      sizes_in c.args.edition (held_of c.args.loaded.now),
    )

pub bodies_count-requires : goal.bodies_count-requires
bodies_count-requires c = omega (
  arith,
  c.requires.short,
  fewer_than_bytes (base_bodies c.args.edition c.args.loaded.now.base),
  sizes_in c.args.edition (held_of c.args.loaded.now),
)

pub overflow_add-entry : goal.overflow_add-entry
overflow_add-entry c = omega (
  arith,
  c.requires.short,
  c.requires.within,
  c.bodies_count.ensures,
  fewer_than_bytes (base_bodies c.args.edition c.args.loaded.now.base),
  fewer_than_bytes (map (spelling c.args.edition) c.args.loaded.now.entries),
  length-map c.args.loaded.now.entries (spelling c.args.edition),
  sizes_in c.args.edition (held_of c.args.loaded.now),
)

pub returns-in-Ok : goal.returns-in-Ok
returns-in-Ok c =
    let front : c.split_at.result.0.now ≡ take c.args.count c.args.loaded.now.entries =
    c.split_at.ensures.front ∙ ap (take c.args.count) c.as_slice.ensures in
    told_behind c.args.edition (held_of c.args.loaded.now) c.args.count c.in-Ok.at
    (c.bodies_count.result + c.args.count) c.args.loaded.now.gate c.bodies_count.result
    c.requires.within c.requires.gate
    (c.in-Ok.ensures ∙ ap (λ list. c.args.loaded.now.gate + size (map (spelling c.args.edition) list)) front)
    c.bodies_count.ensures (omega arith)
