use Rattle.std.proofs.Common.{◌<◌, length, ap, arith}
use Rattle.sm_journal.proofs.PlaceRuns.{length_bodies, place_inside}
use Rattle.sm_journal.proofs.records.Records.body.Goals as goal

pub slice_at-requires : goal.slice_at-requires
slice_at-requires c =
    let bytes = c.self.inside.bytes.items in
    let places = c.self.inside.places.items in
    let lt : c.args.index < length places =
    omega (arith, c.requires, ap length c.self.view_is, length_bodies bytes places) in
    omega (
      arith,
      ap length c.as_slice.ensures.value,
      place_inside bytes places c.args.index _ c.index.result.now c.self.invariant lt c.index.ensures,
    )
