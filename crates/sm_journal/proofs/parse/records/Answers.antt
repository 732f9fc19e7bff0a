use Rattle.std.proofs.Common.{◌≡◌, ℕ, List, length, take, sym, ap, subst, length-drop, arith, rules}
use Rattle.std.proofs.lemmas.List.{take_rest}
use Rattle.sm_journal.specs.Records.{size, AreWithin}
use Rattle.sm_journal.specs.Places.{bodies_at, AreInside}
use Rattle.sm_journal.proofs.PlaceRuns.{pushed_body, body_stands, inside_push, fits_behind}
use Rattle.sm_journal.proofs.Readings.{begun, further, shorter, still_within}
use Rattle.sm_journal.proofs.parse.records.Goals as goal

pub loop-behind-init : goal.loop-behind-init
loop-behind-init c =
    let none = c.new-places.ensures.items in
    let no_bodies = ap (bodies_at c.args.bytes.now) none in
    let rest = take_rest c.args.bytes.now 8 in
    record {
      split = begun c.args.format c.args.bytes.now _ _ c.requires.header rest no_bodies;
      inside = subst (AreInside c.args.bytes.now) (sym none) tt;
      within = subst AreWithin (sym no_bodies) tt;
      size = omega (arith, ap size no_bodies, ap length rest, length-drop 8 c.args.bytes.now);
      more = omega (arith, ap length rest, length-drop 8 c.args.bytes.now);
    }

pub place_before-requires : goal.place_before-requires
place_before-requires c =
    omega (
      arith,
      c.loop-behind.invariant.size,
      fits_behind c.loop-behind.rest.now c.in-Some.behind.now c.in-Some-split_record.body.now
          c.in-Some-split_record.next.now c.in-Some.ensures.open c.in-Some-split_record.ensures.split,
    )

pub loop-behind-preserved : goal.loop-behind-preserved
loop-behind-preserved c =
    let now = c.loop-behind.invariant in
    let place = c.place_before in
    let open_gate = c.in-Some.ensures.open in
    let split = c.in-Some-split_record.ensures.split in
    let pushed = pushed_body c.args.bytes.now _ _ place.result c.in_ok-push.ensures.items in
    let same = body_stands c.args.format c.args.bytes.now _ _ _ _ _ open_gate split now.split place.result
    place.ensures.start place.ensures.length in
    record {
      split = further _ _ _ _ _ _ _ open_gate split pushed same c.args.format c.args.bytes.now now.split;
      inside = inside_push c.args.bytes.now _ _ place.result now.inside
          (omega (arith, place.ensures.start, place.ensures.length)) c.in_ok-push.ensures.items;
      within = still_within _ _ _ _ _ _ _ open_gate split pushed same now.within c.in-Some-split_record.ensures.within;
      size = shorter _ _ _ _ _ _ _ open_gate split pushed same c.args.bytes.now now.size;
      more = c.in-Some-split_record.ensures.gate;
    }
