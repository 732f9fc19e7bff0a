use Rattle.std.proofs.Common.{◌≡◌, length, Err, inr, refl, sym, ap, subst, arith}
use Rattle.sm_disk.specs.OneFile.{Leaves}
use Rattle.sm_journal.specs.Places.{bodies_at}
use Rattle.sm_journal.specs.Records.{front, Loose, SameList}
use Rattle.sm_journal.proofs.Front.{length-front, loose_recovers}
use Rattle.sm_journal.proofs.StandsLemmas.{keeps_list, one_kept}
use Rattle.sm_journal.proofs.open.open_old.Goals as goal

pub returns-in-Ok-settle-clause-opened : goal.returns-in-Ok-settle-clause-opened
returns-in-Ok-settle-clause-opened g c images =
    let parsed = c.in-Ok.field-0 in
    let bodies = bodies_at c.args.bytes.now parsed.places.items in
    let list = c.in-Ok.ensures.list in
    let at : parsed.gate ≡ length (front parsed.format bodies) =
    omega (arith, c.in-Ok.ensures.gate, length-front parsed.format bodies) in
    c.at_rest.ensures.opened bodies c.in-Ok.ensures.gate list.0
    (c.in-Ok-settle.ensures.rest (front parsed.format bodies) at list.1 images)

pub returns-in-Ok-settle-clause-run : goal.returns-in-Ok-settle-clause-run
returns-in-Ok-settle-clause-run g c images =
    let parsed = c.in-Ok.field-0 in
    let bodies = bodies_at c.args.bytes.now parsed.places.items in
    let list = c.in-Ok.ensures.list in
    let at : parsed.gate ≡ length (front parsed.format bodies) =
    omega (arith, c.in-Ok.ensures.gate, length-front parsed.format bodies) in
    let run = c.in-Ok-settle.ensures.run (front parsed.format bodies) at list.1 images in
    subst (λ disk. Leaves c.args.file SameList SameList (g.D.Disk.sight c.args.disk) (g.D.Disk.sight disk))
    (sym c.at_rest.ensures.disk)
    (keeps_list c.args.file c.args.bytes.now (Loose (front parsed.format bodies)) _ _
    (λ y loose. one_kept c.args.bytes.now y parsed.format bodies c.requires.long
    (inr (c.requires.long, list.0, list.1)) (loose_recovers parsed.format bodies list.0 y loose)) images run)

pub returns-in-Err-clause-refused : goal.returns-in-Err-clause-refused
returns-in-Err-clause-refused g c =
    let parsed = c.in-Ok.field-0 in
    let bodies = bodies_at c.args.bytes.now parsed.places.items in
    let list = c.in-Ok.ensures.list in
    let at : parsed.gate ≡ length (front parsed.format bodies) =
    omega (arith, c.in-Ok.ensures.gate, length-front parsed.format bodies) in (
      λ images. keeps_list c.args.file c.args.bytes.now (Loose (front parsed.format bodies)) _ _
          (λ y loose. one_kept c.args.bytes.now y parsed.format bodies c.requires.long
          (inr (c.requires.long, list.0, list.1)) (loose_recovers parsed.format bodies list.0 y loose)) images
          (c.in-Err.ensures.run_err (front parsed.format bodies) at list.1 images),
      c.in-Err.ensures.failed.0,
      c.in-Err.ensures.failed.1,
    )

pub returns-in-Err-Damaged-clause-refused : goal.returns-in-Err-Damaged-clause-refused
returns-in-Err-Damaged-clause-refused g c =
    (refl, c.in-Err-Damaged.ensures.damaged c.in-Err-Damaged.damage (ap Err c.in-Err-Damaged.field-0-is))
