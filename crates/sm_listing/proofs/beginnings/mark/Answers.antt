use Rattle.std.proofs.Common.{ℕ, List, ◌∙◌, sym, ap, arith}
use Rattle.sm_listing.specs.Beginnings.{parting, beginning_at}
use Rattle.sm_listing.proofs.PartingLemmas.{within_at, along_at, neither_at, gone_whole, gone_part}
use Rattle.sm_listing.proofs.MarkLemmas.{begins_so_far, kept_so_far, stays_so_far}
use Rattle.sm_listing.proofs.beginnings.mark.Goals.{then-ends_within, else-ends_within+then-goes_along+then-here-beginning}
use Rattle.sm_listing.proofs.beginnings.mark.Goals.{else-ends_within+then-goes_along+else-here-beginning, else-ends_within+else-goes_along}
use Rattle.sm_listing.proofs.beginnings.mark.Goals as goal

pub parting_past-here-requires : goal.parting_past-here-requires
parting_past-here-requires c =
    rw c.beginning_at-beginning.ensures
    (along_at c.args.sought.now.values c.loop-place.invariant.0.0 c.args.text.now
    c.loop-place.row.now c.loop-place.here (record { bytes = 0; next = 0 })
    c.loop-place.place c.loop-place.invariant.0.1
    c.loop-place.invariant.0.2
    (omega (arith, c.loop-place-test.true, c.len-place-end.ensures))
    (sym c.if-goes_along.true ∙ c.goes_along.ensures))

pub loop-place-preserved-then-marks-place : goal.loop-place-preserved-then-marks-place
loop-place-preserved-then-marks-place c = (
  c.loop-place.invariant.0,
  kept_so_far c.args.text.now c.args.sought.now.values c.args.marks.now c.loop-place.marks c.loop-place.place
      c.loop-place.invariant.1 (omega (arith, c.loop-place-test.true, c.len-place-end.ensures)) c.requires.room
      c.if-marks-place.true,
)

pub loop-place-preserved : goal.loop-place-preserved
loop-place-preserved c =
    elim c.if-ends_within.branch [
      | then-ends_within w ↦
          rw (w.marks-is, w.row-is, w.here-is) (
            c.loop-place.invariant.0,
            begins_so_far c.args.text.now c.args.sought.now.values c.args.marks.now c.loop-place.marks
                c.loop-place.place c.loop-place.invariant.1
                (omega (arith, c.loop-place-test.true, c.len-place-end.ensures))
                c.requires.room
                (within_at c.args.sought.now.values c.loop-place.invariant.0.0 c.args.text.now
                c.loop-place.row.now c.loop-place.here (record { bytes = 0; next = 0 })
                c.loop-place.place c.loop-place.invariant.0.1
                c.loop-place.invariant.0.2
                (omega (arith, c.loop-place-test.true, c.len-place-end.ensures))
                (sym w.if-ends_within.true ∙ c.ends_within.ensures)),
          )
      | else-ends_within+then-goes_along+then-here-beginning w ↦
          rw (w.marks-is, w.row-is, w.here-is) (
            (
              beginning_at c.args.sought.now.values c.loop-place.place,
              w.row_at-row-then-goes_along.ensures,
              w.parting_past-here.ensures
                  ∙ ap (λ (beginning : List ℕ). parting beginning c.args.text.now) w.beginning_at-beginning.ensures,
            ),
            begins_so_far c.args.text.now c.args.sought.now.values c.args.marks.now c.loop-place.marks
                c.loop-place.place c.loop-place.invariant.1
                (omega (arith, c.loop-place-test.true, c.len-place-end.ensures))
                c.requires.room
                (gone_whole c.args.sought.now.values c.args.text.now w.beginning_at-beginning.result.now
                w.parting_past-here.result c.loop-place.place w.beginning_at-beginning.ensures
                w.parting_past-here.ensures w.if-here-beginning.true),
          )
      | else-ends_within+then-goes_along+else-here-beginning w ↦
          rw (w.marks-is, w.row-is, w.here-is) (
            (
              beginning_at c.args.sought.now.values c.loop-place.place,
              w.row_at-row-then-goes_along.ensures,
              w.parting_past-here.ensures
                  ∙ ap (λ (beginning : List ℕ). parting beginning c.args.text.now) w.beginning_at-beginning.ensures,
            ),
            stays_so_far c.args.text.now c.args.sought.now.values c.args.marks.now c.loop-place.marks
                c.loop-place.place c.loop-place.invariant.1
                (omega (arith, c.loop-place-test.true, c.len-place-end.ensures))
                c.requires.room
                (gone_part c.args.sought.now.values c.args.text.now w.beginning_at-beginning.result.now
                w.parting_past-here.result c.loop-place.place w.beginning_at-beginning.ensures
                w.parting_past-here.ensures w.if-here-beginning.false),
          )
      | else-ends_within+else-goes_along w ↦
          rw (w.marks-is, w.row-is, w.here-is) (
            c.loop-place.invariant.0,
            stays_so_far c.args.text.now c.args.sought.now.values c.args.marks.now c.loop-place.marks
                c.loop-place.place c.loop-place.invariant.1
                (omega (arith, c.loop-place-test.true, c.len-place-end.ensures))
                c.requires.room
                (neither_at c.args.sought.now.values c.loop-place.invariant.0.0 c.args.text.now
                c.loop-place.row.now c.loop-place.here (record { bytes = 0; next = 0 })
                c.loop-place.place c.loop-place.invariant.0.1
                c.loop-place.invariant.0.2
                (omega (arith, c.loop-place-test.true, c.len-place-end.ensures))
                (sym w.if-ends_within.false ∙ c.ends_within.ensures)
                (sym w.if-goes_along.false ∙ w.goes_along.ensures)),
          )
    ]
