use Rattle.std.proofs.Common.{flat_map, sym, subst, arith}
use Rattle.sm_base.proofs.PlaceLemmas.{took_one, took_none}
use Rattle.sm_record.specs.Rows.{version}
use Rattle.sm_record.specs.Snapshots.{one_version}
use Rattle.sm_store.proofs.FillRuns.{none_added, rests, room_here, added_here, went_on, passes_at}
use Rattle.sm_store.specs.Filling.{HasAdded}
use Rattle.sm_store.proofs.filling.put_versions.Goals as goal
use Rattle.sm_store.proofs.filling.put_versions.Goals.{in-Some+in_ok-put_version, in_default}

pub loop-place-init : goal.loop-place-init
loop-place-init g c = (
  none_added c.args.fresh.now c.requires.room.sure,
  rests c.args.fresh.now
      (g.met.D.Disk.only_now c.args.fresh.now.disk),
)

pub put_version-requires-clause-spelled : goal.put_version-requires-clause-spelled
put_version-requires-clause-spelled g c =
    passes_at version.fits c.args.versions.now c.loop-place.place c.in-Some.version.now (sym c.in-Some.ensures)
    c.requires.spelled

pub put_version-requires-clause-room : goal.put_version-requires-clause-room
put_version-requires-clause-room g c =
    room_here one_version c.args.versions.now c.loop-place.place c.in-Some.version.now
    (took_one c.args.versions.now c.loop-place.place c.in-Some.version.now (sym c.in-Some.ensures)) c.args.fresh.now
    c.loop-place.fresh c.requires.room c.loop-place.invariant.0

pub returns-in_err-put_version-clause-goes_on : goal.returns-in_err-put_version-clause-goes_on
returns-in_err-put_version-clause-goes_on g c =
    went_on c.args.fresh.now c.loop-place.fresh c.put_version.new.fresh c.loop-place.invariant.1
    c.put_version.ensures.goes_on

pub loop-place-preserved : goal.loop-place-preserved
loop-place-preserved g c =
    elim c.match-get.branch [
      | in-Some+in_ok-put_version w ↦
          rw w.fresh-is (
            added_here one_version c.args.versions.now c.loop-place.place w.in-Some.version.now
                (took_one c.args.versions.now c.loop-place.place w.in-Some.version.now (sym w.in-Some.ensures))
                c.args.fresh.now c.loop-place.fresh w.put_version.new.fresh c.loop-place.invariant.0
                w.in_ok-put_version.ensures.filled,
            went_on c.args.fresh.now c.loop-place.fresh w.put_version.new.fresh c.loop-place.invariant.1
                w.put_version.ensures.goes_on,
          )
      | in_default w ↦
          rw w.fresh-is (
            subst (λ l. HasAdded (flat_map one_version l) c.args.fresh.now c.loop-place.fresh)
                (sym (took_none c.args.versions.now c.loop-place.place
                (omega (arith, c.loop-place-test.true, c.len-place-end.ensures)) (sym w.in_default.ensures)))
                c.loop-place.invariant.0,
            c.loop-place.invariant.1,
          )
    ]
