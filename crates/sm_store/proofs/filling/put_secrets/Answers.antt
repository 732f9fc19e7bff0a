use Rattle.sm_record.specs.Rows.{secret}
use Rattle.sm_record.specs.Snapshots.{secret_bodies}
use Rattle.sm_record.specs.declared.edition.Edition.TheVariants as editions
use Rattle.sm_store.proofs.FillRuns.{none_added, rests, room_here, added_here, went_on, next_of, passes_next}
use Rattle.sm_store.proofs.filling.put_secrets.Goals as goal

pub loop-row-init : goal.loop-row-init
loop-row-init g c = (
  none_added c.args.fresh.now c.requires.room.sure,
  rests c.args.fresh.now
      (g.met.D.Disk.only_now c.args.fresh.now.disk),
)

pub put_secret-requires-clause-spelled : goal.put_secret-requires-clause-spelled
put_secret-requires-clause-spelled g c =
    passes_next (secret editions.Second).fits c.args.secrets.now c.loop-row.row-index c.row-item.result
    c.loop-row-test.true c.row-item.is c.requires.spelled

pub put_secret-requires-clause-room : goal.put_secret-requires-clause-room
put_secret-requires-clause-room g c =
    room_here (secret_bodies editions.Second) c.args.secrets.now c.loop-row.row-index c.row-item.result
    (next_of c.args.secrets.now c.loop-row.row-index c.row-item.result c.loop-row-test.true c.row-item.is)
    c.args.fresh.now c.loop-row.fresh c.requires.room c.loop-row.invariant.0

pub returns-in_err-put_secret-clause-goes_on : goal.returns-in_err-put_secret-clause-goes_on
returns-in_err-put_secret-clause-goes_on g c =
    went_on c.args.fresh.now c.loop-row.fresh c.put_secret.new.fresh c.loop-row.invariant.1 c.put_secret.ensures.goes_on

pub loop-row-preserved : goal.loop-row-preserved
loop-row-preserved g c = (
  added_here (secret_bodies editions.Second) c.args.secrets.now c.loop-row.row-index c.row-item.result
      (next_of c.args.secrets.now c.loop-row.row-index c.row-item.result c.loop-row-test.true c.row-item.is)
      c.args.fresh.now c.loop-row.fresh c.put_secret.new.fresh c.loop-row.invariant.0
      c.in_ok-put_secret.ensures.filled,
  went_on c.args.fresh.now c.loop-row.fresh c.put_secret.new.fresh c.loop-row.invariant.1
      c.put_secret.ensures.goes_on,
)
