use Rattle.std.proofs.Common.{arith}
use Rattle.sm_journal.proofs.Settings.{cut_tried, cut_done, staging_unsynced, staging_synced}
use Rattle.sm_journal.proofs.device.cut_behind.Goals as goal

pub returns-in_err-cut-clause-run : goal.returns-in_err-cut-clause-run
returns-in_err-cut-clause-run g c before at images =
    let laws = g.met.D.Disk in
    cut_tried _ _ before (omega (arith, at)) _ _ (g.D.Disk.sight c.cut.new.self)
    (record {
      only_now = laws.only_now c.args.disk.now;
      reads_image = laws.reads_image c.args.disk.now;
      images =
          images;
    }) c.cut.ensures.crash c.cut.ensures.tells c.in_err-cut.ensures.tried

pub returns-in_err-sync-clause-run : goal.returns-in_err-sync-clause-run
returns-in_err-sync-clause-run g c before at images =
    let laws = g.met.D.Disk in
    staging_unsynced _ before _ _ _ _ (cut_done _ _ before (omega (arith, at)) _ _ (g.D.Disk.sight c.cut.new.self)
    (record {
      only_now = laws.only_now c.args.disk.now;
      reads_image = laws.reads_image c.args.disk.now;
      images =
          images;
    }) c.cut.ensures.crash c.cut.ensures.tells c.in_ok-cut.ensures.cut) c.sync.ensures.crash
    c.sync.ensures.reads

pub returns-clause-run : goal.returns-clause-run
returns-clause-run g c before at images =
    let laws = g.met.D.Disk in
    staging_unsynced _ before _ _ _ _ (cut_done _ _ before (omega (arith, at)) _ _ (g.D.Disk.sight c.cut.new.self)
    (record {
      only_now = laws.only_now c.args.disk.now;
      reads_image = laws.reads_image c.args.disk.now;
      images =
          images;
    }) c.cut.ensures.crash c.cut.ensures.tells c.in_ok-cut.ensures.cut) c.sync.ensures.crash
    c.sync.ensures.reads

pub returns-clause-cut : goal.returns-clause-cut
returns-clause-cut g c before at images =
    let laws = g.met.D.Disk in
    staging_synced _ before _ _ _ _ (cut_done _ _ before (omega (arith, at)) _ _ (g.D.Disk.sight c.cut.new.self)
    (record {
      only_now = laws.only_now c.args.disk.now;
      reads_image = laws.reads_image c.args.disk.now;
      images =
          images;
    }) c.cut.ensures.crash c.cut.ensures.tells c.in_ok-cut.ensures.cut) c.sync.ensures.crash
    c.sync.ensures.reads c.in_ok-sync.ensures.synced
