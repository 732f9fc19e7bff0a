use Rattle.sm_journal.proofs.Settings.{gate_tried, gate_unsynced, gate_set}
use Rattle.sm_journal.proofs.Tears.{held_byte}
use Rattle.sm_journal.proofs.device.set_gate.Goals as goal

pub returns-in_err-write_at-clause-run : goal.returns-in_err-write_at-clause-run
returns-in_err-write_at-clause-run g c before behind at images =
    let laws = g.met.D.Disk in
    (gate_tried _ _ c.args.byte before behind at _ _ (g.D.Disk.sight c.write_at.new.self)
    (record {
      only_now = laws.only_now c.args.disk.now;
      reads_image = laws.reads_image c.args.disk.now;
      images =
          images;
    }) c.write_at.ensures.crash c.write_at.ensures.tells c.in_err-write_at.ensures.tried).leaves

pub returns-in_err-sync-clause-run : goal.returns-in_err-sync-clause-run
returns-in_err-sync-clause-run g c before behind at images =
    let laws = g.met.D.Disk in
    gate_unsynced _ _ c.args.byte before behind at _ _ _
    (record {
      only_now = laws.only_now c.args.disk.now;
      reads_image = laws.reads_image c.args.disk.now;
      images =
          images;
    }) c.write_at.ensures.crash c.write_at.ensures.tells c.in_ok-write_at.ensures.written
    c.sync.ensures.crash c.sync.ensures.reads

pub returns-clause-run : goal.returns-clause-run
returns-clause-run g c before behind at images =
    let laws = g.met.D.Disk in
    gate_unsynced _ _ c.args.byte before behind at _ _ _
    (record {
      only_now = laws.only_now c.args.disk.now;
      reads_image = laws.reads_image c.args.disk.now;
      images =
          images;
    }) c.write_at.ensures.crash c.write_at.ensures.tells c.in_ok-write_at.ensures.written
    c.sync.ensures.crash c.sync.ensures.reads

pub returns-clause-set : goal.returns-clause-set
returns-clause-set g c before behind at images =
    let laws = g.met.D.Disk in
    gate_set _ _ c.args.byte before behind at _ _ _
    (record {
      only_now = laws.only_now c.args.disk.now;
      reads_image = laws.reads_image c.args.disk.now;
      images =
          images;
    }) c.write_at.ensures.crash c.write_at.ensures.tells c.in_ok-write_at.ensures.written
    c.sync.ensures.crash c.sync.ensures.reads c.in_ok-sync.ensures.synced

pub returns-in_err-sync-clause-lengths : goal.returns-in_err-sync-clause-lengths
returns-in_err-sync-clause-lengths g c s reads =
    let from = c.in_ok-write_at.ensures.written s (c.sync.ensures.reads.nothing_new s reads) in (
      from.0,
      from.1,
      record {
        changed = held_byte c.args.gate c.args.byte (from.0 c.args.file) (s c.args.file)
            (c.requires.place from.0 from.1) from.2.changed;
        others = from.2.others;
      },
    )

pub returns-clause-lengths : goal.returns-clause-lengths
returns-clause-lengths g c s reads =
    let from = c.in_ok-write_at.ensures.written s (c.sync.ensures.reads.nothing_new s reads) in (
      from.0,
      from.1,
      record {
        changed = held_byte c.args.gate c.args.byte (from.0 c.args.file) (s c.args.file)
            (c.requires.place from.0 from.1) from.2.changed;
        others = from.2.others;
      },
    )
