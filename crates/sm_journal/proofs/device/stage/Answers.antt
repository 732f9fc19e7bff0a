use Rattle.std.proofs.Common.{ℕ, List, [], ◌∷◌, ◌++◌, length, ap, subst, arith, length-append}
use Rattle.sm_journal.specs.Records.{Closed}
use Rattle.sm_journal.proofs.Settings.{at_rest, piece_tried, piece_written, staging_unsynced, staging_synced}
use Rattle.sm_journal.proofs.device.stage.Goals as goal

pub returns-in_err-write_at-clause-run : goal.returns-in_err-write_at-clause-run
returns-in_err-write_at-clause-run g c before at images =
    let laws = g.met.D.Disk in
    let disk = c.args.disk.now in
    let len = c.to_be_bytes-length.result in
    let four = ap length c.to_be_bytes-length.ensures in
    let begins = at_rest c.args.file before (g.D.Disk.sight disk)
    (record { only_now = laws.only_now disk; reads_image = laws.reads_image disk; images = images }) in
    piece_tried c.args.file before (g.D.Disk.sight disk) _ [] len (omega (arith, at)) _
    (g.D.Disk.sight c.write_at.new.self) begins c.write_at.ensures.crash c.write_at.ensures.tells
    c.in_err-write_at.ensures.tried

pub returns-in_err-write_at-2-clause-run : goal.returns-in_err-write_at-2-clause-run
returns-in_err-write_at-2-clause-run g c before at images =
    let laws = g.met.D.Disk in
    let disk = c.args.disk.now in
    let len = c.to_be_bytes-length.result in
    let four = ap length c.to_be_bytes-length.ensures in
    let begins = at_rest c.args.file before (g.D.Disk.sight disk)
    (record { only_now = laws.only_now disk; reads_image = laws.reads_image disk; images = images }) in
    let first = piece_written c.args.file before (g.D.Disk.sight disk) _ [] len (omega (arith, at)) _
    (g.D.Disk.sight c.write_at.new.self) begins c.write_at.ensures.crash c.write_at.ensures.tells
    c.in_ok-write_at.ensures.written in
    piece_tried c.args.file before (g.D.Disk.sight disk) _ len c.args.body.now (omega (arith, at, four)) _
    (g.D.Disk.sight c.write_at-2.new.self) first c.write_at-2.ensures.crash c.write_at-2.ensures.tells
    c.in_err-write_at-2.ensures.tried

pub returns-in_err-write_at-3-clause-run : goal.returns-in_err-write_at-3-clause-run
returns-in_err-write_at-3-clause-run g c before at images =
    let laws = g.met.D.Disk in
    let disk = c.args.disk.now in
    let len = c.to_be_bytes-length.result in
    let four = ap length c.to_be_bytes-length.ensures in
    let begins = at_rest c.args.file before (g.D.Disk.sight disk)
    (record { only_now = laws.only_now disk; reads_image = laws.reads_image disk; images = images }) in
    let first = piece_written c.args.file before (g.D.Disk.sight disk) _ [] len (omega (arith, at)) _
    (g.D.Disk.sight c.write_at.new.self) begins c.write_at.ensures.crash c.write_at.ensures.tells
    c.in_ok-write_at.ensures.written in
    let second = piece_written c.args.file before (g.D.Disk.sight disk) _ len c.args.body.now
    (omega (arith, at, four)) _ (g.D.Disk.sight c.write_at-2.new.self) first c.write_at-2.ensures.crash
    c.write_at-2.ensures.tells c.in_ok-write_at-2.ensures.written in
    piece_tried c.args.file before (g.D.Disk.sight disk) _ (len ++ c.args.body.now) (0 ∷ [])
    (omega (arith, at, four, length-append len c.args.body.now)) _
    (g.D.Disk.sight c.write_at-3.new.self) second c.write_at-3.ensures.crash c.write_at-3.ensures.tells
    c.in_err-write_at-3.ensures.tried

pub returns-in_err-sync-clause-run : goal.returns-in_err-sync-clause-run
returns-in_err-sync-clause-run g c before at images =
    let laws = g.met.D.Disk in
    let disk = c.args.disk.now in
    let len = c.to_be_bytes-length.result in
    let four = ap length c.to_be_bytes-length.ensures in
    let begins = at_rest c.args.file before (g.D.Disk.sight disk)
    (record { only_now = laws.only_now disk; reads_image = laws.reads_image disk; images = images }) in
    let first = piece_written c.args.file before (g.D.Disk.sight disk) _ [] len (omega (arith, at)) _
    (g.D.Disk.sight c.write_at.new.self) begins c.write_at.ensures.crash c.write_at.ensures.tells
    c.in_ok-write_at.ensures.written in
    let second = piece_written c.args.file before (g.D.Disk.sight disk) _ len c.args.body.now
    (omega (arith, at, four)) _ (g.D.Disk.sight c.write_at-2.new.self) first c.write_at-2.ensures.crash
    c.write_at-2.ensures.tells c.in_ok-write_at-2.ensures.written in
    let third = piece_written c.args.file before (g.D.Disk.sight disk) _ (len ++ c.args.body.now) (0 ∷ [])
    (omega (arith, at, four, length-append len c.args.body.now)) _
    (g.D.Disk.sight c.write_at-3.new.self) second c.write_at-3.ensures.crash c.write_at-3.ensures.tells
    c.in_ok-write_at-3.ensures.written in
    staging_unsynced c.args.file before (g.D.Disk.sight disk) _ _ _ third c.sync.ensures.crash c.sync.ensures.reads

pub returns-clause-run : goal.returns-clause-run
returns-clause-run g c before at images =
    let laws = g.met.D.Disk in
    let disk = c.args.disk.now in
    let len = c.to_be_bytes-length.result in
    let four = ap length c.to_be_bytes-length.ensures in
    let begins = at_rest c.args.file before (g.D.Disk.sight disk)
    (record { only_now = laws.only_now disk; reads_image = laws.reads_image disk; images = images }) in
    let first = piece_written c.args.file before (g.D.Disk.sight disk) _ [] len (omega (arith, at)) _
    (g.D.Disk.sight c.write_at.new.self) begins c.write_at.ensures.crash c.write_at.ensures.tells
    c.in_ok-write_at.ensures.written in
    let second = piece_written c.args.file before (g.D.Disk.sight disk) _ len c.args.body.now
    (omega (arith, at, four)) _ (g.D.Disk.sight c.write_at-2.new.self) first c.write_at-2.ensures.crash
    c.write_at-2.ensures.tells c.in_ok-write_at-2.ensures.written in
    let third = piece_written c.args.file before (g.D.Disk.sight disk) _ (len ++ c.args.body.now) (0 ∷ [])
    (omega (arith, at, four, length-append len c.args.body.now)) _
    (g.D.Disk.sight c.write_at-3.new.self) second c.write_at-3.ensures.crash c.write_at-3.ensures.tells
    c.in_ok-write_at-3.ensures.written in
    staging_unsynced c.args.file before (g.D.Disk.sight disk) _ _ _ third c.sync.ensures.crash c.sync.ensures.reads

pub returns-clause-staged : goal.returns-clause-staged
returns-clause-staged g c before at images =
    let laws = g.met.D.Disk in
    let disk = c.args.disk.now in
    let len = c.to_be_bytes-length.result in
    let four = ap length c.to_be_bytes-length.ensures in
    let begins = at_rest c.args.file before (g.D.Disk.sight disk)
    (record { only_now = laws.only_now disk; reads_image = laws.reads_image disk; images = images }) in
    let first = piece_written c.args.file before (g.D.Disk.sight disk) _ [] len (omega (arith, at)) _
    (g.D.Disk.sight c.write_at.new.self) begins c.write_at.ensures.crash c.write_at.ensures.tells
    c.in_ok-write_at.ensures.written in
    let second = piece_written c.args.file before (g.D.Disk.sight disk) _ len c.args.body.now
    (omega (arith, at, four)) _ (g.D.Disk.sight c.write_at-2.new.self) first c.write_at-2.ensures.crash
    c.write_at-2.ensures.tells c.in_ok-write_at-2.ensures.written in
    let third = piece_written c.args.file before (g.D.Disk.sight disk) _ (len ++ c.args.body.now) (0 ∷ [])
    (omega (arith, at, four, length-append len c.args.body.now)) _
    (g.D.Disk.sight c.write_at-3.new.self) second c.write_at-3.ensures.crash c.write_at-3.ensures.tells
    c.in_ok-write_at-3.ensures.written in
    let staged = staging_synced c.args.file before (g.D.Disk.sight disk) _ _ _ third c.sync.ensures.crash
    c.sync.ensures.reads c.in_ok-sync.ensures.synced in
    λ image here. subst (λ (l : List ℕ). Closed before (l ++ c.args.body.now ++ 0 ∷ []) (image c.args.file))
    c.to_be_bytes-length.ensures (staged image here)
