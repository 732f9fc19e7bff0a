use Rattle.std.proofs.Common.{[], ◌∷◌}
use Rattle.sm_disk.specs.OneFile.{Anyhow}
use Rattle.sm_journal.proofs.Tears.{record_held}
use Rattle.sm_journal.proofs.Settings.{starts, writes}
use Rattle.sm_journal.proofs.device.extend.Goals as goal

pub returns-in_err-write_at-clause-run : goal.returns-in_err-write_at-clause-run
returns-in_err-write_at-clause-run g c =
    let disk = c.args.disk.now in
    let begins = starts c.args.file (g.D.Disk.sight disk) Anyhow (g.met.D.Disk.only_now disk) (λ image was. tt) in
    let first = writes c.args.file (g.D.Disk.sight disk) _ (g.D.Disk.sight c.write_at.new.self) _ _ begins
    c.write_at.ensures.crash c.write_at.ensures.tells c.in_err-write_at.ensures.tried in
    first.leaves

pub returns-in_err-write_at-2-clause-run : goal.returns-in_err-write_at-2-clause-run
returns-in_err-write_at-2-clause-run g c =
    let disk = c.args.disk.now in
    let begins = starts c.args.file (g.D.Disk.sight disk) Anyhow (g.met.D.Disk.only_now disk) (λ image was. tt) in
    let first = writes c.args.file (g.D.Disk.sight disk) _ (g.D.Disk.sight c.write_at.new.self) _ _ begins
    c.write_at.ensures.crash c.write_at.ensures.tells c.in_ok-write_at.ensures.written in
    let second = writes c.args.file (g.D.Disk.sight disk) _ (g.D.Disk.sight c.write_at-2.new.self) _ _ first
    c.write_at-2.ensures.crash c.write_at-2.ensures.tells c.in_err-write_at-2.ensures.tried in
    second.leaves

pub returns-in_err-write_at-3-clause-run : goal.returns-in_err-write_at-3-clause-run
returns-in_err-write_at-3-clause-run g c =
    let disk = c.args.disk.now in
    let begins = starts c.args.file (g.D.Disk.sight disk) Anyhow (g.met.D.Disk.only_now disk) (λ image was. tt) in
    let first = writes c.args.file (g.D.Disk.sight disk) _ (g.D.Disk.sight c.write_at.new.self) _ _ begins
    c.write_at.ensures.crash c.write_at.ensures.tells c.in_ok-write_at.ensures.written in
    let second = writes c.args.file (g.D.Disk.sight disk) _ (g.D.Disk.sight c.write_at-2.new.self) _ _ first
    c.write_at-2.ensures.crash c.write_at-2.ensures.tells c.in_ok-write_at-2.ensures.written in
    let third = writes c.args.file (g.D.Disk.sight disk) _ (g.D.Disk.sight c.write_at-3.new.self) _ _ second
    c.write_at-3.ensures.crash c.write_at-3.ensures.tells c.in_err-write_at-3.ensures.tried in
    third.leaves

pub returns-clause-run : goal.returns-clause-run
returns-clause-run g c =
    let disk = c.args.disk.now in
    let begins = starts c.args.file (g.D.Disk.sight disk) Anyhow (g.met.D.Disk.only_now disk) (λ image was. tt) in
    let first = writes c.args.file (g.D.Disk.sight disk) _ (g.D.Disk.sight c.write_at.new.self) _ _ begins
    c.write_at.ensures.crash c.write_at.ensures.tells c.in_ok-write_at.ensures.written in
    let second = writes c.args.file (g.D.Disk.sight disk) _ (g.D.Disk.sight c.write_at-2.new.self) _ _ first
    c.write_at-2.ensures.crash c.write_at-2.ensures.tells c.in_ok-write_at-2.ensures.written in
    let third = writes c.args.file (g.D.Disk.sight disk) _ (g.D.Disk.sight c.write_at-3.new.self) _ _ second
    c.write_at-3.ensures.crash c.write_at-3.ensures.tells c.in_ok-write_at-3.ensures.written in
    third.leaves

pub returns-clause-extended : goal.returns-clause-extended
returns-clause-extended g c before at was s read =
    let third = c.in_ok-write_at-3.ensures.written s read in
    let second = c.in_ok-write_at-2.ensures.written third.0 third.1 in
    let first = c.in_ok-write_at.ensures.written second.0 second.1 in
    record_held c.args.gate before c.opening-opening.result c.args.body.now (first.0 c.args.file) (second.0 c.args.file)
    (third.0 c.args.file) (s c.args.file) at c.opening-opening.ensures (was first.0 first.1) first.2.changed
    second.2.changed
    third.2.changed
