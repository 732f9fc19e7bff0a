use Rattle.sm_disk.specs.OneFile.{Anyhow}
use Rattle.sm_journal.specs.declared.root.TheConstants.{ROOT}
use Rattle.sm_journal.proofs.Settings.{starts, stays, writes}
use Rattle.sm_journal.proofs.root.set_root.Goals as goal

pub returns-in_err-write_at-clause-run : goal.returns-in_err-write_at-clause-run
returns-in_err-write_at-clause-run g c =
    let disk = c.args.disk.now in
    let begins = starts ROOT (g.D.Disk.sight disk) Anyhow (g.met.D.Disk.only_now disk) (λ image was. tt) in
    let first = writes ROOT (g.D.Disk.sight disk) _ (g.D.Disk.sight c.write_at.new.self) _ _ begins
    c.write_at.ensures.crash c.write_at.ensures.tells c.in_err-write_at.ensures.tried in
    first.leaves

pub returns-in_err-sync-clause-run : goal.returns-in_err-sync-clause-run
returns-in_err-sync-clause-run g c =
    let disk = c.args.disk.now in
    let begins = starts ROOT (g.D.Disk.sight disk) Anyhow (g.met.D.Disk.only_now disk) (λ image was. tt) in
    let first = writes ROOT (g.D.Disk.sight disk) _ (g.D.Disk.sight c.write_at.new.self) _ _ begins
    c.write_at.ensures.crash c.write_at.ensures.tells c.in_ok-write_at.ensures.written in
    (stays ROOT (g.D.Disk.sight disk) Anyhow _ (g.D.Disk.sight c.sync.new.self) first c.sync.ensures.crash
    c.sync.ensures.reads).leaves

pub returns-clause-run : goal.returns-clause-run
returns-clause-run g c =
    let disk = c.args.disk.now in
    let begins = starts ROOT (g.D.Disk.sight disk) Anyhow (g.met.D.Disk.only_now disk) (λ image was. tt) in
    let first = writes ROOT (g.D.Disk.sight disk) _ (g.D.Disk.sight c.write_at.new.self) _ _ begins
    c.write_at.ensures.crash c.write_at.ensures.tells c.in_ok-write_at.ensures.written in
    (stays ROOT (g.D.Disk.sight disk) Anyhow _ (g.D.Disk.sight c.sync.new.self) first c.sync.ensures.crash
    c.sync.ensures.reads).leaves
