use Rattle.std.proofs.Common.{refl, sym, subst}
use Rattle.sm_disk.specs.OneFile.{Leaves}
use Rattle.sm_journal.specs.Openings.{Equal}
use Rattle.sm_journal.specs.Freshes.{disk_of, file_of}
use Rattle.sm_journal.proofs.Settings.{starts, stays}
use Rattle.sm_journal.proofs.fresh.Fresh.seal.Goals as goal

pub returns-in-Ok-clause-any_moment : goal.returns-in-Ok-clause-any_moment
returns-in-Ok-clause-any_moment g c =
    let fresh = c.args.self in
    let begins = starts fresh.file (g.D.Disk.sight fresh.disk) Equal (g.met.D.Disk.only_now fresh.disk)
    (λ image was. refl) in
    let run = (stays fresh.file (g.D.Disk.sight fresh.disk) Equal _ (g.D.Disk.sight c.sync.new.self) begins
    c.sync.ensures.crash c.sync.ensures.reads).leaves in
    subst (λ disk. Leaves fresh.file Equal Equal (g.D.Disk.sight fresh.disk) (g.D.Disk.sight disk))
    (sym c.at_rest.ensures.disk) run

pub returns-in-Err-clause-any_moment_err : goal.returns-in-Err-clause-any_moment_err
returns-in-Err-clause-any_moment_err g c =
    let fresh = c.args.self in
    let begins = starts fresh.file (g.D.Disk.sight fresh.disk) Equal (g.met.D.Disk.only_now fresh.disk)
    (λ image was. refl) in
    (stays fresh.file (g.D.Disk.sight fresh.disk) Equal _ (g.D.Disk.sight c.sync.new.self) begins
    c.sync.ensures.crash c.sync.ensures.reads).leaves
