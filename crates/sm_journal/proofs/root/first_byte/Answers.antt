use Rattle.std.proofs.Common.{refl}
use Rattle.sm_journal.specs.Openings.{Equal}
use Rattle.sm_journal.specs.declared.root.TheConstants.{ROOT}
use Rattle.sm_journal.proofs.Settings.{starts, stays}
use Rattle.sm_journal.proofs.root.first_byte.Goals as goal

pub returns-in_err-length-clause-run : goal.returns-in_err-length-clause-run
returns-in_err-length-clause-run g c =
    let disk = c.args.disk.now in
    let begins = starts ROOT (g.D.Disk.sight disk) Equal (g.met.D.Disk.only_now disk) (λ image was. refl) in
    let synced = stays ROOT (g.D.Disk.sight disk) Equal _ (g.D.Disk.sight c.sync.new.self) begins c.sync.ensures.crash
    c.sync.ensures.reads in
    let measured = stays ROOT (g.D.Disk.sight disk) Equal _ (g.D.Disk.sight c.length.new.self) synced
    c.length.ensures.crash
    c.length.ensures.reads in
    measured.leaves

pub returns-then-length-eq0-clause-run : goal.returns-then-length-eq0-clause-run
returns-then-length-eq0-clause-run g c =
    let disk = c.args.disk.now in
    let begins = starts ROOT (g.D.Disk.sight disk) Equal (g.met.D.Disk.only_now disk) (λ image was. refl) in
    let synced = stays ROOT (g.D.Disk.sight disk) Equal _ (g.D.Disk.sight c.sync.new.self) begins c.sync.ensures.crash
    c.sync.ensures.reads in
    let measured = stays ROOT (g.D.Disk.sight disk) Equal _ (g.D.Disk.sight c.length.new.self) synced
    c.length.ensures.crash
    c.length.ensures.reads in
    measured.leaves

pub returns-in_err-read-clause-run : goal.returns-in_err-read-clause-run
returns-in_err-read-clause-run g c =
    let disk = c.args.disk.now in
    let begins = starts ROOT (g.D.Disk.sight disk) Equal (g.met.D.Disk.only_now disk) (λ image was. refl) in
    let synced = stays ROOT (g.D.Disk.sight disk) Equal _ (g.D.Disk.sight c.sync.new.self) begins c.sync.ensures.crash
    c.sync.ensures.reads in
    let measured = stays ROOT (g.D.Disk.sight disk) Equal _ (g.D.Disk.sight c.length.new.self) synced
    c.length.ensures.crash
    c.length.ensures.reads in
    let done = stays ROOT (g.D.Disk.sight disk) Equal _ (g.D.Disk.sight c.read.new.self) measured c.read.ensures.crash
    c.read.ensures.reads in
    done.leaves

pub returns-clause-run : goal.returns-clause-run
returns-clause-run g c =
    let disk = c.args.disk.now in
    let begins = starts ROOT (g.D.Disk.sight disk) Equal (g.met.D.Disk.only_now disk) (λ image was. refl) in
    let synced = stays ROOT (g.D.Disk.sight disk) Equal _ (g.D.Disk.sight c.sync.new.self) begins c.sync.ensures.crash
    c.sync.ensures.reads in
    let measured = stays ROOT (g.D.Disk.sight disk) Equal _ (g.D.Disk.sight c.length.new.self) synced
    c.length.ensures.crash
    c.length.ensures.reads in
    let done = stays ROOT (g.D.Disk.sight disk) Equal _ (g.D.Disk.sight c.read.new.self) measured c.read.ensures.crash
    c.read.ensures.reads in
    done.leaves
