use Rattle.std.proofs.Common.{◌≡◌, ℕ, List, refl}
use Rattle.sm_journal.proofs.Settings.{starts, stays}
use Rattle.sm_journal.proofs.device.load.Goals as goal

abbrev Same : List ℕ → List ℕ → Type 0
Same old new = new ≡ old

pub returns-in_err-length-clause-run : goal.returns-in_err-length-clause-run
returns-in_err-length-clause-run g c =
    let disk = c.args.disk.now in
    let begins = starts c.args.file (g.D.Disk.sight disk) Same (g.met.D.Disk.only_now disk) (λ image was. refl) in
    let synced = stays c.args.file (g.D.Disk.sight disk) Same _
    (g.D.Disk.sight c.sync.new.self) begins c.sync.ensures.crash c.sync.ensures.reads in
    let measured = stays c.args.file (g.D.Disk.sight disk) Same _
    (g.D.Disk.sight c.length.new.self) synced c.length.ensures.crash c.length.ensures.reads in
    measured.leaves

pub returns-in_err-bytes-clause-run : goal.returns-in_err-bytes-clause-run
returns-in_err-bytes-clause-run g c =
    let disk = c.args.disk.now in
    let begins = starts c.args.file (g.D.Disk.sight disk) Same (g.met.D.Disk.only_now disk) (λ image was. refl) in
    let synced = stays c.args.file (g.D.Disk.sight disk) Same _
    (g.D.Disk.sight c.sync.new.self) begins c.sync.ensures.crash c.sync.ensures.reads in
    let measured = stays c.args.file (g.D.Disk.sight disk) Same _
    (g.D.Disk.sight c.length.new.self) synced c.length.ensures.crash c.length.ensures.reads in
    measured.leaves

pub returns-in_err-read-clause-run : goal.returns-in_err-read-clause-run
returns-in_err-read-clause-run g c =
    let disk = c.args.disk.now in
    let begins = starts c.args.file (g.D.Disk.sight disk) Same (g.met.D.Disk.only_now disk) (λ image was. refl) in
    let synced = stays c.args.file (g.D.Disk.sight disk) Same _
    (g.D.Disk.sight c.sync.new.self) begins c.sync.ensures.crash c.sync.ensures.reads in
    let measured = stays c.args.file (g.D.Disk.sight disk) Same _
    (g.D.Disk.sight c.length.new.self) synced c.length.ensures.crash c.length.ensures.reads in
    (stays c.args.file (g.D.Disk.sight disk) Same _ _ measured c.read.ensures.crash c.read.ensures.reads).leaves

pub returns-clause-run : goal.returns-clause-run
returns-clause-run g c =
    let disk = c.args.disk.now in
    let begins = starts c.args.file (g.D.Disk.sight disk) Same (g.met.D.Disk.only_now disk) (λ image was. refl) in
    let synced = stays c.args.file (g.D.Disk.sight disk) Same _
    (g.D.Disk.sight c.sync.new.self) begins c.sync.ensures.crash c.sync.ensures.reads in
    let measured = stays c.args.file (g.D.Disk.sight disk) Same _
    (g.D.Disk.sight c.length.new.self) synced c.length.ensures.crash c.length.ensures.reads in
    (stays c.args.file (g.D.Disk.sight disk) Same _ _ measured c.read.ensures.crash c.read.ensures.reads).leaves
