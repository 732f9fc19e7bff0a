use Rattle.std.proofs.Common.{inr, refl}
use Rattle.sm_disk.specs.Steps.{IsCut, CutOrNot, OnFile}
use Rattle.sm_write_buffer.specs.declared.pending.Pending.TheVariants.{Cut}
use Rattle.sm_write_buffer.proofs.Overs.{after_same, pending_tells}
use Rattle.sm_write_buffer.proofs.Flushes.{placed_changed}
use Rattle.sm_write_buffer.proofs.Amongs.{image_before}
use Rattle.sm_write_buffer.proofs.Changes.{cut_reads, cut_images, place_below}
use Rattle.sm_write_buffer.proofs.Kepts.{at_err, same_step, kept_follows, kept_tells, keeps_telling}
use Rattle.sm_write_buffer.proofs.gathered.Gathered.hold_cut.Goals as goal

pub returns-in_err-clear-clause-tried : goal.returns-in_err-clear-clause-tried
returns-in_err-clear-clause-tried g c =
    at_err c.from_residual.result c.clear.ensures.reads

pub returns-in_err-clear-clause-crash : goal.returns-in_err-clear-clause-crash
returns-in_err-clear-clause-crash g c =
    same_step c.args.file (CutOrNot c.args.end) _ _ (λ x. inr refl) c.clear.ensures.crash

pub returns-in_err-clear-clause-tells : goal.returns-in_err-clear-clause-tells
returns-in_err-clear-clause-tells g c =
    keeps_telling _ _ c.clear.ensures.reads

pub invariant_of-self : goal.invariant_of-self
invariant_of-self g c =
    record {
      placed = placed_changed c.args.file c.requires.file (g.D.Disk.sight c.clear.new.self.disk)
          c.clear.new.self.waiting c.set.new.self
          (Cut c.args.end) c.set.ensures.set c.clear.new.self.placed
          (place_below c.args.file c.args.end (g.D.Disk.sight c.clear.new.self.disk) c.clear.new.self.waiting
          c.in_ok-clear.ensures.behind c.clear.new.self.placed
          (λ s read. c.requires.place s (c.clear.ensures.reads.nothing_new s read)));
      among = c.clear.new.self.among;
    }

pub returns-clause-cut : goal.returns-clause-cut
returns-clause-cut g c =
    kept_follows (OnFile c.args.file (IsCut c.args.end)) _ _ _ c.clear.ensures.reads
    (cut_reads c.args.file c.requires.file (g.D.Disk.sight c.clear.new.self.disk) c.clear.new.self.waiting
    c.set.new.self
    (Cut c.args.end) c.set.ensures.set c.args.end refl c.in_ok-clear.ensures.behind c.clear.new.self.placed)

pub returns-clause-crash : goal.returns-clause-crash
returns-clause-crash g c =
    after_same c.args.file (CutOrNot c.args.end) _ _ _ c.clear.ensures.crash
    (cut_images c.args.file c.requires.file (g.D.Disk.sight c.clear.new.self.disk) c.clear.new.self.waiting
    c.set.new.self
    (Cut c.args.end) c.set.ensures.set c.args.end refl)

pub returns-clause-tells : goal.returns-clause-tells
returns-clause-tells g c =
    kept_tells _ _ _ c.clear.ensures.reads
    (pending_tells (g.D.Disk.sight c.clear.new.self.disk) c.clear.new.self.waiting c.set.new.self)

pub returns-in_err-clear-clause-below : goal.returns-in_err-clear-clause-below
returns-in_err-clear-clause-below g c =
    image_before (g.D.Disk.sight c.args.self.now.disk) (g.D.Disk.sight c.clear.new.self.disk)
    c.args.self.now.waiting c.clear.new.self.waiting c.clear.ensures.crash

pub returns-clause-below : goal.returns-clause-below
returns-clause-below g c =
    image_before (g.D.Disk.sight c.args.self.now.disk) (g.D.Disk.sight c.clear.new.self.disk)
    c.args.self.now.waiting c.clear.new.self.waiting c.clear.ensures.crash
