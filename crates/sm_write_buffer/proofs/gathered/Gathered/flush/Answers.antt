use Rattle.std.proofs.Common.{◌∙◌, ap}
use Rattle.sm_disk.specs.Steps.{OnFile}
use Rattle.sm_write_buffer.specs.Gathering.{MayDo, with_pending}
use Rattle.sm_write_buffer.specs.declared.pending.Pending.{Pending}
use Rattle.sm_write_buffer.specs.declared.pending.Pending.TheVariants.{Nothing}
use Rattle.sm_write_buffer.proofs.Slots.{put_back, put_same}
use Rattle.sm_write_buffer.proofs.Amongs.{among_stepped}
use Rattle.sm_write_buffer.proofs.Flushes.{fits, rest_nothing, placed_settled, flushed_images, flushed_reads, placed_again, kept_images, kept_reads}
use Rattle.sm_write_buffer.proofs.gathered.Gathered.flush.Goals as goal

pub settle-requires-clause-place : goal.settle-requires-clause-place
settle-requires-clause-place g c =
    fits c.args.file c.requires.file (g.D.Disk.sight c.args.self.now.disk) (g.D.Disk.sight c.args.self.now.disk)
    c.args.self.now.waiting
    c.take-pending.new.self c.take-pending.result c.take-pending.ensures.taken c.take-pending.ensures.rest
    c.args.self.now.placed

pub invariant_of-self : goal.invariant_of-self
invariant_of-self g c =
    record {
      placed = placed_settled c.args.file c.requires.file (g.D.Disk.sight c.args.self.now.disk) (g.D.Disk.sight
          c.settle.new.disk) c.args.self.now.waiting
          c.take-pending.new.self c.take-pending.result c.take-pending.ensures.taken c.take-pending.ensures.rest
          c.args.self.now.placed
          c.settle.ensures.tried;
      among = among_stepped g.D.Disk.sight (OnFile c.args.file (MayDo c.take-pending.result)) c.args.self.now.disk
          c.settle.new.disk c.args.self.now.past.items c.settle.ensures.crash c.requires.told c.args.self.now.among;
    }

pub invariant_of-self-in-Err : goal.invariant_of-self-in-Err
invariant_of-self-in-Err g c =
    record {
      placed = placed_again c.args.file c.requires.file (g.D.Disk.sight c.args.self.now.disk) (g.D.Disk.sight
          c.settle.new.disk) c.args.self.now.waiting
          c.take-pending.new.self c.take-pending.result c.take-pending.ensures.taken c.take-pending.ensures.rest
          c.args.self.now.placed
          c.set.new.self c.set.ensures.set c.settle.ensures.tried;
      among = among_stepped g.D.Disk.sight (OnFile c.args.file (MayDo c.take-pending.result)) c.args.self.now.disk
          c.settle.new.disk c.args.self.now.past.items c.settle.ensures.crash c.requires.told c.args.self.now.among;
    }

pub returns-in-Ok-clause-nothing : goal.returns-in-Ok-clause-nothing
returns-in-Ok-clause-nothing g c =
    rest_nothing c.args.file c.requires.file (g.D.Disk.sight c.args.self.now.disk) (g.D.Disk.sight c.settle.new.disk)
    c.args.self.now.waiting
    c.take-pending.new.self c.take-pending.result c.take-pending.ensures.taken c.take-pending.ensures.rest
    c.args.self.now.placed

pub returns-in-Ok-clause-reads : goal.returns-in-Ok-clause-reads
returns-in-Ok-clause-reads g c =
    flushed_reads c.args.file c.requires.file (g.D.Disk.sight c.args.self.now.disk) (g.D.Disk.sight c.settle.new.disk)
    c.args.self.now.waiting
    c.take-pending.new.self c.take-pending.result c.take-pending.ensures.taken c.take-pending.ensures.rest
    c.args.self.now.placed c.settle.ensures.tells
    (g.met.D.OneReading.one_reading c.args.self.now.disk) c.in-Ok.ensures.done

pub returns-in-Ok-clause-crash : goal.returns-in-Ok-clause-crash
returns-in-Ok-clause-crash g c =
    flushed_images c.args.file c.requires.file (g.D.Disk.sight c.args.self.now.disk) (g.D.Disk.sight c.settle.new.disk)
    c.args.self.now.waiting
    c.take-pending.new.self c.take-pending.result c.take-pending.ensures.taken c.take-pending.ensures.rest
    c.args.self.now.placed c.settle.ensures.crash

pub returns-in-Err-clause-reads : goal.returns-in-Err-clause-reads
returns-in-Err-clause-reads g c =
    kept_reads c.args.file c.requires.file (g.D.Disk.sight c.args.self.now.disk) (g.D.Disk.sight c.settle.new.disk)
    c.args.self.now.waiting
    c.take-pending.new.self c.take-pending.result c.take-pending.ensures.taken c.take-pending.ensures.rest
    c.args.self.now.placed
    c.set.new.self c.set.ensures.set c.settle.ensures.tried c.settle.ensures.tells
    (g.met.D.OneReading.one_reading c.args.self.now.disk)

pub returns-in-Err-clause-crash : goal.returns-in-Err-clause-crash
returns-in-Err-clause-crash g c =
    kept_images c.args.file c.requires.file (g.D.Disk.sight c.args.self.now.disk) (g.D.Disk.sight c.settle.new.disk)
    c.args.self.now.waiting
    c.take-pending.new.self c.take-pending.result c.take-pending.ensures.taken c.take-pending.ensures.rest
    c.args.self.now.placed
    c.set.new.self c.set.ensures.set c.settle.ensures.crash

pub returns-in-Err-clause-stays : goal.returns-in-Err-clause-stays
returns-in-Err-clause-stays g c =
    put_back c.args.file c.requires.file c.args.self.now.waiting c.take-pending.new.self c.set.new.self Nothing
    c.take-pending.result c.take-pending.ensures.rest c.set.ensures.set
    ∙ ap (λ (p : Pending). with_pending c.args.self.now.waiting c.args.file p) c.take-pending.ensures.taken
    ∙ put_same c.args.self.now.waiting c.args.file c.requires.file
