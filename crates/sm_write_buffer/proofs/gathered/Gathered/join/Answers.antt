use Rattle.sm_write_buffer.proofs.Overs.{pending_tells}
use Rattle.sm_write_buffer.proofs.Changes.{same_reads, same_images, same_again, placed_again, joined_reads, joined_images}
use Rattle.sm_write_buffer.proofs.gathered.Gathered.join.Goals as goal

pub invariant_of-self : goal.invariant_of-self
invariant_of-self g c =
    record {
      placed = placed_again c.args.file c.requires (g.D.Disk.sight c.args.self.now.disk) c.args.self.now.waiting
          c.take.new.self c.set.new.self
          c.take.result c.join-pending.result.0 c.take.ensures.taken c.take.ensures.rest c.set.ensures.set c.args.at
          c.args.piece.now
          c.join-pending.result.1 c.join-pending.ensures.joined c.join-pending.ensures.left c.args.self.now.placed;
      among = c.args.self.now.among;
    }

pub returns-clause-written : goal.returns-clause-written
returns-clause-written g c =
    λ joined. joined_reads c.args.file c.requires (g.D.Disk.sight c.args.self.now.disk) c.args.self.now.waiting
    c.take.new.self c.set.new.self
    c.take.result c.join-pending.result.0 c.take.ensures.taken c.take.ensures.rest c.set.ensures.set c.args.at
    c.args.piece.now
    (c.join-pending.ensures.joined joined) c.args.self.now.placed

pub returns-clause-crash : goal.returns-clause-crash
returns-clause-crash g c =
    λ joined. joined_images c.args.file c.requires (g.D.Disk.sight c.args.self.now.disk) c.args.self.now.waiting
    c.take.new.self c.set.new.self
    c.take.result c.join-pending.result.0 c.take.ensures.taken c.take.ensures.rest c.set.ensures.set c.args.at
    c.args.piece.now
    (c.join-pending.ensures.joined joined)

pub returns-clause-tells : goal.returns-clause-tells
returns-clause-tells g c =
    pending_tells (g.D.Disk.sight c.args.self.now.disk) c.args.self.now.waiting c.set.new.self

pub returns-clause-left_reads : goal.returns-clause-left_reads
returns-clause-left_reads g c =
    λ left. same_reads (g.D.Disk.sight c.args.self.now.disk) c.args.self.now.waiting c.set.new.self
    (same_again c.args.file c.requires (g.D.Disk.sight c.args.self.now.disk) c.args.self.now.waiting c.take.new.self
    c.set.new.self
    c.take.result c.join-pending.result.0 c.take.ensures.taken c.take.ensures.rest c.set.ensures.set
    (c.join-pending.ensures.left left))

pub returns-clause-left_crash : goal.returns-clause-left_crash
returns-clause-left_crash g c =
    λ left. same_images (g.D.Disk.sight c.args.self.now.disk) c.args.self.now.waiting c.set.new.self
    (same_again c.args.file c.requires (g.D.Disk.sight c.args.self.now.disk) c.args.self.now.waiting c.take.new.self
    c.set.new.self
    c.take.result c.join-pending.result.0 c.take.ensures.taken c.take.ensures.rest c.set.ensures.set
    (c.join-pending.ensures.left left))
