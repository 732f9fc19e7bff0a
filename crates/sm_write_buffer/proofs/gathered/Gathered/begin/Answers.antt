use Rattle.std.proofs.Common.{◌≡◌, ◌≤◌, length, ap, arith}
use Rattle.std.proofs.lemmas.Result.{on_ok_weaker, on_err_weaker}
use Rattle.sm_disk.specs.Steps.{Holds, Torn, OnFile}
use Rattle.sm_write_buffer.specs.Gathering.{place}
use Rattle.sm_write_buffer.proofs.Settled.{tried_torn}
use Rattle.sm_write_buffer.proofs.Overs.{pending_tells, below_tells, below_reads, below_images}
use Rattle.sm_write_buffer.proofs.Flushes.{placed_changed, placed_below}
use Rattle.sm_write_buffer.proofs.Amongs.{among_stepped}
use Rattle.sm_write_buffer.proofs.Changes.{begun_reads, begun_images, place_below, nothing_behind}
use Rattle.sm_write_buffer.proofs.gathered.Gathered.begin.Goals as goal

pub invariant_of-self : goal.invariant_of-self
invariant_of-self g c = record {
  placed = placed_changed c.args.file c.requires.file (g.D.Disk.sight c.args.self.now.disk) c.args.self.now.waiting
      c.set.new.self c.in-Some.write c.set.ensures.set c.args.self.now.placed (λ x read.
      let begins : c.args.at ≤ length (x c.args.file) = place_below c.args.file c.args.at
      (g.D.Disk.sight c.args.self.now.disk) c.args.self.now.waiting (nothing_behind c.args.at _ c.requires.nothing)
      c.args.self.now.placed c.requires.place x read in
      let same : place c.in-Some.write ≡ c.args.at = ap place c.in-Some.ensures in omega (arith, begins, same));
  among = c.args.self.now.among;
}

pub write_at-requires-clause-place : goal.write_at-requires-clause-place
write_at-requires-clause-place g c = place_below c.args.file c.args.at (g.D.Disk.sight c.args.self.now.disk)
    c.args.self.now.waiting (nothing_behind c.args.at _ c.requires.nothing) c.args.self.now.placed c.requires.place

pub invariant_of-self-in-None : goal.invariant_of-self-in-None
invariant_of-self-in-None g c = record {
  placed = placed_below c.args.file (g.D.Disk.sight c.args.self.now.disk) (g.D.Disk.sight c.write_at.new.self)
      c.args.self.now.waiting (Torn c.args.at (length c.args.piece.now))
      (tried_torn c.args.file c.args.at (g.D.Disk.sight c.args.self.now.disk).reads
      (g.D.Disk.sight c.write_at.new.self).reads c.write_at.result c.args.piece.now c.write_at.ensures.written
      c.write_at.ensures.tried) c.requires.nothing c.args.self.now.placed;
  among = among_stepped g.D.Disk.sight (OnFile c.args.file (Torn c.args.at (length c.args.piece.now)))
      c.args.self.now.disk c.write_at.new.self c.args.self.now.past.items c.write_at.ensures.crash c.requires.told
      c.args.self.now.among;
}

pub returns-in-Some-clause-written : goal.returns-in-Some-clause-written
returns-in-Some-clause-written g c = begun_reads c.args.file c.requires.file (g.D.Disk.sight c.args.self.now.disk)
    c.args.self.now.waiting c.set.new.self c.in-Some.write c.set.ensures.set c.args.at c.args.piece.now
    c.in-Some.ensures c.requires.nothing c.args.self.now.placed

pub returns-in-Some-clause-crash : goal.returns-in-Some-clause-crash
returns-in-Some-clause-crash g c = begun_images c.args.file c.requires.file (g.D.Disk.sight c.args.self.now.disk)
    c.args.self.now.waiting c.set.new.self c.in-Some.write c.set.ensures.set c.args.at c.args.piece.now
    c.in-Some.ensures

pub returns-in-Some-clause-tells : goal.returns-in-Some-clause-tells
returns-in-Some-clause-tells g c = pending_tells (g.D.Disk.sight c.args.self.now.disk) c.args.self.now.waiting
    c.set.new.self

pub returns-in-None-clause-written : goal.returns-in-None-clause-written
returns-in-None-clause-written g c = on_ok_weaker c.write_at.result
    (below_reads (g.D.Disk.sight c.args.self.now.disk) (g.D.Disk.sight c.write_at.new.self) c.args.self.now.waiting
    c.args.file c.requires.nothing (Holds c.args.at c.args.piece.now)) c.write_at.ensures.written

pub returns-in-None-clause-tried : goal.returns-in-None-clause-tried
returns-in-None-clause-tried g c = on_err_weaker c.write_at.result
    (below_reads (g.D.Disk.sight c.args.self.now.disk) (g.D.Disk.sight c.write_at.new.self) c.args.self.now.waiting
    c.args.file c.requires.nothing (Torn c.args.at (length c.args.piece.now))) c.write_at.ensures.tried

pub returns-in-None-clause-crash : goal.returns-in-None-clause-crash
returns-in-None-clause-crash g c = below_images (g.D.Disk.sight c.args.self.now.disk)
    (g.D.Disk.sight c.write_at.new.self) c.args.self.now.waiting c.args.file c.requires.nothing
    (Torn c.args.at (length c.args.piece.now)) c.write_at.ensures.crash.crash

pub returns-in-None-clause-tells : goal.returns-in-None-clause-tells
returns-in-None-clause-tells g c = below_tells (g.D.Disk.sight c.args.self.now.disk)
    (g.D.Disk.sight c.write_at.new.self) c.args.self.now.waiting c.write_at.ensures.tells
