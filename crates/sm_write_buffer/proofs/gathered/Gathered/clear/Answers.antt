use Rattle.std.proofs.Common.{refl, subst}
use Rattle.std.proofs.lemmas.Result.{on_ok_weaker}
use Rattle.sm_write_buffer.specs.Gathering.{IsBehind, pending_of}
use Rattle.sm_write_buffer.proofs.Changes.{same_reads, same_images, nothing_behind}
use Rattle.sm_write_buffer.proofs.gathered.Gathered.clear.Goals as goal

pub returns-then-is_behind-clause-behind : goal.returns-then-is_behind-clause-behind
returns-then-is_behind-clause-behind g c =
    subst (IsBehind c.args.end) c.get.ensures (c.is_behind.ensures c.if-is_behind.true)

pub returns-then-is_behind-clause-reads : goal.returns-then-is_behind-clause-reads
returns-then-is_behind-clause-reads g c =
    same_reads (g.D.Disk.sight c.args.self.now.disk) c.args.self.now.waiting c.args.self.now.waiting
    (λ f. refl)

pub returns-then-is_behind-clause-crash : goal.returns-then-is_behind-clause-crash
returns-then-is_behind-clause-crash g c =
    same_images (g.D.Disk.sight c.args.self.now.disk) c.args.self.now.waiting c.args.self.now.waiting
    (λ f. refl)

pub returns-clause-behind : goal.returns-clause-behind
returns-clause-behind g c =
    on_ok_weaker c.flush.result
    (nothing_behind c.args.end (pending_of c.flush.new.self.waiting c.args.file)) c.flush.ensures.nothing
