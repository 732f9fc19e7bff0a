use Rattle.std.proofs.Common.{◌∙◌, ap}
use Rattle.std.proofs.lemmas.Result.{on_ok_weaker}
use Rattle.sm_disk.specs.Steps.{Same}
use Rattle.sm_write_buffer.specs.declared.past.Past.{Past}
use Rattle.sm_write_buffer.specs.declared.waiting.Waiting.{Waiting}
use Rattle.sm_write_buffer.proofs.Overs.{keeps_after, same_after_same, below_keeps, below_same, synced_over}
use Rattle.sm_write_buffer.proofs.Kepts.{placed_kept}
use Rattle.sm_write_buffer.proofs.Amongs.{among_noted, told_noted, told_same, among_stepped}
use Rattle.sm_write_buffer.proofs.Pasts.{went, kept}
use Rattle.sm_write_buffer.proofs.gathered.GatheredDisk.sync.Goals as goal

pub invariant_of-self : goal.invariant_of-self
invariant_of-self g c =
    record {
      placed = c.args.self.now.placed;
      among = among_noted g.D.Disk.sight c.args.self.now.disk c.args.self.now.waiting c.args.self.now.past.items
          c.noting-self.result.items c.noting-self.ensures (g.met.D.Disk.only_now c.args.self.now.disk)
          c.args.self.now.among;
    }

pub flush-requires-clause-told : goal.flush-requires-clause-told
flush-requires-clause-told g c =
    told_noted g.D.Disk.sight c.args.self.now.disk c.args.self.now.waiting c.args.self.now.past.items
    c.noting-self.result.items c.noting-self.ensures

pub returns-in_err-flush-clause-reads : goal.returns-in_err-flush-clause-reads
returns-in_err-flush-clause-reads g c =
    kept g.D.Disk.sight _ _ _ _ _ _ c.flush.ensures.reads

pub returns-in_err-flush-clause-crash : goal.returns-in_err-flush-clause-crash
returns-in_err-flush-clause-crash g c =
    went g.D.Disk.sight Same _ _ _ _ _ _
    (ap (λ (p : Past _ Waiting). p.items) c.flush.ensures.past ∙ c.noting-self.ensures) c.flush.ensures.crash

pub invariant_of-self-2 : goal.invariant_of-self-2
invariant_of-self-2 g c =
    record {
      placed = placed_kept _ _ _ c.sync.ensures.reads c.flush.new.self.placed;
      among = among_stepped g.D.Disk.sight Same c.flush.new.self.disk c.sync.new.self c.flush.new.self.past.items
          c.sync.ensures.crash
          (told_same g.D.Disk.sight c.args.self.now.disk c.args.self.now.waiting c.args.self.now.past.items _
          (ap (λ (p : Past _ Waiting). p.items) c.flush.ensures.past ∙ c.noting-self.ensures) c.flush.new.self.disk
          c.flush.new.self.waiting c.flush.ensures.crash) c.flush.new.self.among;
    }

pub returns-clause-reads : goal.returns-clause-reads
returns-clause-reads g c =
    kept g.D.Disk.sight _ _ _ _ _ _ (keeps_after _ _ _ c.flush.ensures.reads
    (below_keeps _ _ _ c.sync.ensures.reads))

pub returns-clause-crash : goal.returns-clause-crash
returns-clause-crash g c =
    went g.D.Disk.sight Same _ _ _ _ _ _
    (ap (λ (p : Past _ Waiting). p.items) c.flush.ensures.past ∙ c.noting-self.ensures)
    (same_after_same _ _ _ c.flush.ensures.crash
    (below_same (g.D.Disk.sight c.flush.new.self.disk) (g.D.Disk.sight c.sync.new.self) c.flush.new.self.waiting
    c.sync.ensures.crash.crash))

pub returns-clause-synced : goal.returns-clause-synced
returns-clause-synced g c =
    on_ok_weaker c.sync.result (synced_over (g.D.Disk.sight c.sync.new.self) c.flush.new.self.waiting c.args.file
    c.in_ok-flush.ensures.nothing) c.sync.ensures.synced
