use Rattle.std.proofs.Common.{◌∙◌, inr, refl, ap}
use Rattle.sm_disk.specs.Steps.{IsCut, CutOrNot, OnFile}
use Rattle.sm_write_buffer.specs.declared.past.Past.{Past}
use Rattle.sm_write_buffer.specs.declared.waiting.Waiting.{Waiting}
use Rattle.sm_write_buffer.proofs.Overs.{same_behind}
use Rattle.sm_write_buffer.proofs.Kepts.{at_err, at_ok, kept_step, follows_kept, tells_kept, cut_or_not}
use Rattle.sm_write_buffer.proofs.Amongs.{among_noted, told_noted, told_images}
use Rattle.sm_write_buffer.proofs.Pasts.{went}
use Rattle.sm_write_buffer.proofs.gathered.GatheredDisk.cut.Goals as goal

pub invariant_of-self : goal.invariant_of-self
invariant_of-self g c =
    record {
      placed = c.args.self.now.placed;
      among = among_noted g.D.Disk.sight c.args.self.now.disk c.args.self.now.waiting c.args.self.now.past.items
          c.noting-self.result.items c.noting-self.ensures (g.met.D.Disk.only_now c.args.self.now.disk)
          c.args.self.now.among;
    }

pub hold_cut-requires-clause-told : goal.hold_cut-requires-clause-told
hold_cut-requires-clause-told g c =
    told_noted g.D.Disk.sight c.args.self.now.disk c.args.self.now.waiting c.args.self.now.past.items
    c.noting-self.result.items c.noting-self.ensures

pub flush-requires-clause-told : goal.flush-requires-clause-told
flush-requires-clause-told g c =
    told_images g.D.Disk.sight c.args.self.now.disk c.args.self.now.waiting c.args.self.now.past.items _
    (ap (λ (p : Past _ Waiting). p.items) c.hold_cut.ensures.past ∙ c.noting-self.ensures) _ c.hold_cut.ensures.below

pub returns-in_err-hold_cut-clause-tried : goal.returns-in_err-hold_cut-clause-tried
returns-in_err-hold_cut-clause-tried g c =
    at_err c.from_residual.result
    (kept_step c.args.file (CutOrNot c.args.end) _ _ (λ x. inr refl) c.in_err-hold_cut.ensures.tried)

pub returns-in_err-hold_cut-clause-crash : goal.returns-in_err-hold_cut-clause-crash
returns-in_err-hold_cut-clause-crash g c =
    went g.D.Disk.sight (OnFile c.args.file (CutOrNot c.args.end)) _ _ _ _ _ _
    (ap (λ (p : Past _ Waiting). p.items) c.hold_cut.ensures.past ∙ c.noting-self.ensures) c.hold_cut.ensures.crash

pub returns-in_err-hold_cut-clause-tells : goal.returns-in_err-hold_cut-clause-tells
returns-in_err-hold_cut-clause-tells g c =
    c.hold_cut.ensures.tells

pub returns-clause-cut : goal.returns-clause-cut
returns-clause-cut g c =
    at_ok c.flush.result (follows_kept (OnFile c.args.file (IsCut c.args.end)) _ _ _
    c.in_ok-hold_cut.ensures.cut c.flush.ensures.reads)

pub returns-clause-tried : goal.returns-clause-tried
returns-clause-tried g c =
    at_err c.flush.result (cut_or_not c.args.file c.args.end _ _ (follows_kept (OnFile c.args.file (IsCut c.args.end))
    _ _ _
    c.in_ok-hold_cut.ensures.cut c.flush.ensures.reads))

pub returns-clause-crash : goal.returns-clause-crash
returns-clause-crash g c =
    went g.D.Disk.sight (OnFile c.args.file (CutOrNot c.args.end)) _ _ _ _ _ _
    (ap (λ (p : Past _ Waiting). p.items) (c.flush.ensures.past ∙ c.hold_cut.ensures.past) ∙ c.noting-self.ensures)
    (same_behind c.args.file (CutOrNot c.args.end) _ _ _ c.hold_cut.ensures.crash c.flush.ensures.crash)

pub returns-clause-tells : goal.returns-clause-tells
returns-clause-tells g c =
    tells_kept _ _ _ c.hold_cut.ensures.tells c.flush.ensures.reads
