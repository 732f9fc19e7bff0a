use Rattle.std.proofs.Common.{◌∙◌, length, ap}
use Rattle.std.proofs.lemmas.Result.{on_ok_weaker, on_err_weaker}
use Rattle.sm_disk.specs.Steps.{Holds, Torn, OnFile}
use Rattle.sm_disk.specs.Laws.{torn_not}
use Rattle.sm_write_buffer.specs.declared.past.Past.{Past}
use Rattle.sm_write_buffer.specs.declared.waiting.Waiting.{Waiting}
use Rattle.sm_write_buffer.proofs.Overs.{keeps_after, same_after_same, after_same}
use Rattle.sm_write_buffer.proofs.Kepts.{at_err, same_step, kept_step, kept_follows, kept_tells, keeps_telling}
use Rattle.sm_write_buffer.proofs.Amongs.{among_noted, told_same}
use Rattle.sm_write_buffer.proofs.Pasts.{went}
use Rattle.sm_write_buffer.proofs.gathered.GatheredDisk.write_at.Goals as goal

pub invariant_of-self : goal.invariant_of-self
invariant_of-self g c =
    record {
      placed = c.args.self.now.placed;
      among = among_noted g.D.Disk.sight c.args.self.now.disk c.args.self.now.waiting c.args.self.now.past.items
          c.noting-self.result.items c.noting-self.ensures (g.met.D.Disk.only_now c.args.self.now.disk)
          c.args.self.now.among;
    }

pub flush-requires-clause-told : goal.flush-requires-clause-told
flush-requires-clause-told g c =
    told_same g.D.Disk.sight c.args.self.now.disk c.args.self.now.waiting c.args.self.now.past.items _
    (ap (λ (p : Past _ Waiting). p.items) c.join.ensures.past ∙ c.noting-self.ensures) _ _
    (c.join.ensures.left_crash c.if-join.false)

pub begin-requires-clause-told : goal.begin-requires-clause-told
begin-requires-clause-told g c =
    told_same g.D.Disk.sight c.args.self.now.disk c.args.self.now.waiting c.args.self.now.past.items _
    (ap (λ (p : Past _ Waiting). p.items) (c.flush.ensures.past ∙ c.join.ensures.past) ∙ c.noting-self.ensures) _ _
    (same_after_same _ _ _ (c.join.ensures.left_crash c.if-join.false) c.flush.ensures.crash)

pub returns-then-join-clause-written : goal.returns-then-join-clause-written
returns-then-join-clause-written g c =
    c.join.ensures.written c.if-join.true

pub returns-then-join-clause-crash : goal.returns-then-join-clause-crash
returns-then-join-clause-crash g c =
    went g.D.Disk.sight (OnFile c.args.file (Torn c.args.at (length c.args.piece.now))) _ _ _ _ _ _
    (ap (λ (p : Past _ Waiting). p.items) c.join.ensures.past ∙ c.noting-self.ensures) (c.join.ensures.crash
    c.if-join.true)

pub returns-then-join-clause-tells : goal.returns-then-join-clause-tells
returns-then-join-clause-tells g c =
    c.join.ensures.tells

pub returns-in_err-flush-clause-tried : goal.returns-in_err-flush-clause-tried
returns-in_err-flush-clause-tried g c =
    at_err c.from_residual.result (kept_step c.args.file (Torn c.args.at (length c.args.piece.now)) _ _
    (torn_not c.args.at (length c.args.piece.now)) (keeps_after _ _ _ (c.join.ensures.left_reads c.if-join.false)
    c.flush.ensures.reads))

pub returns-in_err-flush-clause-crash : goal.returns-in_err-flush-clause-crash
returns-in_err-flush-clause-crash g c =
    went g.D.Disk.sight (OnFile c.args.file (Torn c.args.at (length c.args.piece.now))) _ _ _ _ _ _
    (ap (λ (p : Past _ Waiting). p.items) (c.flush.ensures.past ∙ c.join.ensures.past) ∙ c.noting-self.ensures)
    (same_step c.args.file (Torn c.args.at (length c.args.piece.now)) _ _ (torn_not c.args.at (length c.args.piece.now))
    (same_after_same _ _ _ (c.join.ensures.left_crash c.if-join.false) c.flush.ensures.crash))

pub returns-in_err-flush-clause-tells : goal.returns-in_err-flush-clause-tells
returns-in_err-flush-clause-tells g c =
    keeps_telling _ _ (keeps_after _ _ _ (c.join.ensures.left_reads c.if-join.false) c.flush.ensures.reads)

pub begin-requires-clause-place : goal.begin-requires-clause-place
begin-requires-clause-place g c =
    λ s read. c.requires.place s
    ((keeps_after _ _ _ (c.join.ensures.left_reads c.if-join.false) c.flush.ensures.reads).nothing_new s read)

pub returns-clause-written : goal.returns-clause-written
returns-clause-written g c =
    on_ok_weaker c.begin.result
    (kept_follows (OnFile c.args.file (Holds c.args.at c.args.piece.now)) _ _ _
    (keeps_after _ _ _ (c.join.ensures.left_reads c.if-join.false) c.flush.ensures.reads)) c.begin.ensures.written

pub returns-clause-tried : goal.returns-clause-tried
returns-clause-tried g c =
    on_err_weaker c.begin.result
    (kept_follows (OnFile c.args.file (Torn c.args.at (length c.args.piece.now))) _ _ _
    (keeps_after _ _ _ (c.join.ensures.left_reads c.if-join.false) c.flush.ensures.reads)) c.begin.ensures.tried

pub returns-clause-crash : goal.returns-clause-crash
returns-clause-crash g c =
    went g.D.Disk.sight (OnFile c.args.file (Torn c.args.at (length c.args.piece.now))) _ _ _ _ _ _
    (ap (λ (p : Past _ Waiting). p.items) (c.begin.ensures.past ∙ c.flush.ensures.past ∙ c.join.ensures.past)
    ∙ c.noting-self.ensures)
    (after_same c.args.file (Torn c.args.at (length c.args.piece.now)) _ _ _
    (same_after_same _ _ _ (c.join.ensures.left_crash c.if-join.false) c.flush.ensures.crash) c.begin.ensures.crash)

pub returns-clause-tells : goal.returns-clause-tells
returns-clause-tells g c =
    kept_tells _ _ _ (keeps_after _ _ _ (c.join.ensures.left_reads c.if-join.false) c.flush.ensures.reads)
    c.begin.ensures.tells
