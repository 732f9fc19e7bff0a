use Rattle.std.proofs.Common.{◌≡◌, ℕ, refl, sym, ap, subst, ◌∙◌}
use Rattle.sm_base.specs.declared.limits.TheConstants.{JOURNAL_LIMIT}
use Rattle.sm_account.specs.Accounts.{history, base, began, taken, disk, failed}
use Rattle.sm_account.specs.AccountState.{FaultsBound}
use Rattle.sm_account.specs.States.{Base, base_of}
use Rattle.sm_server.specs.declared.asked.RunTask.TheVariants.{Answer}
use Rattle.sm_server.specs.Outside.{Outside, outside_by}
use Rattle.sm_server.specs.Ran.{Course, Story, Runs, course_of}
use Rattle.sm_server.specs.Status.{status_of, WasOpened}
use Rattle.sm_server.specs.Stored.{Stands}
use Rattle.sm_server.proofs.EndLemmas.{runs_since}
use Rattle.sm_server.proofs.RunLemmas.{status_opened}
use Rattle.sm_server.proofs.StoredLemmas.{cause_since, stays_vouched}
use Rattle.sm_server.proofs.run.answer_opened.Goals as goal

pub returns-clause-ran : goal.returns-clause-ran
returns-clause-ran g c =
    let answered = c.answer_source-ended in
    let status = status_of answered.result in
    let old = c.args.account in
    let new = answered.new.account in
    let replies = g.R.Rotator.replies in
    let story : Story = record {
      task = Answer;
      people = c.args.people.now;
      taken = taken new;
      history = history new;
      failed = failed new;
    } in
    let before : ℕ → Outside = λ (faults : ℕ). outside_by g.Q.Source g.K.Sink g.C.Clock g.W.Words g.R.Rotator
    c.args.source.now c.args.sink.now faults c.args.clock.now c.args.random.now c.args.rotator.now in
    let after : ℕ → Outside = λ (faults : ℕ). outside_by g.Q.Source g.K.Sink g.C.Clock g.W.Words g.R.Rotator
    c.answer_source-ended.new.source c.answer_source-ended.new.sink faults c.answer_source-ended.new.clock
    c.answer_source-ended.new.random c.answer_source-ended.new.rotator in
    let based : base old ≡ base_of (taken new) JOURNAL_LIMIT =
    c.requires.base ∙ ap (λ t. base_of t JOURNAL_LIMIT) (sym answered.ensures.origin.taken_stays) in
    let first = g.D.Disk.faults (began old) in
    let runs : Runs (course_of replies story) status (before first) (after (g.D.Disk.faults (disk new))) =
    let course : Base → Course = λ (b : Base). record {
      task = Answer;
      replies = replies;
      people = c.args.people.now;
      base = b;
      held = taken new;
      history = history new;
    } in
    subst (λ (b : Base). Runs (course b) status (before first) (after (g.D.Disk.faults (disk new)))) based
    (runs_since (course (base old))
    (before (g.D.Disk.faults (disk old))) (after (g.D.Disk.faults (disk new))) first c.requires.later status
    (status_opened answered.result) (answered.ensures.runs (taken new))) in
    let stands : Stands g.D.Disk story (began old) (disk new) = record {
      on_disk = c.invariants.ensures.on_disk;
      cause = cause_since (failed old) (failed new) first (g.D.Disk.faults (disk old)) (g.D.Disk.faults (disk new))
          c.requires.sure answered.ensures.unsure c.requires.later;
      faults = subst (λ d. FaultsBound (g.D.Disk.faults d) (history new) (g.D.Disk.faults (disk new)))
          answered.ensures.origin.began_stays c.invariants.ensures.faults;
    } in (
      story,
      refl,
      refl,
      answered.ensures.origin.taken_stays,
      subst (λ s. Runs (course_of replies story) s (before first) (after (g.D.Disk.faults c.close.result)))
          (sym c.status_of.ensures)
          (subst (λ d. Runs (course_of replies story) status (before first) (after (g.D.Disk.faults d)))
          (sym c.close.ensures) runs),
      subst (Stands g.D.Disk story (began old)) (sym c.close.ensures) stands,
      stays_vouched replies new c.invariants.ensures.rows c.invariants.ensures.vouched,
    )

pub returns-clause-opened : goal.returns-clause-opened
returns-clause-opened g c =
    subst WasOpened (sym c.status_of.ensures) (status_opened c.answer_source-ended.result)
