use Rattle.std.proofs.Common.{◌≡◌, ℕ, refl, sym, ap, subst, ◌∙◌}
use Rattle.sm_base.specs.declared.limits.TheConstants.{JOURNAL_LIMIT}
use Rattle.sm_account.specs.Accounts.{history, base, began, taken, disk, failed}
use Rattle.sm_account.specs.AccountState.{FaultsBound}
use Rattle.sm_account.specs.States.{Base, base_of}
use Rattle.sm_store.specs.Held.{Held}
use Rattle.sm_server.specs.declared.asked.RunTask.TheVariants.{Practise}
use Rattle.sm_server.specs.Outside.{Outside, outside_beside}
use Rattle.sm_server.specs.Ran.{Course, Story, Runs, course_of}
use Rattle.sm_server.specs.Stored.{Stands}
use Rattle.sm_server.proofs.EndLemmas.{runs_since}
use Rattle.sm_server.proofs.StoredLemmas.{cause_since, stays_vouched}
use Rattle.sm_server.proofs.run.practise_opened.Goals as goal

pub returns-clause-ran : goal.returns-clause-ran
returns-clause-ran g c left source =
    let practised = c.practise-status in
    let status = practised.result in
    let old = c.args.account in
    let new = practised.new.account in
    let replies = g.R.Rotator.replies in
    let story : Story = record {
      task = Practise c.args.number;
      people = c.args.people.now;
      taken = taken new;
      history = history new;
      failed = failed new;
    } in
    let before : ℕ → Outside = λ (faults : ℕ). outside_beside left source g.K.Sink g.C.Clock g.W.Words g.R.Rotator
    c.args.sink.now faults c.args.clock.now c.args.random.now c.args.rotator.now in
    let after : ℕ → Outside = λ (faults : ℕ). outside_beside left source g.K.Sink g.C.Clock g.W.Words g.R.Rotator
    practised.new.sink faults practised.new.clock practised.new.random practised.new.rotator in
    let kept : taken new ≡ taken old = practised.ensures.origin.taken_stays in
    let based : base old ≡ base_of (taken new) JOURNAL_LIMIT =
    c.requires.base_is ∙ ap (λ t. base_of t JOURNAL_LIMIT) (sym kept) in
    let first = g.D.Disk.faults (began old) in
    let course : Base → Held → Course = λ (b : Base) (held : Held). record {
      task = Practise c.args.number;
      replies = replies;
      people = c.args.people.now;
      base = b;
      held = held;
      history = history new;
    } in
    let ran : Runs (course (base old) (taken old)) status (before first) (after (g.D.Disk.faults (disk new))) =
    runs_since (course (base old) (taken old)) (before (g.D.Disk.faults (disk old)))
    (after (g.D.Disk.faults (disk new))) first c.requires.later status practised.ensures.opened
    (practised.ensures.runs left source) in
    let runs : Runs (course_of replies story) status (before first) (after (g.D.Disk.faults (disk new))) =
    subst (λ (b : Base). Runs (course b (taken new)) status (before first)
    (after (g.D.Disk.faults (disk new)))) based
    (subst (λ (h : Held). Runs (course (base old) h) status (before first) (after (g.D.Disk.faults (disk new))))
    (sym kept) ran) in
    let stands : Stands g.D.Disk story (began old) (disk new) = record {
      on_disk = c.invariants.ensures.on_disk;
      cause = cause_since (failed old) (failed new) first (g.D.Disk.faults (disk old)) (g.D.Disk.faults (disk new))
          c.requires.sure practised.ensures.unsure c.requires.later;
      faults = subst (λ d. FaultsBound (g.D.Disk.faults d) (history new) (g.D.Disk.faults (disk new)))
          practised.ensures.origin.began_stays c.invariants.ensures.faults;
    } in (
      story,
      refl,
      refl,
      kept,
      subst (λ d. Runs (course_of replies story) status (before first) (after (g.D.Disk.faults d)))
          (sym c.close.ensures) runs,
      subst (Stands g.D.Disk story (began old)) (sym c.close.ensures) stands,
      stays_vouched replies new c.invariants.ensures.rows c.invariants.ensures.vouched,
    )
