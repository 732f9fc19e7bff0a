use Rattle.std.proofs.Common.{◌≤◌, ℕ, refl, sym, subst, ◌∙◌, arith}
use Rattle.sm_account.specs.Accounts.{base, began, disk, failed, history, taken}
use Rattle.sm_account.specs.States.{Base}
use Rattle.sm_account.specs.SeatTraces.{History}
use Rattle.sm_server.specs.declared.asked.RunTask.TheVariants.{Ship, Summarize}
use Rattle.sm_server.specs.Outside.{Outside, outside_by}
use Rattle.sm_server.specs.Ran.{Course, Story, Runs}
use Rattle.sm_server.specs.Stored.{Stands}
use Rattle.sm_server.proofs.CheckLemmas.{runs_checked, shows_opened}
use Rattle.sm_server.proofs.EndLemmas.{runs_since}
use Rattle.sm_server.proofs.ShipLemmas.{runs_shipped, ships_opened}
use Rattle.sm_server.proofs.run.run_opened.Goals as goal

pub returns-in-Answer-clause-ran : goal.returns-in-Answer-clause-ran
returns-in-Answer-clause-ran g c =
    let ran = c.answer_opened.ensures.ran in
    (ran.0, ran.1 ∙ sym c.in-Answer.is, ran.2, ran.3, ran.4, ran.5, ran.6)

pub returns-in-Summarize-clause-ran : goal.returns-in-Summarize-clause-ran
returns-in-Summarize-clause-ran g c =
    let checked = c.check_opened in
    let status = checked.result.0 in
    let account = c.args.account in
    let people = c.args.people.now in
    let replies = g.R.Rotator.replies in
    let s = checked.ensures.shows in
    let story : Story =
    record {
      task = Summarize;
      people = people;
      taken = taken account;
      history = history account;
      failed = failed account;
    } in
    let before : ℕ → Outside = λ (faults : ℕ). outside_by g.Q.Source g.K.Sink g.C.Clock g.W.Words g.R.Rotator
    c.args.source.now c.args.sink.now faults c.args.clock.now c.args.random.now c.args.rotator.now in
    let after : Outside = outside_by g.Q.Source g.K.Sink g.C.Clock g.W.Words g.R.Rotator c.args.source.now
    checked.new.sink (g.D.Disk.faults checked.result.1) checked.new.clock c.args.random.now c.args.rotator.now in
    let course : Base → History → Course = λ (b : Base) (h : History). record {
      task = Summarize;
      replies = replies;
      people = people;
      base = b;
      held = taken account;
      history = h;
    } in
    let first = g.D.Disk.faults (began account) in
    let opened = g.D.Disk.faults (disk account) in
    let runs : Runs (course (base account) (history account)) status (before opened) after =
    subst (λ h. Runs (course (base account) h) status (before opened) after) (sym c.requires.fresh)
    (runs_checked replies people (base account) (taken account) (before opened) after s.0 s.1 status
    s.4 refl s.3 s.2 refl) in (
      story,
      sym c.in-Summarize.is,
      refl,
      refl,
      subst (λ (b : Base). Runs (course b (history account)) status (before first) after) c.requires.base_is
          (runs_since (course (base account) (history account)) (before opened) after first c.requires.later status
          (shows_opened _ _ _ _ _ status s.4) runs),
      subst (Stands g.D.Disk story (began account)) (sym checked.ensures.disk) (checked.ensures.stands people),
      checked.ensures.vouched,
    )

pub returns-in-Summarize-clause-opened : goal.returns-in-Summarize-clause-opened
returns-in-Summarize-clause-opened g c =
    shows_opened _ _ _ _ _ c.check_opened.result.0 c.check_opened.ensures.shows.4

pub returns-in-Summarize-clause-later : goal.returns-in-Summarize-clause-later
returns-in-Summarize-clause-later g c = record {
  source = omega arith;
  sink = c.check_opened.ensures.sink_later;
  disk = subst (λ d. g.D.Disk.faults (disk c.args.account) ≤ g.D.Disk.faults d) (sym c.check_opened.ensures.disk)
      (omega arith);
  random = omega arith;
  rotator = omega arith;
}

pub returns-in-Answer-clause-later : goal.returns-in-Answer-clause-later
returns-in-Answer-clause-later g c = record {
  source = c.answer_opened.ensures.source_later;
  sink = c.answer_opened.ensures.sink_later;
  disk = c.answer_opened.ensures.disk_later;
  random = c.answer_opened.ensures.random_later;
  rotator = c.answer_opened.ensures.rotator_later;
}

pub returns-in-Practise-clause-ran : goal.returns-in-Practise-clause-ran
returns-in-Practise-clause-ran g c =
    let ran = c.practise_opened.ensures.ran (g.Q.Source.left c.args.source.now)
    (g.Q.Source.source_faults c.args.source.now) in
    (ran.0, ran.1 ∙ sym c.in-Practise.is, ran.2, ran.3, ran.4, ran.5, ran.6)

pub returns-in-Practise-clause-later : goal.returns-in-Practise-clause-later
returns-in-Practise-clause-later g c = record {
  source = omega arith;
  sink = c.practise_opened.ensures.sink_later;
  disk = c.practise_opened.ensures.disk_later;
  random = c.practise_opened.ensures.random_later;
  rotator = c.practise_opened.ensures.rotator_later;
}

pub returns-in-Ship-clause-ran : goal.returns-in-Ship-clause-ran
returns-in-Ship-clause-ran g c =
    let shipped = c.ship_opened in
    let status = shipped.result.0 in
    let position = c.in-Ship.position in
    let account = c.args.account in
    let people = c.args.people.now in
    let replies = g.R.Rotator.replies in
    let s = shipped.ensures.ships in
    let story : Story =
    record {
      task = Ship position;
      people = people;
      taken = taken account;
      history = history account;
      failed = failed account;
    } in
    let before : ℕ → Outside = λ (faults : ℕ). outside_by g.Q.Source g.K.Sink g.C.Clock g.W.Words g.R.Rotator
    c.args.source.now c.args.sink.now faults c.args.clock.now c.args.random.now c.args.rotator.now in
    let after : Outside = outside_by g.Q.Source g.K.Sink g.C.Clock g.W.Words g.R.Rotator c.args.source.now
    shipped.new.sink (g.D.Disk.faults shipped.result.1) c.args.clock.now c.args.random.now c.args.rotator.now in
    let course : Base → History → Course = λ (b : Base) (h : History). record {
      task = Ship position;
      replies = replies;
      people = people;
      base = b;
      held = taken account;
      history = h;
    } in
    let first = g.D.Disk.faults (began account) in
    let opened = g.D.Disk.faults (disk account) in
    let runs : Runs (course (base account) (history account)) status (before opened) after =
    subst (λ h. Runs (course (base account) h) status (before opened) after) (sym c.requires.fresh)
    (runs_shipped replies people (base account) (taken account) position (before opened) after s.0 status s.2 refl s.1
    refl refl) in (
      story,
      sym c.in-Ship.is,
      refl,
      refl,
      subst (λ (b : Base). Runs (course b (history account)) status (before first) after) c.requires.base_is
          (runs_since (course (base account) (history account)) (before opened) after first c.requires.later status
          (ships_opened _ _ _ _ status s.2) runs),
      subst (Stands g.D.Disk story (began account)) (sym shipped.ensures.disk) (shipped.ensures.stands people),
      shipped.ensures.vouched,
    )

pub returns-in-Ship-clause-opened : goal.returns-in-Ship-clause-opened
returns-in-Ship-clause-opened g c =
    ships_opened _ _ _ _ c.ship_opened.result.0 c.ship_opened.ensures.ships.2

pub returns-in-Ship-clause-later : goal.returns-in-Ship-clause-later
returns-in-Ship-clause-later g c = record {
  source = omega arith;
  sink = c.ship_opened.ensures.sink_later;
  disk = subst (λ d. g.D.Disk.faults (disk c.args.account) ≤ g.D.Disk.faults d) (sym c.ship_opened.ensures.disk)
      (omega arith);
  random = omega arith;
  rotator = omega arith;
}
