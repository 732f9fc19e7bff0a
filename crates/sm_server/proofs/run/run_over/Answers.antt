use Rattle.std.proofs.Common.{◌≡◌, ◌≤◌, ℕ, inr, sym, refl, subst, arith}
use Rattle.sm_base.specs.declared.limits.TheConstants.{JOURNAL_LIMIT}
use Rattle.sm_account.specs.Accounts.{disk}
use Rattle.sm_account.specs.Openings.{TakenFrom}
use Rattle.sm_store.specs.Held.{Held}
use Rattle.sm_server.specs.declared.status.Status.{Status}
use Rattle.sm_server.specs.Outside.{Outside, outside_by}
use Rattle.sm_server.specs.Ran.{Runs, course_of}
use Rattle.sm_server.specs.Status.{WasFollowed}
use Rattle.sm_server.specs.Stored.{Records, Stands, disk_unopened}
use Rattle.sm_server.proofs.EndLemmas.{opened_followed}
use Rattle.sm_server.proofs.StoredLemmas.{leaves_opened}
use Rattle.sm_server.proofs.UnopenedLemmas.{no_story, Unopened, unopened, later_unopened, unopened_followed}
use Rattle.sm_server.proofs.run.run_over.Goals as goal

pub returns-in-Ok-clause-ran : goal.returns-in-Ok-clause-ran
returns-in-Ok-clause-ran g c =
    let run = c.run_opened in
    let replies = g.R.Rotator.replies in
    let opened = c.in-Ok.ensures.opened in
    let story = run.ensures.ran.0 in
    let before : ℕ → Outside = λ (faults : ℕ). outside_by g.Q.Source g.K.Sink g.C.Clock g.W.Words g.R.Rotator
    c.args.source.now c.args.sink.now faults c.args.clock.now c.args.random.now c.args.rotator.now in
    let after : Outside = outside_by g.Q.Source g.K.Sink g.C.Clock g.W.Words g.R.Rotator c.run_opened.new.source
    c.run_opened.new.sink (g.D.Disk.faults run.result.1) c.run_opened.new.clock c.run_opened.new.random
    c.run_opened.new.rotator in
    let records : Records g.D.Disk story c.args.disk run.result.1 = record {
      opened = disk c.in-Ok.account;
      recovered = subst (λ (t : Held). TakenFrom g.D.Disk c.args.disk JOURNAL_LIMIT t (disk c.in-Ok.account))
          (sym run.ensures.ran.3) c.in-Ok.ensures.taken;
      stands = subst (λ d. Stands g.D.Disk story d run.result.1) opened.began_is run.ensures.ran.5;
    } in (
      story,
      run.ensures.ran.1,
      run.ensures.ran.2,
      subst (λ d. Runs (course_of replies story) run.result.0 (before (g.D.Disk.faults d)) after) opened.began_is
          run.ensures.ran.4,
      leaves_opened g.D.Disk run.result.0 story c.args.disk run.result.1 run.ensures.opened records,
      λ wants. inr (tt, records),
      run.ensures.ran.6,
    )

pub returns-in-Ok-clause-followed : goal.returns-in-Ok-clause-followed
returns-in-Ok-clause-followed g c = opened_followed c.run_opened.result.0 c.run_opened.ensures.opened

pub returns-in-Err-clause-ran : goal.returns-in-Err-clause-ran
returns-in-Err-clause-ran g c =
    let refused = c.in-Err.refused in
    let why = c.in-Err.ensures.refused in
    let now = c.end_unopened.result.1 in
    let people = c.args.people.now in
    let task = c.args.task in
    let replies = g.R.Rotator.replies in
    let before : Outside = outside_by g.Q.Source g.K.Sink g.C.Clock g.W.Words g.R.Rotator c.args.source.now
    c.args.sink.now (g.D.Disk.faults c.args.disk) c.args.clock.now c.args.random.now c.args.rotator.now in
    let after : Outside = record before { counts = record before.counts { disk = g.D.Disk.faults now } } in
    let same : disk_unopened refused ≡ now = sym c.end_unopened.ensures.disk in
    let none = subst (λ (s : Status). Unopened g.D.Disk replies task people c.args.disk s before after now)
    (sym c.end_unopened.ensures.status)
    (unopened g.D.Disk replies task people c.args.disk refused now before after why same refl refl
    (record {
      left = refl;
      taken = refl;
      readings = refl;
      drawn = refl;
      disk = subst (λ d. g.D.Disk.faults c.args.disk ≤ g.D.Disk.faults d) same
          (later_unopened g.D.Disk replies task people c.args.disk refused why);
      random = refl;
      rotator = refl;
    })) in (
      no_story task people,
      refl,
      refl,
      none.0,
      none.1,
      none.2,
      none.3,
    )

pub returns-in-Err-clause-followed : goal.returns-in-Err-clause-followed
returns-in-Err-clause-followed g c =
    subst WasFollowed (sym c.end_unopened.ensures.status)
    (unopened_followed g.D.Disk g.R.Rotator.replies c.args.task c.args.people.now c.args.disk c.in-Err.refused)

pub returns-in-Err-clause-disk_later : goal.returns-in-Err-clause-disk_later
returns-in-Err-clause-disk_later g c =
    subst (λ d. g.D.Disk.faults c.args.disk ≤ g.D.Disk.faults d) (sym c.end_unopened.ensures.disk)
    (later_unopened g.D.Disk g.R.Rotator.replies c.args.task c.args.people.now c.args.disk c.in-Err.refused
    c.in-Err.ensures.refused)

pub run_opened-requires : goal.run_opened-requires
run_opened-requires g c =
    let opened = c.in-Ok.ensures.opened in
    record {
      fresh = opened.history_is;
      base_is = opened.base_is;
      sure = opened.sure;
      later = subst (λ d. g.D.Disk.faults d ≤ g.D.Disk.faults (disk c.in-Ok.account)) (sym opened.began_is)
          c.in-Ok.ensures.taken.later;
    }

pub returns-in-Ok-clause-source_later : goal.returns-in-Ok-clause-source_later
returns-in-Ok-clause-source_later g c = c.run_opened.ensures.later.source

pub returns-in-Ok-clause-sink_later : goal.returns-in-Ok-clause-sink_later
returns-in-Ok-clause-sink_later g c = c.run_opened.ensures.later.sink

pub returns-in-Ok-clause-disk_later : goal.returns-in-Ok-clause-disk_later
returns-in-Ok-clause-disk_later g c = omega (arith, c.in-Ok.ensures.taken.later, c.run_opened.ensures.later.disk)

pub returns-in-Ok-clause-random_later : goal.returns-in-Ok-clause-random_later
returns-in-Ok-clause-random_later g c = c.run_opened.ensures.later.random

pub returns-in-Ok-clause-rotator_later : goal.returns-in-Ok-clause-rotator_later
returns-in-Ok-clause-rotator_later g c = c.run_opened.ensures.later.rotator
