use Rattle.std.proofs.Common.{ℕ, List, option_map, refl, subst}
use Rattle.sm_base.specs.Faults.{Rose}
use Rattle.sm_account.specs.Accounts.{base, disk, history, taken}
use Rattle.sm_account.specs.States.{Base}
use Rattle.sm_recovery.specs.Lawful.{made_of}
use Rattle.sm_store.specs.Held.{Held}
use Rattle.sm_drill.specs.Lines.{lines, shown_by}
use Rattle.sm_session.specs.Replies.{reply_of}
use Rattle.sm_server.specs.Drills.{Says, totals_after}
use Rattle.sm_server.specs.Outside.{Outside, outside_beside}
use Rattle.sm_server.proofs.DrillLemmas.{run_lacking, run_saying, says_opened}
use Rattle.sm_server.proofs.drilling.practise.Goals as goal

pub returns-in-Ok-clause-runs : goal.returns-in-Ok-clause-runs
returns-in-Ok-clause-runs g c left source =
    let made = c.answer_made in
    let old = c.args.account.now in
    let new = made.new.account in
    let before : Outside = outside_beside left source g.K.Sink g.C.Clock g.W.Words g.R.Rotator c.args.sink.now
    (g.D.Disk.faults (disk old)) c.args.clock.now c.args.random.now c.args.rotator.now in
    let now : Outside = outside_beside left source g.K.Sink g.C.Clock g.W.Words g.R.Rotator c.args.sink.now
    (g.D.Disk.faults (disk new)) made.new.clock made.new.random made.new.rotator in
    let drilled = c.in-Ok.drilled in
    let s = c.say.ensures.says in
    let moment = s.0 in
    let cause = Rose (g.K.Sink.sink_faults c.args.sink.now) (g.K.Sink.sink_faults c.say.new.sink) in
    let text : Base → Held → List ℕ = λ (b : Base) (t : Held). lines drilled.refused
    (totals_after b (made_of t).entries (history new) moment) (shown_by (option_map reply_of drilled.last)) in
    let says : Says cause (text (base old) (taken old)) c.say.result s.1 =
    subst (λ (b : Base). Says cause (text b (taken old)) c.say.result s.1) made.ensures.origin.base_stays
    (subst (λ (t : Held). Says cause (text (base new) t) c.say.result s.1) made.ensures.origin.taken_stays s.4) in
    run_saying g.R.Rotator.replies c.args.people.now (base old) (taken old) c.args.number before now
    (history new) refl refl drilled
    (c.in-Ok.ensures.answered left (g.K.Sink.taken c.args.sink.now) source (g.K.Sink.sink_faults c.args.sink.now))
    (g.K.Sink.taken c.say.new.sink) (g.C.Clock.readings c.say.new.clock) (g.K.Sink.sink_faults c.say.new.sink) moment
    s.1 s.2 s.3 c.say.result says

pub returns-in-Ok-clause-opened : goal.returns-in-Ok-clause-opened
returns-in-Ok-clause-opened g c = says_opened _ _ _ c.say.result c.say.ensures.says.4

pub returns-in-Err-clause-runs : goal.returns-in-Err-clause-runs
returns-in-Err-clause-runs g c left source =
    let made = c.answer_made in
    let old = c.args.account.now in
    let new = made.new.account in
    let before : Outside = outside_beside left source g.K.Sink g.C.Clock g.W.Words g.R.Rotator c.args.sink.now
    (g.D.Disk.faults (disk old)) c.args.clock.now c.args.random.now c.args.rotator.now in
    let now : Outside = outside_beside left source g.K.Sink g.C.Clock g.W.Words g.R.Rotator c.args.sink.now
    (g.D.Disk.faults (disk new)) made.new.clock made.new.random made.new.rotator in
    run_lacking g.R.Rotator.replies c.args.people.now (base old) (taken old) c.args.number before now
    (history new) refl refl _
    (c.in-Err.ensures.answered left (g.K.Sink.taken c.args.sink.now) source (g.K.Sink.sink_faults c.args.sink.now))
