use Rattle.std.proofs.Common.{List, ap, subst, ◌∙◌, length, ℕ}
use Rattle.sm_drive.specs.Asked.{MayBeMade}
use Rattle.sm_drive.specs.Stepping.{Calls}
use Rattle.sm_drive.specs.declared.call.Call.TheVariants as calls
use Rattle.sm_drive.specs.declared.outcome.Outcome.TheVariants as outcomes
use Rattle.sm_drive.proofs.AskingLemmas.{asks_to, door_to, kept_same}
use Rattle.sm_drive.proofs.CallLemmas.{called}
use Rattle.sm_drive.proofs.step.step.Goals as goal

pub handle-outcome-requires-clause-bound : goal.handle-outcome-requires-clause-bound
handle-outcome-requires-clause-bound g c = (subst MayBeMade c.in-Handle.is c.requires).0

pub handle-outcome-requires-clause-drawn : goal.handle-outcome-requires-clause-drawn
handle-outcome-requires-clause-drawn g c =
    ap length c.as_slice.ensures ∙ (subst MayBeMade c.in-Handle.is c.requires).1

pub handle-outcome-requires-clause-person : goal.handle-outcome-requires-clause-person
handle-outcome-requires-clause-person g c = (subst MayBeMade c.in-Handle.is c.requires).2

pub work-outcome-requires : goal.work-outcome-requires
work-outcome-requires g c = subst MayBeMade c.in-Work.is c.requires

pub report-outcome-requires : goal.report-outcome-requires
report-outcome-requires g c = subst MayBeMade c.in-Report.is c.requires

pub start_due-outcome-requires : goal.start_due-outcome-requires
start_due-outcome-requires g c = subst MayBeMade c.in-Due.is c.requires

pub returns-in-Handle-clause-calls : goal.returns-in-Handle-clause-calls
returns-in-Handle-clause-calls g c =
    let person = c.in-Handle.person in
    let now = c.in-Handle.now in
    let request = c.in-Handle.request in
    called c.args.run c.handle-outcome.new.run c.args.call.now (calls.Handle person now c.in-Handle.drawn request)
    c.handle-outcome.result c.with_invariants.result c.in-Handle.is c.with_invariants.ensures.same
    (subst (λ (drawn : List ℕ). Calls g.D.Disk g.R.Rotator c.args.run (calls.Handle person now drawn request)
    c.handle-outcome.result c.handle-outcome.new.run) c.as_slice.ensures c.handle-outcome.ensures.calls)

pub returns-in-Handle-clause-behind : goal.returns-in-Handle-clause-behind
returns-in-Handle-clause-behind g c = c.with_invariants.ensures.stands

pub returns-in-Work-clause-calls : goal.returns-in-Work-clause-calls
returns-in-Work-clause-calls g c =
    called c.args.run c.work-outcome.new.run c.args.call.now (calls.Work c.in-Work.now) c.work-outcome.result
    c.with_invariants-in-Work.result c.in-Work.is c.with_invariants-in-Work.ensures.same c.work-outcome.ensures.calls

pub returns-in-Work-clause-behind : goal.returns-in-Work-clause-behind
returns-in-Work-clause-behind g c = c.with_invariants-in-Work.ensures.stands

pub returns-in-Work-clause-later : goal.returns-in-Work-clause-later
returns-in-Work-clause-later g c = c.work-outcome.ensures.later

pub returns-in-Report-clause-calls : goal.returns-in-Report-clause-calls
returns-in-Report-clause-calls g c =
    called c.args.run c.report-outcome.new.run c.args.call.now (calls.Report c.in-Report.place c.in-Report.now)
    c.report-outcome.result c.with_invariants-in-Report.result c.in-Report.is c.with_invariants-in-Report.ensures.same
    c.report-outcome.ensures.calls

pub returns-in-Report-clause-behind : goal.returns-in-Report-clause-behind
returns-in-Report-clause-behind g c = c.with_invariants-in-Report.ensures.stands

pub returns-in-Due-clause-calls : goal.returns-in-Due-clause-calls
returns-in-Due-clause-calls g c =
    called c.args.run c.start_due-outcome.new.run c.args.call.now (calls.Due c.in-Due.now c.in-Due.drawn)
    c.start_due-outcome.result c.with_invariants-in-Due.result c.in-Due.is c.with_invariants-in-Due.ensures.same
    c.start_due-outcome.ensures.calls

pub returns-in-Due-clause-behind : goal.returns-in-Due-clause-behind
returns-in-Due-clause-behind g c = c.with_invariants-in-Due.ensures.stands

pub returns-in-Ok-clause-calls : goal.returns-in-Ok-clause-calls
returns-in-Ok-clause-calls g c =
    called c.args.run c.in-Ok.run' c.args.call.now calls.Restart outcomes.Reopened c.with_invariants-in-Ok.result
    c.in-Restart.is c.with_invariants-in-Ok.ensures.same c.in-Ok.ensures.calls

pub returns-in-Ok-clause-behind : goal.returns-in-Ok-clause-behind
returns-in-Ok-clause-behind g c = c.with_invariants-in-Ok.ensures.stands

pub returns-in-Err-clause-refused : goal.returns-in-Err-clause-refused
returns-in-Err-clause-refused g c = record {
  restarts = c.in-Restart.is;
  refused_is = c.in-Err.ensures.refused;
  whole = c.in-Err.ensures.whole;
}

pub returns-in-Handle-clause-before : goal.returns-in-Handle-clause-before
returns-in-Handle-clause-before g c = c.stand.ensures

pub returns-in-Work-clause-before : goal.returns-in-Work-clause-before
returns-in-Work-clause-before g c = c.stand.ensures

pub returns-in-Report-clause-before : goal.returns-in-Report-clause-before
returns-in-Report-clause-before g c = c.stand.ensures

pub returns-in-Due-clause-before : goal.returns-in-Due-clause-before
returns-in-Due-clause-before g c = c.stand.ensures

pub returns-in-Ok-clause-before : goal.returns-in-Ok-clause-before
returns-in-Ok-clause-before g c = c.stand.ensures

pub returns-in-Err-clause-before : goal.returns-in-Err-clause-before
returns-in-Err-clause-before g c = c.stand.ensures

pub returns-in-Handle-clause-asks : goal.returns-in-Handle-clause-asks
returns-in-Handle-clause-asks g c =
    asks_to c.args.run c.handle-outcome.new.run c.args.call.now
    (calls.Handle c.in-Handle.person c.in-Handle.now c.in-Handle.drawn c.in-Handle.request)
    c.handle-outcome.result c.with_invariants.result c.in-Handle.is c.with_invariants.ensures.same c.args.rotator.now
    c.args.rotator.now
    (kept_same g.R.Rotator c.args.rotator.now _ _ c.handle-outcome.ensures.verdicts)

pub returns-in-Handle-clause-one_door : goal.returns-in-Handle-clause-one_door
returns-in-Handle-clause-one_door g c =
    door_to c.args.run c.handle-outcome.new.run c.args.call.now
    (calls.Handle c.in-Handle.person c.in-Handle.now c.in-Handle.drawn c.in-Handle.request)
    c.handle-outcome.result c.with_invariants.result c.in-Handle.is c.with_invariants.ensures.same
    (λ one. c.handle-outcome.ensures.doors ∙ one)

pub returns-in-Report-clause-asks : goal.returns-in-Report-clause-asks
returns-in-Report-clause-asks g c =
    asks_to c.args.run c.report-outcome.new.run c.args.call.now (calls.Report c.in-Report.place c.in-Report.now)
    c.report-outcome.result c.with_invariants-in-Report.result c.in-Report.is
    c.with_invariants-in-Report.ensures.same c.args.rotator.now c.args.rotator.now
    (kept_same g.R.Rotator c.args.rotator.now _ _ c.report-outcome.ensures.verdicts)

pub returns-in-Report-clause-one_door : goal.returns-in-Report-clause-one_door
returns-in-Report-clause-one_door g c =
    door_to c.args.run c.report-outcome.new.run c.args.call.now (calls.Report c.in-Report.place c.in-Report.now)
    c.report-outcome.result c.with_invariants-in-Report.result c.in-Report.is c.with_invariants-in-Report.ensures.same
    (λ one. c.report-outcome.ensures.doors ∙ one)

pub returns-in-Due-clause-asks : goal.returns-in-Due-clause-asks
returns-in-Due-clause-asks g c =
    asks_to c.args.run c.start_due-outcome.new.run c.args.call.now (calls.Due c.in-Due.now c.in-Due.drawn)
    c.start_due-outcome.result c.with_invariants-in-Due.result c.in-Due.is c.with_invariants-in-Due.ensures.same
    c.args.rotator.now c.args.rotator.now
    (kept_same g.R.Rotator c.args.rotator.now _ _ c.start_due-outcome.ensures.verdicts)

pub returns-in-Due-clause-one_door : goal.returns-in-Due-clause-one_door
returns-in-Due-clause-one_door g c =
    door_to c.args.run c.start_due-outcome.new.run c.args.call.now (calls.Due c.in-Due.now c.in-Due.drawn)
    c.start_due-outcome.result c.with_invariants-in-Due.result c.in-Due.is c.with_invariants-in-Due.ensures.same
    (λ one. c.start_due-outcome.ensures.doors ∙ one)

pub returns-in-Work-clause-asks : goal.returns-in-Work-clause-asks
returns-in-Work-clause-asks g c =
    asks_to c.args.run c.work-outcome.new.run c.args.call.now (calls.Work c.in-Work.now) c.work-outcome.result
    c.with_invariants-in-Work.result c.in-Work.is c.with_invariants-in-Work.ensures.same c.args.rotator.now
    c.work-outcome.new.rotator c.work-outcome.ensures.asks

pub returns-in-Work-clause-one_door : goal.returns-in-Work-clause-one_door
returns-in-Work-clause-one_door g c =
    door_to c.args.run c.work-outcome.new.run c.args.call.now (calls.Work c.in-Work.now) c.work-outcome.result
    c.with_invariants-in-Work.result c.in-Work.is c.with_invariants-in-Work.ensures.same
    (λ one. c.work-outcome.ensures.doors ∙ one)

pub returns-in-Ok-clause-asks : goal.returns-in-Ok-clause-asks
returns-in-Ok-clause-asks g c =
    asks_to c.args.run c.in-Ok.run' c.args.call.now calls.Restart outcomes.Reopened c.with_invariants-in-Ok.result
    c.in-Restart.is c.with_invariants-in-Ok.ensures.same c.args.rotator.now c.args.rotator.now
    (kept_same g.R.Rotator c.args.rotator.now _ _ c.in-Ok.ensures.verdicts)

pub returns-in-Ok-clause-one_door : goal.returns-in-Ok-clause-one_door
returns-in-Ok-clause-one_door g c =
    door_to c.args.run c.in-Ok.run' c.args.call.now calls.Restart outcomes.Reopened c.with_invariants-in-Ok.result
    c.in-Restart.is c.with_invariants-in-Ok.ensures.same (λ one. c.in-Ok.ensures.one_door)
