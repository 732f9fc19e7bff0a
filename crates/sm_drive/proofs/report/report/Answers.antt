use Rattle.sm_drive.proofs.CallLemmas.{report_calls, unnamed_calls}
use Rattle.sm_drive.proofs.report.report.Goals as goal

pub returns-in-Some-clause-calls : goal.returns-in-Some-clause-calls
returns-in-Some-clause-calls g c =
    report_calls g.D.Disk g.R.Rotator c.args.run.now c.report.new.self c.report.ensures.origin c.args.place c.args.now
    c.in-Some.verdict.now c.report.result c.entries.result c.place_of-next.result c.outcome_of.result
    c.in-Some.ensures c.entries.ensures c.place_of-next.ensures c.outcome_of.ensures c.report.ensures.reports
    c.report.ensures.leaves

pub returns-in-None-clause-calls : goal.returns-in-None-clause-calls
returns-in-None-clause-calls g c =
    unnamed_calls g.D.Disk g.R.Rotator c.args.run.now c.args.place c.args.now c.in-None.ensures

pub returns-in-Some-clause-doors : goal.returns-in-Some-clause-doors
returns-in-Some-clause-doors g c = c.report.ensures.origin.doors_stay
