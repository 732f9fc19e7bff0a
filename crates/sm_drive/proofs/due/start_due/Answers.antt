use Rattle.sm_drive.proofs.CallLemmas.{due_calls}
use Rattle.sm_drive.proofs.due.start_due.Goals as goal

pub returns-clause-calls : goal.returns-clause-calls
returns-clause-calls g c =
    due_calls g.D.Disk g.R.Rotator c.args.run.now c.start_due.new.self c.start_due.ensures.origin c.args.now
    c.args.drawn.now c.start_due.result c.entries.result c.place_of-next.result c.outcome_of.result c.entries.ensures
    c.place_of-next.ensures c.outcome_of.ensures c.start_due.ensures.starts c.start_due.ensures.leaves

pub returns-clause-doors : goal.returns-clause-doors
returns-clause-doors g c = c.start_due.ensures.origin.doors_stay
