use Rattle.sm_drive.proofs.CallLemmas.{handle_calls}
use Rattle.sm_drive.proofs.handling.handle.Goals as goal

pub returns-clause-calls : goal.returns-clause-calls
returns-clause-calls g c =
    handle_calls g.D.Disk g.R.Rotator c.args.run.now c.handle-handled.new.self c.handle-handled.ensures.origin
    c.args.person.now c.args.now c.args.drawn.now c.args.request.now c.handle-handled.result c.entries-before.result
    c.entries-after.result c.place_of.result c.outcome_of.result c.entries-before.ensures c.entries-after.ensures
    c.place_of.ensures c.outcome_of.ensures c.handle-handled.ensures.handled c.handle-handled.ensures.leaves

pub returns-clause-doors : goal.returns-clause-doors
returns-clause-doors g c = c.handle-handled.ensures.origin.doors_stay
