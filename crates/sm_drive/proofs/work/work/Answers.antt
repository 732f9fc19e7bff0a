use Rattle.std.proofs.Common.{inl, refl}
use Rattle.sm_drive.proofs.CallLemmas.{no_work_calls, wanting_calls, work_calls}
use Rattle.sm_drive.proofs.work.work.Goals as goal

pub returns-in-Work-clause-calls : goal.returns-in-Work-clause-calls
returns-in-Work-clause-calls g c =
    work_calls g.D.Disk g.R.Rotator c.args.run.now c.next_work.new.self c.in-Work.ensures.origin c.args.now
    c.in-Work.work c.ask.new.verdicts c.ask.result c.in-Work.ensures.next c.in-Work.ensures.leaves c.ask.ensures.asks

pub returns-in-None-clause-calls : goal.returns-in-None-clause-calls
returns-in-None-clause-calls g c =
    no_work_calls g.D.Disk g.R.Rotator c.args.run.now c.next_work.new.self c.in-None.ensures.origin c.args.now
    c.in-None.ensures.next c.in-None.ensures.leaves

pub returns-in-Memory-clause-calls : goal.returns-in-Memory-clause-calls
returns-in-Memory-clause-calls g c =
    wanting_calls g.D.Disk g.R.Rotator c.args.run.now c.next_work.new.self c.in-Memory.ensures.origin c.args.now
    c.in-Memory.ensures.leaves

pub returns-in-Work-clause-asks : goal.returns-in-Work-clause-asks
returns-in-Work-clause-asks g c = c.ask.ensures.once

pub returns-in-None-clause-asks : goal.returns-in-None-clause-asks
returns-in-None-clause-asks g c = refl

pub returns-in-Memory-clause-asks : goal.returns-in-Memory-clause-asks
returns-in-Memory-clause-asks g c = inl refl

pub returns-in-Work-clause-doors : goal.returns-in-Work-clause-doors
returns-in-Work-clause-doors g c = c.in-Work.ensures.origin.doors_stay

pub returns-in-None-clause-doors : goal.returns-in-None-clause-doors
returns-in-None-clause-doors g c = c.in-None.ensures.origin.doors_stay

pub returns-in-Memory-clause-doors : goal.returns-in-Memory-clause-doors
returns-in-Memory-clause-doors g c = c.in-Memory.ensures.origin.doors_stay
