use Rattle.sm_drive.proofs.CallLemmas.{asks_kept}
use Rattle.sm_drive.proofs.AskingLemmas.{asked_kept, not_asked}
use Rattle.sm_drive.proofs.work.ask.Goals as goal

pub returns-in-Answered-clause-asks : goal.returns-in-Answered-clause-asks
returns-in-Answered-clause-asks g c =
    asks_kept c.args.work c.new.result c.args.verdicts.now c.keep.new.verdicts c.keep.result c.keep.ensures
    c.new.ensures.work

pub returns-in-Answered-clause-once : goal.returns-in-Answered-clause-once
returns-in-Answered-clause-once g c =
    asked_kept g.R.Rotator c.args.rotator.now c.ask.new.self c.args.verdicts.now c.keep.new.verdicts c.new.result
    c.args.work c.in-Answered.answer c.keep.result c.new.ensures.work c.new.ensures.answer c.in-Answered.ensures.told
    c.keep.ensures

pub returns-in-Memory-clause-once : goal.returns-in-Memory-clause-once
returns-in-Memory-clause-once g c =
    not_asked g.R.Rotator c.args.rotator.now c.ask.new.self c.args.verdicts.now c.in-Memory.ensures.told
