use Rattle.std.proofs.Common.{inl}
use Rattle.sm_drive.proofs.AskingLemmas.{asked_to, one_door}
use Rattle.sm_drive.proofs.DriveLemmas.{drives_to, fallen_to, later_to, over_to, stopped}
use Rattle.sm_drive.proofs.driving.run_over.Goals as goal

pub go_on-requires-clause-fresh : goal.go_on-requires-clause-fresh
go_on-requires-clause-fresh g c = c.in-Ok.ensures.fresh

pub returns-in-Ok-go_on-clause-ran : goal.returns-in-Ok-go_on-clause-ran
returns-in-Ok-go_on-clause-ran g c =
    drives_to g.D.Disk g.R.Rotator c.args.disk c.args.calls.now c.in-Ok.run' c.in-Ok-go_on.run' c.in-Ok.ensures.fresh
    c.in-Ok.ensures.began _ c.in-Ok-go_on.ensures.come c.end.result c.end.ensures.same

pub returns-in-Ok-go_on-clause-over : goal.returns-in-Ok-go_on-clause-over
returns-in-Ok-go_on-clause-over g c =
    over_to g.D.Disk g.R.Rotator c.args.disk c.args.calls.now c.in-Ok.run' c.in-Ok-go_on.run' c.in-Ok.ensures.fresh
    c.in-Ok.ensures.began _ c.in-Ok-go_on.ensures.come c.end.result c.end.ensures.same

pub returns-in-Ok-go_on-clause-asked : goal.returns-in-Ok-go_on-clause-asked
returns-in-Ok-go_on-clause-asked g c =
    asked_to c.in-Ok.run' c.in-Ok-go_on.run' c.in-Ok.ensures.fresh _ c.end.result c.end.ensures.same c.args.calls.now
    c.args.rotator.now c.go_on.new.rotator c.in-Ok-go_on.ensures.asked

pub returns-in-Ok-go_on-clause-one_door : goal.returns-in-Ok-go_on-clause-one_door
returns-in-Ok-go_on-clause-one_door g c =
    one_door c.in-Ok.run' c.in-Ok-go_on.run' c.in-Ok.ensures.fresh _ c.end.result c.end.ensures.same
    (c.in-Ok-go_on.ensures.one_door c.in-Ok.ensures.one_door)

pub returns-in-Ok-go_on-clause-tail : goal.returns-in-Ok-go_on-clause-tail
returns-in-Ok-go_on-clause-tail g c = c.end.ensures.tail

pub returns-in-Ok-go_on-clause-later : goal.returns-in-Ok-go_on-clause-later
returns-in-Ok-go_on-clause-later g c =
    later_to g.D.Disk g.R.Rotator c.args.disk c.args.calls.now c.in-Ok.run' c.in-Ok-go_on.run' c.in-Ok.ensures.fresh
    c.in-Ok.ensures.began _ c.in-Ok-go_on.ensures.come c.end.result c.end.ensures.same

pub returns-in-Ok-go_on-clause-rotator_later : goal.returns-in-Ok-go_on-clause-rotator_later
returns-in-Ok-go_on-clause-rotator_later g c = c.in-Ok-go_on.ensures.later

pub returns-in-Err-go_on-clause-refused : goal.returns-in-Err-go_on-clause-refused
returns-in-Err-go_on-clause-refused g c =
    stopped g.D.Disk g.R.Rotator c.args.disk c.args.calls.now c.in-Ok.run' c.in-Ok.ensures.began
    c.in-Err-go_on.refused c.in-Err-go_on.ensures.refused

pub returns-in-Err-go_on-clause-fallen : goal.returns-in-Err-go_on-clause-fallen
returns-in-Err-go_on-clause-fallen g c =
    fallen_to g.D.Disk g.R.Rotator c.args.disk c.args.calls.now c.in-Ok.run' c.in-Ok.ensures.began
    c.in-Err-go_on.refused c.in-Err-go_on.ensures.refused

pub returns-in-Err-go_on-clause-rotator_later : goal.returns-in-Err-go_on-clause-rotator_later
returns-in-Err-go_on-clause-rotator_later g c = c.in-Err-go_on.ensures.later

pub returns-in-Err-clause-refused : goal.returns-in-Err-clause-refused
returns-in-Err-clause-refused g c = inl c.in-Err.ensures.refused

pub returns-in-Err-clause-fallen : goal.returns-in-Err-clause-fallen
returns-in-Err-clause-fallen g c = c.in-Err.ensures.refused.later
