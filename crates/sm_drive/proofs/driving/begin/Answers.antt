use Rattle.sm_drive.proofs.DriveLemmas.{fresh_over}
use Rattle.sm_drive.proofs.driving.begin.Goals as goal

pub returns-in-Ok-clause-fresh : goal.returns-in-Ok-clause-fresh
returns-in-Ok-clause-fresh g c =
    fresh_over c.args.disk c.in-Ok.account c.in-Ok.ensures.opened c.empty.result c.empty.ensures c.entries-first.result
    c.entries-first.ensures c.in-Ok.ensures.taken

pub returns-in-Ok-clause-began : goal.returns-in-Ok-clause-began
returns-in-Ok-clause-began g c = c.in-Ok.ensures.opened.began_is

pub returns-in-Ok-clause-one_door : goal.returns-in-Ok-clause-one_door
returns-in-Ok-clause-one_door g c = c.in-Ok.ensures.opened.doors_are
