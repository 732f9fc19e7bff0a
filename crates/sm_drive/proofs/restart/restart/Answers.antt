use Rattle.sm_drive.proofs.CallLemmas.{refused_here, refused_whole, restart_calls}
use Rattle.sm_drive.proofs.restart.restart.Goals as goal

pub returns-in-Ok-clause-calls : goal.returns-in-Ok-clause-calls
returns-in-Ok-clause-calls g c =
    restart_calls g.D.Disk g.R.Rotator c.args.run g.met.D.Disk.reads_image c.invariants.ensures.on_disk c.close.result
    c.close.ensures c.in-Ok.account c.in-Ok.ensures.opened c.in-Ok.ensures.taken

pub returns-in-Err-clause-refused : goal.returns-in-Err-clause-refused
returns-in-Err-clause-refused g c =
    refused_here g.D.Disk g.R.Rotator c.args.run g.met.D.Disk.reads_image c.invariants.ensures.on_disk c.close.result
    c.close.ensures c.in-Err.refused c.in-Err.ensures.refused

pub returns-in-Err-clause-whole : goal.returns-in-Err-clause-whole
returns-in-Err-clause-whole g c =
    refused_whole g.D.Disk g.R.Rotator c.args.run g.met.D.Disk.reads_image c.invariants.ensures.on_disk c.close.result
    c.close.ensures c.in-Err.refused c.in-Err.ensures.refused

pub returns-in-Ok-clause-one_door : goal.returns-in-Ok-clause-one_door
returns-in-Ok-clause-one_door g c = c.in-Ok.ensures.opened.doors_are
