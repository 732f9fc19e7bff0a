use Rattle.sm_recovery.specs.Unlawful.{IsFirstFault, OnDamaged}
use Rattle.sm_store.specs.Held.{edition_of}
use Rattle.sm_recovery.proofs.TakingLemmas.{damaged_behind, memory_behind}
use Rattle.sm_recovery.proofs.opening.refused_behind.Goals as goal

pub returns-in-Damaged : goal.returns-in-Damaged
returns-in-Damaged g c old why =
    damaged_behind g.D.Disk old c.args.disk c.args.front why c.in-Damaged.damage
    (rw c.in-Damaged.is at c.first_fault.ensures why.2 why.3)

pub returns : goal.returns
returns g c old why = memory_behind g.D.Disk old c.args.disk c.args.front why
