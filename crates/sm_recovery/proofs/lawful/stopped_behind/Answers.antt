use Rattle.std.proofs.Common.{arith}
use Rattle.sm_store.specs.Openings.{held_of}
use Rattle.sm_recovery.specs.Following.{StopsAfter}
use Rattle.sm_recovery.specs.Lawful.{base_under}
use Rattle.sm_recovery.proofs.JudgedLemmas.{illegal_told}
use Rattle.sm_recovery.proofs.lawful.stopped_behind.Goals as goal

pub told_behind-requires-clause-within : goal.told_behind-requires-clause-within
told_behind-requires-clause-within c =
    let stops : StopsAfter (base_under c.args.loaded.now.base) c.args.loaded.now.entries c.in-Illegal.count =
    rw c.in-Illegal.is at c.requires.stops in
    omega (arith, stops.within)

pub returns-in-Illegal : goal.returns-in-Illegal
returns-in-Illegal c =
    illegal_told c.args.edition (held_of c.args.loaded.now) c.in-Illegal.count c.told_behind.result c.requires.sound
    (rw c.in-Illegal.is at c.requires.stops) c.told_behind.ensures
