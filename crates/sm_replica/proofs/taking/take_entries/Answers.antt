use Rattle.std.proofs.Common.{drop, length, ◌-◌}
use Rattle.sm_replica.proofs.TakeLemmas.{timely_behind, timely_front}
use Rattle.sm_replica.proofs.taking.take_entries.Goals as goal

pub follow_fresh-requires-clause-timely : goal.follow_fresh-requires-clause-timely
follow_fresh-requires-clause-timely c =
    let front = c.min-front.result in
    let entries = c.args.entries.now in
    timely_front (length entries - front) (drop front entries) (timely_behind front entries c.requires)
