use Rattle.std.proofs.Common.{◌-◌}
use Rattle.sm_replica.proofs.ShipLemmas.{taken_spelled, entries_shippable}
use Rattle.sm_replica.proofs.shipping.next_frame.Goals as goal

pub returns-clause-shippable : goal.returns-clause-shippable
returns-clause-shippable g c =
    entries_shippable c.args.position c.in_ok-entries.entries.items _ c.entries_at.result c.entries_at.ensures
    c.in_ok-entries.ensures (taken_spelled c.args.account.now (c.args.position - c.base-base.result.now.entries))
