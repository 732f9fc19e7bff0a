use Rattle.std.proofs.Common.{◌≡◌, [], All, subst, arith}
use denote.Param.Send.{sendable}
use Rattle.sm_lock.specs.Handles.{seen, mine, IsIn}
use Rattle.sm_lock_tests.proofs.rounds.all_are_woken.Goals as goal

pub join-one-requires-after_bounds : goal.join-one-requires-after_bounds
join-one-requires-after_bounds g c κs within =
    let one = c.take_apart-one.result.0 in
    let new = subst (All (λ pass. IsIn c.in_ok-gate.gate pass × (seen pass ≡ c.args.value.entries.items)
    × (mine pass ≡ []))) c.take_apart-one.ensures.passes c.in_ok-gate.ensures.seen in (
      (new 0 one (omega arith)).0,
      (
        ((new 1 one (omega arith)).0, (new 2 one (omega arith)).0),
        search
            (sendable, c.type_bounds.sync-R),
      ),
    )
