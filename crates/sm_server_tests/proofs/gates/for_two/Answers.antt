use Rattle.std.proofs.Common.{◌≡◌, [], All, subst, arith}
use Rattle.sm_lock.specs.Handles.{seen, mine, IsIn}
use Rattle.sm_server_tests.proofs.gates.for_two.Goals as goal

pub returns : goal.returns
returns g c =
    let first = c.both-first.result.0 in
    let new = subst (All (λ pass. IsIn c.in_ok-gate.gate pass × (seen pass ≡ g.T.Storied.story c.args.value)
    × (mine pass ≡ []))) c.both-first.ensures c.in_ok-gate.ensures.seen in
    ((new 0 first (omega arith)).0, (new 1 first (omega arith)).0)
