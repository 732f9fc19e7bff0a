use Rattle.std.proofs.Common.{None, inl, inr, refl}
use Rattle.sm_follow.specs.Disks.{disk_in}
use Rattle.sm_follow.specs.InputTurns.{PromotesAs, StopsUnless}
use Rattle.sm_follow.proofs.StopLemmas.{stop_spelled}
use Rattle.sm_follow.proofs.TurnLemmas.{comes_memory, comes_weaker, stops_lacking}
use Rattle.sm_follow.proofs.promoting.promote_named.Goals as goal

pub secret_id-requires : goal.secret_id-requires
secret_id-requires g c = stop_spelled c.args.request.now c.args.text.now c.requires.stops c.requires.forms

pub returns-in-Ok-clause-comes : goal.returns-in-Ok-clause-comes
returns-in-Ok-clause-comes g c state stands =
    comes_weaker (PromotesAs state c.args.moment c.args.text.now)
    (StopsUnless None state c.args.moment c.args.text.now) _ c.promote.result (λ o on p. inl p)
    (c.promote.ensures.comes c.args.text.now c.in-Ok.ensures state stands)

pub returns-in-Err-clause-comes : goal.returns-in-Err-clause-comes
returns-in-Err-clause-comes g c state stands =
    comes_memory (StopsUnless None state c.args.moment c.args.text.now)
    (g.D.Disk.faults (disk_in c.args.follower)) state c.args.follower stands
    (stops_lacking None state c.args.moment c.args.text.now)
