use Rattle.std.proofs.Common.{Option, IfSome, sym, subst, ◌∙◌}
use Rattle.sm_replication.specs.declared.frame.Frame.{Frame}
use Rattle.sm_replica.specs.Shipped.{base_of, entries_of, IsShippable}
use Rattle.sm_replica.proofs.ShipLemmas.{shipped_more}
use Rattle.sm_replica.proofs.shipping.ship.Goals as goal

pub loop-frames-preserved : goal.loop-frames-preserved
loop-frames-preserved g c =
    shipped_more (base_of c.args.account.now) (entries_of c.args.account.now) c.args.position
    c.loop-frames.frames.items c.loop-frames.at c.loop-frames.invariant c.in-Some.frame c.push.new.self.items
    c.end_of-at.result
    (sym c.in-Some.is ∙ c.in_ok-frame.ensures.frame)
    (subst (λ (o : Option Frame). IfSome o IsShippable) c.in-Some.is c.in_ok-frame.ensures.shippable)
    c.in_ok-push-in-Some.ensures.items c.end_of-at.ensures
