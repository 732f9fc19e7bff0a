use Rattle.std.proofs.Common.{refl}
use Rattle.sm_drive.proofs.AskedLemmas.{all_made, all_on, one_refused, refuted}
use Rattle.sm_drive.proofs.asked.all_may_be_made.Goals as goal

pub returns-then-not-may_be_made : goal.returns-then-not-may_be_made
returns-then-not-may_be_made c =
    one_refused c.args.calls.now c.loop-call.call-index c.call-item.result c.loop-call-test.true c.call-item.is
    (λ may. refuted c.may_be_made.result c.if-not-may_be_made.true (c.may_be_made.ensures.1 may))

pub loop-call-preserved : goal.loop-call-preserved
loop-call-preserved c =
    all_on c.args.calls.now c.loop-call.call-index c.call-item.result c.loop-call-test.true c.call-item.is
    (c.may_be_made.ensures.0 c.if-not-may_be_made.false) c.loop-call.invariant

pub returns : goal.returns
returns c = (
  λ made. all_made c.args.calls.now c.loop-call.call-index c.loop-call-test.false c.loop-call.invariant,
  λ all. refl,
)
