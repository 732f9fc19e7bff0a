use Rattle.std.proofs.Common.{◌∙◌, sym}
use Rattle.sm_base_check.proofs.DifferLemmas.{again, still, with_this}
use Rattle.sm_base_check.proofs.differ.all_differ.Goals as goal

pub returns-then-not-branch : goal.returns-then-not-branch
returns-then-not-branch g c =
    again (g.T.Told.texts c.args.things.now) c.loop-at.at c.text.result.now c.loop-at.seen c.text.ensures
    c.loop-at.invariant.those c.loop-at.invariant.differ (sym c.in_ok-is_first.ensures.first ∙ c.if-not-branch.true)

pub loop-at-preserved : goal.loop-at-preserved
loop-at-preserved g c = record {
  differ = still (g.T.Told.texts c.args.things.now) c.loop-at.at c.text.result.now c.loop-at.seen c.text.ensures
      c.loop-at.invariant.those c.loop-at.invariant.differ
      (sym c.in_ok-is_first.ensures.first ∙ c.if-not-branch.false);
  those = with_this (g.T.Told.texts c.args.things.now) c.loop-at.at c.text.result.now c.loop-at.seen c.text.ensures
      c.loop-at.invariant.those c.loop-at.invariant.differ c.is_first.new.self c.in_ok-is_first.ensures.seen;
}
