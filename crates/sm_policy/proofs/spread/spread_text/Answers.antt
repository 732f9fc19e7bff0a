use Rattle.std.proofs.Common.{◌∙◌}
use Rattle.sm_policy.specs.Patterns.{letters}
use Rattle.sm_policy.proofs.MatchInLemmas.{begun, whole_spread, more_spread}
use Rattle.sm_policy.proofs.spread.spread_text.Goals as goal

pub loop-letter-init : goal.loop-letter-init
loop-letter-init c = λ empty. begun (letters c.args.case c.args.text.now) c.args.spread.now empty

pub returns-in_default : goal.returns-in_default
returns-in_default c =
    λ empty is. whole_spread (letters c.args.case c.args.text.now) c.loop-letter.spread
    (c.loop-letter.invariant empty).0 ((c.loop-letter.invariant empty).1 ∙ c.in_default.ensures)

pub loop-letter-preserved : goal.loop-letter-preserved
loop-letter-preserved c =
    λ empty. more_spread (letters c.args.case c.args.text.now) (letters c.args.case c.in-Some.next.now)
    c.in-Some.letter c.loop-letter.spread c.add.new.spread (c.loop-letter.invariant empty).0
    ((c.loop-letter.invariant empty).1 ∙ c.in-Some.ensures.front) c.add.ensures
