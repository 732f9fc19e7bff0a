use Rattle.sm_policy.specs.Patterns.{letters, wild}
use Rattle.sm_policy.proofs.MatchLemmas.{Goes}
use Rattle.sm_policy.proofs.WorkLemmas.{work}
use Rattle.sm_policy.proofs.pattern.is_match.Given as goal

abbrev pub invariant-loop-next : goal.invariant-loop-next
invariant-loop-next l =
    Goes (wild (letters l.case l.pattern) (letters l.case l.text)) l.case l.pattern l.text l.star l.here

abbrev pub decreases-loop-next : goal.decreases-loop-next
decreases-loop-next l = work l.pattern l.text l.star l.here
