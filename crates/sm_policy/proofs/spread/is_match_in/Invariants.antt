use Rattle.std.proofs.Common.{◌≡◌, ℕ, List, length}
use Rattle.sm_policy.specs.Patterns.{letters, wild}
use Rattle.sm_policy.specs.PlaceSets.{has}
use Rattle.sm_policy.specs.Spreads.{Spreads}
use Rattle.sm_policy.proofs.MarkLemmas.{some_mark}
use Rattle.sm_policy.proofs.spread.is_match_in.Given as goal

-- the whole matches where what is left of the pattern does from some place of the set on
abbrev pub invariant-loop-wanted : goal.invariant-loop-wanted
invariant-loop-wanted l =
    (text : List ℕ) → Spreads text l.spread
    → wild (letters l.case l.pattern) text ≡ some_mark (has l.set) (wild (letters l.case l.rest)) text

abbrev pub decreases-loop-wanted : goal.decreases-loop-wanted
decreases-loop-wanted l = length l.rest
