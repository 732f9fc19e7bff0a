use Rattle.std.proofs.Common.{◌≡◌, [], length, take, drop}
use Rattle.sm_policy.specs.Patterns.{letters}
use Rattle.sm_policy.specs.Spreads.{Spreads}
use Rattle.sm_policy.proofs.spread.spread_text.Given as goal

-- what was read stands in the tables
abbrev pub invariant-loop-letter : goal.invariant-loop-letter
invariant-loop-letter l =
    Spreads [] l.fn.spread
    → Spreads (take l.spread.length (letters l.case l.text)) l.spread
    × (drop l.spread.length (letters l.case l.text) ≡ letters l.case l.rest)

abbrev pub decreases-loop-letter : goal.decreases-loop-letter
decreases-loop-letter l = length l.rest
