-- How the matcher goes on.
use Rattle.std.specs.Prelude.{◌≡◌, ◌≢◌, ℕ, ◌<◌, true, false, ◌∷◌, length}
use Rattle.sm_policy.specs.declared.pattern.Case.{Case}
use Rattle.sm_policy.specs.declared.pattern.Places.{Places}
use Rattle.sm_policy.specs.declared.pattern.Step.{Step}
use Rattle.sm_policy.specs.declared.pattern.Step.TheVariants as steps
use Rattle.sm_policy.specs.Patterns.{letters, wild}

-- the pattern stands at a `*`, and goes on behind it at the same place of the text
pub record PastStar (case : Case) (here next : Places) : Type 0 where
  pub star : letters case here.pattern.now ≡ 42 ∷ letters case next.pattern.now
  pub same : next.text.now ≡ here.text.now
  pub shorter : length next.pattern.now < length here.pattern.now

-- the first characters match, and both go on behind them
pub record PastBoth (case : Case) (here next : Places) : Type 0 where
  pub p : ℕ
  pub c : ℕ
  pub no_star : p ≢ 42
  pub pattern_on : letters case here.pattern.now ≡ p ∷ letters case next.pattern.now
  pub text_on : letters case here.text.now ≡ c ∷ letters case next.text.now
  pub match : wild (letters case here.pattern.now) (letters case here.text.now)
      ≡ wild (letters case next.pattern.now) (letters case next.text.now)
  pub shorter : length next.pattern.now < length here.pattern.now
  pub text_shorter : length next.text.now < length here.text.now

abbrev pub IsStep : Case → Places → Step → Type 0
IsStep case here (steps.Star next) = PastStar case here next
IsStep case here (steps.Both next) = PastBoth case here next
IsStep case here steps.End = wild (letters case here.pattern.now) (letters case here.text.now) ≡ true
IsStep case here steps.Apart = wild (letters case here.pattern.now) (letters case here.text.now) ≡ false
