-- How the characters of a text are found one after the other (The Unicode Standard, table 3-6).
use Rattle.std.specs.Prelude.{◌≡◌, ℕ, suc, ◌+◌, ◌*◌, ◌<◌, ◌≤◌, ◌^◌, List, ◌∷◌, length, chars}
use Rattle.sm_policy.specs.declared.pattern.Case.{Case}
use Rattle.sm_policy.specs.Patterns.{letters}
use Rattle.std.specs.Str.{chars_after}

-- with one byte more the bits are these, and this follows
pub record Continues (bits : ℕ) (text : List ℕ) (more : ℕ) (rest : List ℕ) : Type 0 where
  pub on : (n : ℕ) → chars_after (suc n) bits text ≡ chars_after n more rest
  pub high : more ≤ bits * 64 + 127
  pub shorter : length rest < length text

-- the text begins with a character, and this follows
pub record Begins (text : List ℕ) (character : ℕ) (rest : List ℕ) : Type 0 where
  pub front : chars text ≡ character ∷ chars rest
  pub high : character < 2 ^ 31
  pub shorter : length rest < length text

-- the same as it is compared
pub record BeginsAs (case : Case) (text : List ℕ) (character : ℕ) (rest : List ℕ) : Type 0 where
  pub front : letters case text ≡ character ∷ letters case rest
  pub shorter : length rest < length text
