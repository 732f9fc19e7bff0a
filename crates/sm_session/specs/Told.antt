-- What a clock and a random source told, and how counts of faults grew.
use Rattle.std.specs.Prelude.{ℕ, List, [], ◌∷◌, ◌++◌, ◌≤◌}

-- the readings of the clock and the random bytes that were told
pub record Told : Type 0 where
  pub readings : List ℕ
  pub drawn : List ℕ

abbrev pub nothing_told : Told
nothing_told = record { readings = []; drawn = [] }

-- one reading of the clock, and these random bytes
abbrev pub told_once : ℕ → List ℕ → Told
told_once now bytes = record { readings = now ∷ []; drawn = bytes }

-- what was told for one thing and then for another
abbrev pub told_both : Told → Told → Told
told_both a b = record { readings = a.readings ++ b.readings; drawn = a.drawn ++ b.drawn }

-- a count of faults before something and after it
pub record Growth : Type 0 where
  pub before : ℕ
  pub after : ℕ

-- the one growth is a part of the other
abbrev pub Within : Growth → Growth → Type 0
Within part whole = (whole.before ≤ part.before) × (part.after ≤ whole.after)
