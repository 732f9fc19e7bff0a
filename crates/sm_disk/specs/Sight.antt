-- What a disk tells of its files: what a read gives, and what a crash may leave.
use Rattle.std.specs.Prelude.{ℕ, List}

-- what each file holds, under its number: the whole disk, since what two files hold may hang together
abbrev pub Image : Type 0
Image = ℕ → List ℕ

-- all that a disk tells
pub record Sight : Type 1 where
  -- what a read gives now
  pub reads : Image → Type 0
  -- what a crash now may leave
  pub images : Image → Type 0
  -- the moment, as a number that never falls
  pub moment : ℕ
  -- what a crash at some moment since that one might have left, during a call or between two
  pub left_since : ℕ → Image → Type 0

-- what a disk tells that tells nothing
abbrev pub untold : Sight
untold = record { reads = λ _. ⊥; images = λ _. ⊥; moment = 0; left_since = λ _ _. ⊥ }
