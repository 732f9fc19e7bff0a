-- What holds of the words, the slot and all views between any two steps.
use Rattle.std.specs.Prelude.{◌≡◌, ◌≢◌, ◌⊎◌, ℕ, ◌+◌, ◌%◌, ◌^◌, ◌<◌, ◌≤◌, List, [], ◌∷◌, ◌++◌, length, Option, Some, None, if◌then◌else◌, nat_lt, slice_index, All}
use mathlib.Core.Option.{some, none}
use lib.ListN.{get_elem?}
use Rattle.atomic_table.specs.Table.{State}
use Rattle.sm_lock.specs.declared.view.QueuePlace.{QueuePlace}
use Rattle.sm_lock.specs.declared.view.QueuePlace.TheVariants.{Out, Waiting, Flagged, Parked, Inside, Holding, Waking, Rousing}
use Rattle.sm_lock.specs.declared.view.View.{View}
use Rattle.sm_lock.specs.Story.{times, made_by, Grows}
use Rattle.sm_lock.specs.View.{has_ticket, has, holds, parks, wakes, numbers}

-- the sum of f over a list
abbrev pub total : {A : Type 0} → (A → ℕ) → List A → ℕ
total f [] = 0
total f (x ∷ xs) = f x + total f xs

-- 1 where low ≤ n < high, and else 0
abbrev pub within : ℕ → ℕ → ℕ → ℕ
within low high n = if nat_lt n low then 0 else (if nat_lt n high then 1 else 0)

-- who is inside has the ticket that is served, and has seen the log
abbrev pub IsServed : {E : Type 0} → List (ℕ × E) → ℕ → List (ℕ × E) → QueuePlace → Type 0
IsServed log served seen Out = Unit {0}
IsServed log served seen (Waiting t) = Unit {0}
IsServed log served seen (Flagged t) = Unit {0}
IsServed log served seen (Parked t) = Unit {0}
IsServed log served seen (Inside t) = (t ≡ served) × (seen ≡ log)
IsServed log served seen (Holding t) = (t ≡ served) × (seen ≡ log)
IsServed log served seen (Waking t) = Unit {0}
IsServed log served seen (Rousing t) = Unit {0}

-- the word that has a ticket's flag, and the flag among all of them
abbrev pub flag_word : ℕ → ℕ
flag_word t = 3 + t % 128

abbrev pub flag : ℕ → List ℕ → ℕ
flag t flags = slice_index flags (t % 128)

-- all flags, of which each is 1 where it is up, and 0 where it is down
abbrev pub AreFlags : List ℕ → Type 0
AreFlags flags = (length flags ≡ 128) × All (λ f. f ≤ 1) flags

-- what holds of each view
pub record Fits {O E : Type 0} (origin : O) (built log : List (ℕ × E)) (served next : ℕ) (v : View O E) : Type 0 where
  -- all have one origin, but for those that are spent
  pub based : (v.origin ≡ None) ⊎ ((v.origin ≡ Some origin) × (v.built ≡ built))
  -- its list is a beginning of the log, and has all entries of its numbers
  pub own : Grows v.own.numbers v.own.seen log
  pub told : Grows v.told.numbers v.told.seen log
  pub inside : IsServed log served v.own.seen v.turn
  -- a view with no number has no ticket
  pub numbered : has_ticket v.turn ≤ length v.own.numbers
  -- only the builder counts numbers
  pub counts : (v.given ≡ 0) ⊎ (v.given ≡ next)

-- no wake-up is lost: where a seat may be parked though its ticket is served, its flag is down, or another seat has yet
-- to see to that flag
abbrev pub NoneSleepsOn : {O E : Type 0} → ℕ → List ℕ → List (View O E) → Type 0
NoneSleepsOn served flags views =
    0 < total (λ v. parks served v.turn) views → flag served flags ≢ 0 → 0 < total (λ v. wakes served v.turn) views

module _ {T O E : Type 0} where
  -- the value is with one seat
  abbrev pub IsAway : State (Option T) (View O E) → Type 0
  IsAway s = (s.homes ≡ none ∷ []) × (total (λ v. holds v.turn) s.views ≡ 1)

module _ {T O E : Type 0} (origin_of : T → O) (story_of : T → List (ℕ × E)) where
  -- the value is in the slot, and its list is the log
  abbrev pub IsHome : O → List (ℕ × E) → State (Option T) (View O E) → Type 0
  IsHome origin log s =
      (value : T) × (s.homes ≡ some (Some value) ∷ []) × (story_of value ≡ log) × (origin_of value ≡ origin)
      × (total (λ v. holds v.turn) s.views ≡ 0)

pub record Counted {T O E : Type 0} (origin_of : T → O) (story_of : T → List (ℕ × E)) (origin : O)
    (built : List (ℕ × E)) (seats : ℕ) (s : State (Option T) (View O E)) : Type 0 where
  -- the list of the value, wherever the value is, and what stands in it after the built list
  pub log : List (ℕ × E)
  pub added : List (ℕ × E)
  -- how many tickets were drawn and served, and the next number that the builder gives
  pub drawn : ℕ
  pub served : ℕ
  pub next : ℕ
  -- the flags of the tickets
  pub flags : List ℕ
  pub words_are : s.words ≡ (drawn % 2 ^ 64) ∷ (served % 2 ^ 64) ∷ length log ∷ flags
  pub all_flags : AreFlags flags
  pub none_sleeps_on : NoneSleepsOn served flags s.views
  -- the tickets held are the numbers from `served` up to `drawn`, each once
  pub queue : drawn ≡ served + total (λ v. has_ticket v.turn) s.views
  pub tickets : (t : ℕ) → total (λ v. has t v.turn) s.views ≡ within served drawn t
  -- the slot is home, or with the seat that is inside
  pub slot : IsHome origin_of story_of origin log s ⊎ IsAway s
  pub begins : log ≡ built ++ added
  -- each entry after the built list bears a number that was given
  pub numbered : (n : ℕ) → 0 < made_by (n ∷ []) added → (1 ≤ n) × (n < next)
  -- each number from 1 to below the next is had by exactly one view, and no other number is
  pub given : total (λ v. v.given) s.views ≡ next
  pub once : (n : ℕ) → total (λ v. times n (numbers v)) s.views ≡ within 1 next n
  pub many : total (λ v. length (numbers v)) s.views + 1 ≡ next
  pub few : next ≤ seats + 1
  pub each : (j : ℕ) (v : View O E) → get_elem? s.views j ≡ some v → Fits origin built log served next v
