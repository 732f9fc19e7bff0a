-- Each connection that came to a worker and was not removed is at the place that it was given, whatever is done with
-- the others.
use Rattle.std.specs.Prelude.{◌≡◌, ℕ, ◌⊎◌, Bool, List, [], ◌∷◌, ◌++◌, length, Option, Some, None, is_some, count_by, slice_index_or, slice_set}
use Rattle.slab.specs.Slab.{get, slab_len, with_value}
use Rattle.sm_visits.specs.Visits.{ArrivalsState, Ending, nothing_arrived}
use Rattle.sm_visits.specs.Histories.{History, nothing_happened, Told, Ended}
use Rattle.sm_visits.specs.Connections.{Table, here, Came, with_handed_out, with_taken_back, with_removed}

-- The connections by the number in which they came: nothing once it was removed; else its place and, where it is not
-- handed out, the connection as its own calls left it.
abbrev pub Coming : Type 0 → Type 0
Coming C = List (Option (ℕ × Option C))

module _ {C : Type 0} where
  -- the connection that came as this number has this place, and is so
  abbrev pub IsAt : Coming C → ℕ → ℕ → Option C → Type 0
  IsAt came number place now = slice_index_or came number None ≡ Some (place, now)

  -- Each is at its place, as its own calls left it; no other has that place; nothing else is in the table, and they are
  -- as many.
  pub record EachIsThere (came : Coming C) (t : Table C) : Type 0 where
    pub there : (number place : ℕ) (now : Option C) → IsAt came number place now → get t place ≡ Some now
    pub alone : (number other place : ℕ) (now later : Option C) → IsAt came number place now
        → IsAt came other place later → number ≡ other
    pub only : (place : ℕ) (now : Option C) → get t place ≡ Some now → (number : ℕ) × IsAt came number place now
    pub count : slab_len t ≡ count_by is_some came

  -- one more came, and was given this place
  abbrev pub after_coming : Coming C → ℕ → C → Coming C
  after_coming came place connection = came ++ Some (place, Some connection) ∷ []

  -- one of them is so now, at its place
  abbrev pub after_change : Coming C → ℕ → ℕ → Option C → Coming C
  after_change came number place now = slice_set came number (Some (place, now))

  -- one of them was removed
  abbrev pub after_removal : Coming C → ℕ → Coming C
  after_removal came number = slice_set came number None

-- none, in an empty table
abbrev pub ThereAtFirst : Type 0 → Type 0
ThereAtFirst C = (t : Table C) → t.slots ≡ [] → EachIsThere [] t

-- memory for one more
abbrev pub ThereAtPrepare : Type 0 → Type 0
ThereAtPrepare C = (came : Coming C) (t : Table C) (room : ℕ) → EachIsThere came t
    → EachIsThere came (record t { capacity = room })

-- a connection that comes
abbrev pub ThereAtInsert : Type 0 → Type 0
ThereAtInsert C = (came : Coming C) (old new : Table C) (place : ℕ) (connection : C) → EachIsThere came old
    → Came old place connection new → EachIsThere (after_coming came place connection) new

-- one that is changed at its place
abbrev pub ThereAtChange : Type 0 → Type 0
ThereAtChange C = (came : Coming C) (t : Table C) (number place : ℕ) (was now : C) → EachIsThere came t
    → IsAt came number place (Some was)
    → EachIsThere (after_change came number place (Some now)) (with_value t place (Some now))

-- one that is handed out
abbrev pub ThereAtTake : Type 0 → Type 0
ThereAtTake C = (came : Coming C) (t : Table C) (number place : ℕ) (was : C) → EachIsThere came t
    → IsAt came number place (Some was)
    → EachIsThere (after_change came number place None) (with_handed_out t place)

-- one that comes back
abbrev pub ThereAtPutBack : Type 0 → Type 0
ThereAtPutBack C = (came : Coming C) (t : Table C) (number place : ℕ) (now : C) → EachIsThere came t
    → IsAt came number place None
    → EachIsThere (after_change came number place (Some now)) (with_taken_back t place now)

-- one that is removed
abbrev pub ThereAtRemove : Type 0 → Type 0
ThereAtRemove C = (came : Coming C) (t : Table C) (number place : ℕ) → EachIsThere came t
    → IsAt came number place None
    → EachIsThere (after_removal came number) (with_removed t place)

-- What came on a connection and what became of it, before its last or behind it.
abbrev pub IsTold : History → ArrivalsState → Type 0
IsTold h s = Told h s ⊎ ((has_ended : Bool) × (why : Ending) × Ended h has_ended why s)

-- Each connection that is here has the bytes that its own history tells: what came on it, and what was given of that.
pub record BytesAreTold {C : Type 0} (arrivals : C → ArrivalsState) (bytes : List History) (came : Coming C) :
    Type 0 where
  pub as_many : length bytes ≡ length came
  pub told : (number place : ℕ) (connection : C) → IsAt came number place (Some connection)
      → IsTold (slice_index_or bytes number nothing_happened) (arrivals connection)

-- So it is of each that is found at a place: its bytes are those of the one connection that was given this place.
abbrev pub FoundIsTold : {C : Type 0} → (C → ArrivalsState) → Type 0
FoundIsTold {C} arrivals = (bytes : List History) (came : Coming C) (t : Table C) (place : ℕ) (connection : C)
    → EachIsThere came t → BytesAreTold arrivals bytes came → here t place ≡ Some connection
    → (number : ℕ) × IsAt came number place (Some connection)
    × IsTold (slice_index_or bytes number nothing_happened) (arrivals connection)

-- a connection comes, on which nothing arrived
abbrev pub BytesAtInsert : {C : Type 0} → (C → ArrivalsState) → Type 0
BytesAtInsert {C} arrivals = (bytes : List History) (came : Coming C) (place : ℕ) (connection : C)
    → arrivals connection ≡ nothing_arrived → BytesAreTold arrivals bytes came
    → BytesAreTold arrivals (bytes ++ nothing_happened ∷ []) (after_coming came place connection)

-- one goes on by its own calls, and all others stay
abbrev pub BytesAtChange : {C : Type 0} → (C → ArrivalsState) → Type 0
BytesAtChange {C} arrivals = (bytes : List History) (came : Coming C) (number place : ℕ) (was : Option C) (now : C)
    (past : History) → IsAt came number place was → IsTold past (arrivals now) → BytesAreTold arrivals bytes came
    → BytesAreTold arrivals (slice_set bytes number past) (after_change came number place (Some now))

-- one is handed out
abbrev pub BytesAtTake : {C : Type 0} → (C → ArrivalsState) → Type 0
BytesAtTake {C} arrivals = (bytes : List History) (came : Coming C) (number place : ℕ) → BytesAreTold arrivals
    bytes came
    → BytesAreTold arrivals bytes (after_change came number place None)

-- one is removed
abbrev pub BytesAtRemove : {C : Type 0} → (C → ArrivalsState) → Type 0
BytesAtRemove {C} arrivals = (bytes : List History) (came : Coming C) (number : ℕ) → BytesAreTold arrivals bytes came
    → BytesAreTold arrivals bytes (after_removal came number)
