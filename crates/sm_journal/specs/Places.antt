-- Bodies by their places in the bytes of a file.
use Rattle.std.specs.Prelude.{ℕ, ◌+◌, ◌≤◌, List, [], ◌∷◌, map, length, take, drop}
use Rattle.sm_journal.specs.declared.records.Place.{Place}

-- what stands at a place
abbrev pub slice_of : List ℕ → Place → List ℕ
slice_of bytes place = take place.length (drop place.start bytes)

-- what stands at each of these places
abbrev pub bodies_at : List ℕ → List Place → List (List ℕ)
bodies_at bytes places = map (slice_of bytes) places

-- none of these places reaches behind the bytes
abbrev pub AreInside : List ℕ → List Place → Type 0
AreInside bytes [] = Unit {0}
AreInside bytes (place ∷ places) = (place.start + place.length ≤ length bytes) × AreInside bytes places
