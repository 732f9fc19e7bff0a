-- Bodies by their places, as the reading of a file finds them.
use Rattle.std.proofs.Common.{◌≡◌, ℕ, ◌+◌, ◌<◌, ◌≤◌, List, [], ◌∷◌, ◌++◌, zero, suc, length, get_or, take, drop, refl, sym, ◌∙◌, ap, subst, arith, append_assoc, length-append}
use Rattle.std.proofs.lemmas.List.{map_push, take_at, drop_at}
use Rattle.std.specs.Int.{w32, to_be_bytes}
use Rattle.sm_journal.specs.Places.{slice_of, bodies_at, AreInside}
use Rattle.sm_journal.specs.Records.{entry_of, front}
use Rattle.sm_journal.specs.declared.format.Format.{Format}
use Rattle.sm_journal.specs.declared.records.Place.{Place}

-- as many bodies as places
pub length_bodies : (bytes : List ℕ) (places : List Place) → length (bodies_at bytes places) ≡ length places
length_bodies bytes [] = refl
length_bodies bytes (place ∷ places) = omega (arith, length_bodies bytes places)

-- a place among others reaches no further than they do
pub place_inside : (bytes : List ℕ) (places : List Place) (i : ℕ) (d place : Place) → AreInside bytes places
    → i < length places → place ≡ get_or places i d → place.start + place.length ≤ length bytes
place_inside bytes [] i d place inside lt is = absurd (omega arith)
place_inside bytes (p ∷ places) zero d place inside lt is =
    subst (λ (q : Place). q.start + q.length ≤ length bytes) (sym is) inside.0
place_inside bytes (p ∷ places) (suc i) d place inside lt is =
    place_inside bytes places i d place inside.1 (omega arith) is

inside_behind : (bytes : List ℕ) (places : List Place) (place : Place) → AreInside bytes places
    → place.start + place.length ≤ length bytes → AreInside bytes (places ++ place ∷ [])
inside_behind bytes [] place inside fits = (fits, tt)
inside_behind bytes (p ∷ places) place inside fits = (inside.0, inside_behind bytes places place inside.1 fits)

-- one place more
pub inside_push : (bytes : List ℕ) (places more : List Place) (place : Place) → AreInside bytes places
    → place.start + place.length ≤ length bytes → more ≡ places ++ place ∷ [] → AreInside bytes more
inside_push bytes places more place inside fits pushed =
    subst (AreInside bytes) (sym pushed) (inside_behind bytes places place inside fits)

pub pushed_body : (bytes : List ℕ) (places more : List Place) (place : Place) → more ≡ places ++ place ∷ []
    → bodies_at bytes more ≡ bodies_at bytes places ++ slice_of bytes place ∷ []
pushed_body bytes places more place pushed = ap (bodies_at bytes) pushed ∙ map_push (slice_of bytes) places place

-- a body has its place before what stands behind it
place_found : (before body next bytes : List ℕ) (place : Place) → bytes ≡ before ++ (body ++ next)
    → place.start + (length body + length next) ≡ length bytes → place.length ≡ length body
    → slice_of bytes place ≡ body
place_found before body next bytes place is start long =
    let here : length before ≡ place.start = omega (
      arith,
      start,
      ap length is,
      length-append before (body ++ next),
      length-append body next,
    ) in
    ap (λ (n : ℕ). take n (drop place.start bytes)) long
    ∙ ap (λ (l : List ℕ). take (length body) (drop place.start l)) is
    ∙ ap (λ (l : List ℕ). take (length body) l) (drop_at before (body ++ next) place.start here)
    ∙ take_at body next (length body) refl

module _ (f : Format) (bytes : List ℕ) (bodies : List (List ℕ)) (rest behind body next : List ℕ)
    (open_gate : rest ≡ 1 ∷ behind) (split : behind ≡ entry_of body ++ next) (is : bytes ≡ front f bodies ++ rest) where
  -- what stands before the body, and from it on
  parted : bytes ≡ (front f bodies ++ 1 ∷ to_be_bytes w32 (length body)) ++ (body ++ next)
  parted =
      is
      ∙ ap (λ (l : List ℕ). front f bodies ++ l) (open_gate ∙ ap (λ (l : List ℕ). 1 ∷ l)
      (split ∙ append_assoc (to_be_bytes w32 (length body)) body next))
      ∙ sym (append_assoc (front f bodies) (1 ∷ to_be_bytes w32 (length body)) (body ++ next))

  pub body_stands : (place : Place) → place.start + (length body + length next) ≡ length bytes
      → place.length ≡ length body → slice_of bytes place ≡ body
  body_stands place start long =
      place_found (front f bodies ++ 1 ∷ to_be_bytes w32 (length body)) body next bytes place parted start long

-- the body of a record is within what stands from its gate on
pub fits_behind : (rest behind body next : List ℕ) → rest ≡ 1 ∷ behind → behind ≡ entry_of body ++ next
    → length body + length next ≤ length rest
fits_behind rest behind body next open_gate split = omega (
  arith,
  ap length (open_gate ∙ ap (λ (l : List ℕ). 1 ∷ l) split),
  length-append (entry_of body) next,
  length-append (to_be_bytes w32 (length body)) body,
)
