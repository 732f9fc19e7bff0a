-- The parts of a frame, as bytes.
use Rattle.std.specs.Prelude.{ℕ, ◌+◌, ◌^◌, ◌<◌, ◌≤◌, ◌==◌, if◌then◌else◌, List, [], ◌∷◌, length, Bool, Result, Ok, Err}
use Rattle.sm_record.specs.Codec.{Codec, both, arm, no_arm, tagged}
use Rattle.sm_record.specs.Fields.{long, octets, listed}
use Rattle.sm_replication.specs.declared.frame.TheConstants.{FRAME_ENTRIES}
use Rattle.sm_replication.specs.declared.input.TheConstants.{LIST_LIMIT}

-- a position and the bodies of entries, or those of rows; or a message
pub data Parcel : Type 0 where
  Entries : ℕ → List (List ℕ) → Parcel
  Rows : ℕ → List (List ℕ) → Parcel
  Message : List ℕ → Parcel

-- a position and bodies
abbrev pub bodies_at : Codec (ℕ × List (List ℕ))
bodies_at = both long (listed octets)

abbrev pub spell_parcel : Parcel → List ℕ
spell_parcel (Entries at bodies) = 1 ∷ bodies_at.spell (at, bodies)
spell_parcel (Rows at bodies) = 2 ∷ bodies_at.spell (at, bodies)
spell_parcel (Message bytes) = 3 ∷ octets.spell bytes

abbrev pub fits_parcel : Parcel → Bool
fits_parcel (Entries at bodies) = bodies_at.fits (at, bodies)
fits_parcel (Rows at bodies) = bodies_at.fits (at, bodies)
fits_parcel (Message bytes) = octets.fits bytes

-- a frame is the byte of its kind and its parts
unfoldable pub parcel : Codec Parcel
parcel = tagged spell_parcel fits_parcel
    (arm 1 bodies_at (λ x. Entries x.0 x.1)
    (arm 2 bodies_at (λ x. Rows x.0 x.1)
    (arm 3 octets Message no_arm)))

-- the parts of bytes that are a frame and no more
abbrev pub alone : Result (Parcel × List ℕ) ℕ → Result Parcel ℕ
alone (Ok x) = if length x.1 == 0 then Ok x.0 else Err (length x.1)
alone (Err left) = Err left

abbrev pub parcel_in : List ℕ → Result Parcel ℕ
parcel_in bytes = alone (parcel.read bytes)

-- how many bytes items have with their lengths
abbrev pub listed_size : List (List ℕ) → ℕ
listed_size [] = 0
listed_size (item ∷ items) = 4 + length item + listed_size items

-- neither a list nor a message is too long, and there are not too many entries
abbrev pub IsWithin : Parcel → Type 0
IsWithin (Entries at bodies) = (at < 2 ^ 64) × (length bodies ≤ FRAME_ENTRIES) × (listed_size bodies ≤ LIST_LIMIT)
IsWithin (Rows at bodies) = (at < 2 ^ 64) × (listed_size bodies ≤ LIST_LIMIT)
IsWithin (Message bytes) = length bytes ≤ LIST_LIMIT
