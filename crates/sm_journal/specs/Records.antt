-- A journal's file: the header, records whose gates are open, a gate that isn't, and whatever stands behind it.
use Rattle.std.specs.Prelude.{◌≡◌, ◌≢◌, ◌⊎◌, ℕ, ◌+◌, ◌<◌, ◌≤◌, List, [], ◌∷◌, ◌++◌, length, take, codes, Option, None, Some}
use Rattle.std.specs.List.{flat_map}
use Rattle.std.specs.Int.{w32, to_be_bytes, from_be_bytes}
use Rattle.sm_journal.specs.declared.format.Format.{Format}
use Rattle.sm_journal.specs.declared.format.Format.TheVariants.{First, Second}

-- the greatest length of a body
abbrev pub body_limit : ℕ
body_limit = 1048576

-- what stands at the beginning of a file
abbrev pub header : Format → List ℕ
header First = codes "SMJRNL01"
header Second = codes "SMJRNL02"

-- what stands behind a gate: the body's length in four bytes, high first, and the body
abbrev pub entry_of : List ℕ → List ℕ
entry_of body = to_be_bytes w32 (length body) ++ body

-- a record with its gate open
abbrev pub record_of : List ℕ → List ℕ
record_of body = 1 ∷ entry_of body

-- the header of a format and the records of these bodies: what stands before the last gate
unfoldable pub front : Format → List (List ℕ) → List ℕ
front format bodies = header format ++ flat_map record_of bodies

-- the whole file: these records, the closed gate behind them, which is a byte 0, and nothing else
abbrev pub Whole : Format → List (List ℕ) → List ℕ → Type 0
Whole format bodies bytes = bytes ≡ front format bodies ++ 0 ∷ []

-- how many bytes the record of a body has: its gate, its length and itself
abbrev pub record_size : List ℕ → ℕ
record_size body = 5 + length body

-- how many bytes the records of these bodies have
abbrev pub size : List (List ℕ) → ℕ
size [] = 0
size (body ∷ bodies) = 5 + length body + size bodies

-- the place of the gate behind the records of these bodies, which is behind the header where there are none
abbrev pub place_behind : List (List ℕ) → ℕ
place_behind bodies = 8 + size bodies

-- none of these bodies is too long
abbrev pub AreWithin : List (List ℕ) → Type 0
AreWithin [] = Unit {0}
AreWithin (body ∷ bodies) = (length body ≤ body_limit) × AreWithin bodies

-- the body, if there is one, isn't too long
abbrev pub IsWithin : Option (List ℕ) → Type 0
IsWithin None = Unit {0}
IsWithin (Some body) = length body ≤ body_limit

-- behind this front a gate that isn't open, and this behind it
pub record Closed (before behind bytes : List ℕ) : Type 0 where
  pub gate : ℕ
  pub closed : gate ≢ 1
  pub split : bytes ≡ before ++ gate ∷ behind

-- behind this front a gate that isn't open, and nothing behind it
abbrev pub AtRest : List ℕ → List ℕ → Type 0
AtRest before bytes = Closed before [] bytes

-- behind this front a gate that isn't open, and anything behind it
pub record Loose (before bytes : List ℕ) : Type 0 where
  pub rest : List ℕ
  pub is : Closed before rest bytes

-- behind this front any gate, and this behind it
pub record Gated (before behind bytes : List ℕ) : Type 0 where
  pub gate : ℕ
  pub split : bytes ≡ before ++ gate ∷ behind

-- a file of at most nine bytes has no records, whatever it holds
abbrev pub Short : List ℕ → Type 0
Short bytes = length bytes ≤ 9

-- The file's counted records have these bodies: none in any format, where it has at most nine bytes, and else those of
-- its format before the first gate that isn't open. It has one proof at most.
abbrev pub Recovers : List ℕ → Format → List (List ℕ) → Type 0
Recovers bytes format bodies = (Short bytes × (bodies ≡ []))
    ⊎ ((9 < length bytes) × AreWithin bodies × Loose (front format bodies) bytes)

-- behind an open gate: the length is too large, or it, the body or the next gate isn't in the file
abbrev pub IsBroken : List ℕ → Type 0
IsBroken rest = let len = from_be_bytes w32 (take 4 rest) in (length rest < 4) ⊎ (body_limit < len)
    ⊎ (length rest < 4 + len + 1)

-- The file is longer than nine bytes and outside the grammar, at the byte of this gate or at 0 for the header, behind
-- so many records.
abbrev pub IsDamaged : List ℕ → ℕ → ℕ → Type 0
IsDamaged bytes at entry = (9 < length bytes) × (IsWrong ⊎ IsCutShort)
  where
    IsWrong : Type 0
    IsWrong = (take 8 bytes ≢ header First) × (take 8 bytes ≢ header Second) × (at ≡ 0) × (entry ≡ 0)

    IsCutShort : Type 0
    IsCutShort = (format : Format) × (bodies : List (List ℕ)) × (rest : List ℕ) × AreWithin bodies
        × (bytes ≡ front format bodies ++ 1 ∷ rest) × IsBroken rest × (at ≡ place_behind bodies)
        × (entry ≡ length bodies)

-- the file recovers to this list, or to it and one body more, if there is one
abbrev pub RecoversEither : Format → List (List ℕ) → Option (List ℕ) → List ℕ → Type 0
RecoversEither format bodies None bytes = Recovers bytes format bodies
RecoversEither format bodies (Some body) bytes = Recovers bytes format bodies
    ⊎ Recovers bytes format (bodies ++ body ∷ [])

-- what a file recovers to, the other recovers to
abbrev pub SameList : List ℕ → List ℕ → Type 0
SameList old new = (format : Format) (bodies : List (List ℕ)) → Recovers old format bodies
    → Recovers new format bodies
