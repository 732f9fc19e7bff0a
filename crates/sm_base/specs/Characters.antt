-- Texts of so many characters of UTF-8, byte by byte (The Unicode Standard, table 3-7).
use Rattle.std.specs.Prelude.{ℕ, ◌+◌, Bool, true, false, ◌&&◌, ◌==◌, nat_le, if◌then◌else◌, List, [], ◌∷◌, Option, Some, None}
use Rattle.std.specs.Int.{is_in_range}
use Rattle.sm_base.specs.declared.characters.Awaited.{Awaited}
use Rattle.sm_base.specs.declared.characters.Awaited.TheVariants.{Character, One, Two, Three, AfterE0, AfterEd, AfterF0, AfterF4}
use Rattle.sm_base.specs.declared.characters.Progress.{Progress}

-- what comes after the first byte of a character
abbrev pub first_byte : ℕ → Option Awaited
first_byte byte =
    if nat_le byte 0x7F then Some Character
    else if is_in_range 0xC2 0xDF byte then Some One
    else if byte == 0xE0 then Some AfterE0
    else if byte == 0xED then Some AfterEd
    else if is_in_range 0xE1 0xEF byte then Some Two
    else if byte == 0xF0 then Some AfterF0
    else if byte == 0xF4 then Some AfterF4
    else if is_in_range 0xF1 0xF3 byte then Some Three
    else None

-- what comes after a byte, where it is in a range
abbrev pub within : ℕ → ℕ → ℕ → Awaited → Option Awaited
within low high byte next = if is_in_range low high byte then Some next else None

-- what comes after a byte
abbrev pub next_byte : Awaited → ℕ → Option Awaited
next_byte Character byte = first_byte byte
next_byte One byte = within 0x80 0xBF byte Character
next_byte Two byte = within 0x80 0xBF byte One
next_byte Three byte = within 0x80 0xBF byte Two
next_byte AfterE0 byte = within 0xA0 0xBF byte One
next_byte AfterEd byte = within 0x80 0x9F byte One
next_byte AfterF0 byte = within 0x90 0xBF byte Two
next_byte AfterF4 byte = within 0x80 0x8F byte Two

-- a new character is awaited
abbrev pub is_between : Awaited → Bool
is_between Character = true
is_between One = false
is_between Two = false
is_between Three = false
is_between AfterE0 = false
is_between AfterEd = false
is_between AfterF0 = false
is_between AfterF4 = false

-- how many characters are begun with one byte more
abbrev pub begun : Progress → ℕ
begun progress = if is_between progress.awaited then progress.characters + 1 else progress.characters

abbrev pub with_awaited : ℕ → Option Awaited → Option Progress
with_awaited characters None = None
with_awaited characters (Some awaited) = Some (record { awaited = awaited; characters = characters })

-- how far a text has come with one byte more
abbrev pub progress_after : Progress → ℕ → Option Progress
progress_after progress byte =
    if is_between progress.awaited && nat_le 256 progress.characters then None
    else with_awaited (begun progress) (next_byte progress.awaited byte)

-- the text has a character and ends with one
abbrev pub is_whole : Progress → Bool
is_whole progress = is_between progress.awaited && nat_le 1 progress.characters

-- what stands further on, or this place where there is no further progress
abbrev pub fault_on : Option Progress → ℕ → (Progress → Option ℕ) → Option ℕ
fault_on None place further = Some place
fault_on (Some progress) place further = further progress

-- the place, counted on from a start, at which bytes are no front of a text with so many characters, or their end where
-- they are such a front alone; none where they are such a text
abbrev pub fault_after : Progress → ℕ → List ℕ → Option ℕ
fault_after progress start [] = if is_whole progress then None else Some start
fault_after progress start (byte ∷ rest) =
    fault_on (progress_after progress byte) start (λ further. fault_after further (start + 1) rest)

-- no character yet
abbrev pub no_progress : Progress
no_progress = record { awaited = Character; characters = 0 }
