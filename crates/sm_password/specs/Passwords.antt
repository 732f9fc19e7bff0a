-- The password of drawn bytes.
-- AWS Secrets Manager API Reference, GetRandomPassword (PasswordLength, RequireEachIncludedType).
use Rattle.std.specs.Prelude.{ℕ, zero, suc, ◌+◌, ◌*◌, ◌%◌, Bool, not, ◌&&◌, ◌==◌, nat_le, nat_lt, if◌then◌else◌, IsTrue, List, [], length, slice_index, slice_index_or, Result, Ok, Err, Option, Some, None}
use Rattle.std.specs.List.{All, Any, concat, insert}
use Rattle.sm_base.specs.declared.limits.TheConstants.{PASSWORD_LIMIT}
use Rattle.sm_password.specs.declared.ask.PasswordAsk.{PasswordAsk}
use Rattle.sm_password.specs.declared.ask.PasswordRefused.{PasswordRefused}
use Rattle.sm_password.specs.declared.ask.PasswordRefused.TheVariants.{Length, Empty, TooShort, Memory}
use Rattle.sm_password.specs.declared.class.Class.{Class}
use Rattle.sm_password.specs.Classes.{classes, is_asked_in, may_have}

-- Word k of the drawn bytes: the number of bytes 2k and 2k + 1, big end first.
abbrev pub word : List ℕ → ℕ → ℕ
word drawn k = 256 * slice_index drawn (2 * k) + slice_index drawn (2 * k + 1)

-- the character of a class at a word modulo its size
abbrev pub character_at : List ℕ → ℕ → ℕ
character_at class word = slice_index class (word % length class)

-- Of how many classes a password has to have a character.
abbrev pub required : PasswordAsk → ℕ
required ask = if ask.each then length (classes ask) else 0

-- The characters of which character k of the draft is one: class k while the password has to have a character of it,
-- and all classes joined from then on.
abbrev pub choices : List (List ℕ) → ℕ → ℕ → List ℕ
choices classes required k = if nat_lt k required then slice_index_or classes k [] else concat classes

-- Character k of the draft.
abbrev pub draft_character : List (List ℕ) → ℕ → List ℕ → ℕ → ℕ
draft_character classes required drawn k = character_at (choices classes required k) (word drawn k)

-- Characters inserted one after the other, each at its place.
abbrev pub inserted : (ℕ → ℕ) → (ℕ → ℕ) → ℕ → List ℕ
inserted character place zero = []
inserted character place (suc k) = insert (inserted character place k) (place k) (character k)

-- Where character k of the draft is inserted: at the word behind those of the draft, modulo the places there are.
abbrev pub place : ℕ → List ℕ → ℕ → ℕ
place length drawn k = word drawn (length + k) % (k + 1)

-- The characters of the draft, each inserted at its place.
abbrev pub password_text : PasswordAsk → List ℕ → List ℕ
password_text ask drawn =
    inserted (draft_character (classes ask) (required ask) drawn) (place ask.length drawn) ask.length

-- a length that a password may have
abbrev pub is_length : ℕ → Bool
is_length length = nat_le 1 length && nat_le length PASSWORD_LIMIT

-- A password, or why there is none.
abbrev pub password_of : PasswordAsk → List ℕ → Result (List ℕ) PasswordRefused
password_of ask drawn =
    if not (is_length ask.length) then Err Length
    else if length (concat (classes ask)) == 0 then Err Empty
    else if nat_lt ask.length (required ask) then Err TooShort
    else Ok (password_text ask drawn)

-- None where memory ran out
abbrev pub told : Result (List ℕ) PasswordRefused → Option (Result (List ℕ) PasswordRefused)
told (Ok text) = Some (Ok text)
told (Err Length) = Some (Err Length)
told (Err Empty) = Some (Err Empty)
told (Err TooShort) = Some (Err TooShort)
told (Err Memory) = None

-- ---- what is so of each password

-- each character is of a class that is asked for, and not excluded
abbrev pub HasAskedAlone : PasswordAsk → List ℕ → Type 0
HasAskedAlone ask text = All (λ character. IsTrue (may_have ask character)) text

-- there is a character of each class that is asked for and has one that is not excluded
abbrev pub HasEach : PasswordAsk → List ℕ → Type 0
HasEach ask text = (class : Class) (character : ℕ) → IsTrue (is_asked_in ask character class)
    → Any (λ c. IsTrue (is_asked_in ask c class)) text
