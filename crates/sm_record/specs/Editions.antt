-- The two formats of entries. The second has more: what only it has is absent in the first, and has no bytes there.
use Rattle.std.specs.Prelude.{ℕ, ◌==◌, Bool, true, false, if◌then◌else◌, List, [], length, Option, Some, None, Ok}
use Rattle.sm_record.specs.Codec.{Codec, nothing, coded}
use Rattle.sm_record.specs.declared.edition.Edition.{Edition}
use Rattle.sm_record.specs.declared.edition.Edition.TheVariants.{First, Second}

abbrev pub is_second : Edition → Bool
is_second First = false
is_second Second = true

abbrev pub is_empty : {A : Type 0} → List A → Bool
is_empty items = length items == 0

abbrev pub is_none : {A : Type 0} → Option A → Bool
is_none None = true
is_none (Some a) = false

-- no bytes, for the one thing that says that nothing is there
abbrev pub unspelled : {A : Type 0} → A → (A → Bool) → Codec A
unspelled absent is_absent = record { spell = λ _. []; fits = is_absent; read = λ bytes. Ok (absent, bytes) }

-- what is spelled since the second format
abbrev pub since : {A : Type 0} → A → (A → Bool) → Codec A → Edition → Codec A
since absent is_absent c First = unspelled absent is_absent
since absent is_absent c Second = c

abbrev pub byte_of_mark : Unit {0} → ℕ
byte_of_mark _ = 2

abbrev pub mark_of_byte : ℕ → Option (Unit {0})
mark_of_byte byte = if byte == 2 then Some tt else None

-- an entry of the second format begins with the byte 2
unfoldable pub mark : Edition → Codec (Unit {0})
mark First = nothing
mark Second = coded byte_of_mark mark_of_byte
