-- Spellings of several parts, one after the other.
use Rattle.std.specs.Prelude.{ℕ, ◌+◌, Bool, true, false, not, ◌&&◌, ◌==◌, nat_lt, nat_le, if◌then◌else◌, List, [], ◌∷◌, length, ◌++◌, drop, replicate, slice_index, codes, Option, Some, None}
use Rattle.std.specs.Char.{is_ascii_digit}
use Rattle.sm_base.specs.Spelling.{is_name_byte, is_token_byte, is_region_byte}
use Rattle.sm_base.specs.declared.parts.Alphabet.{Alphabet}
use Rattle.sm_base.specs.declared.parts.Alphabet.TheVariants.{NameBytes, TokenBytes, RegionBytes, Digits}
use Rattle.sm_base.specs.declared.parts.Word.{Word}
use Rattle.sm_base.specs.declared.parts.Word.TheVariants.{ArnStart, Colon, ResourceType}
use Rattle.sm_base.specs.declared.parts.Part.{Part}
use Rattle.sm_base.specs.declared.parts.Part.TheVariants.{Literal, Run}

-- the byte is in the alphabet
abbrev pub is_in : Alphabet → ℕ → Bool
is_in NameBytes byte = is_name_byte byte
is_in TokenBytes byte = is_token_byte byte
is_in RegionBytes byte = is_region_byte byte
is_in Digits byte = is_ascii_digit byte

-- the bytes of a word
abbrev pub word_bytes : Word → List ℕ
word_bytes ArnStart = codes "arn:aws:secretsmanager:"
word_bytes Colon = codes ":"
word_bytes ResourceType = codes ":secret:"

-- the part may have the byte at the place, counted from its own first byte
abbrev pub admits : Part → ℕ → ℕ → Bool
admits (Literal word) place byte = nat_lt place (length (word_bytes word))
    && (slice_index (word_bytes word) place == byte)
admits (Run alphabet low high) place byte = nat_lt place high && is_in alphabet byte

-- how many bytes it has at least
abbrev pub least : Part → ℕ
least (Literal word) = length (word_bytes word)
least (Run alphabet low high) = low

-- of a part of which so many bytes are read: how many more it takes from the front of a text
abbrev pub reach_from : Part → ℕ → List ℕ → ℕ
reach_from part place [] = 0
reach_from part place (byte ∷ rest) = if admits part place byte then reach_from part (place + 1) rest + 1 else 0

-- how many bytes at the front of a text the part takes
abbrev pub reach : Part → List ℕ → ℕ
reach part text = reach_from part 0 text

-- the place at which a text leaves the parts, counted on from a start, or none where it has them all and nothing more
abbrev pub fault_from : ℕ → List Part → List ℕ → Option ℕ
fault_from start [] [] = None
fault_from start [] (byte ∷ rest) = Some start
fault_from start (part ∷ parts) text =
    let n = reach part text in
    if nat_lt n (least part) then Some (start + n) else fault_from (start + n) parts (drop n text)

-- the text has the parts, one after the other, and nothing more
abbrev pub has_parts : List Part → List ℕ → Bool
has_parts [] [] = true
has_parts [] (byte ∷ rest) = false
has_parts (part ∷ parts) text = nat_le (least part) (reach part text) && has_parts parts (drop (reach part text) text)

-- a byte of the alphabet
abbrev pub sample_byte : Alphabet → ℕ
sample_byte NameBytes = 97
sample_byte TokenBytes = 97
sample_byte RegionBytes = 97
sample_byte Digits = 48

-- the shortest bytes of a part
abbrev pub sample_part : Part → List ℕ
sample_part (Literal word) = word_bytes word
sample_part (Run alphabet low high) = replicate low (sample_byte alphabet)

-- bytes that have the parts
abbrev pub sample : List Part → List ℕ
sample [] = []
sample (part ∷ parts) = sample_part part ++ sample parts

-- the part can be told from what follows it: a run has none of the bytes that may follow, and room for its least
abbrev pub is_apart : Part → List ℕ → Bool
is_apart (Literal word) following = true
is_apart (Run alphabet low high) [] = nat_le low high
is_apart (Run alphabet low high) (byte ∷ rest) = nat_le low high && not (is_in alphabet byte)

-- each part can be told from what follows it
abbrev pub are_apart : List Part → Bool
are_apart [] = true
are_apart (part ∷ parts) = is_apart part (sample parts) && are_apart parts
