-- The one spelling of each entry in a format, and the entry of a spelling.
use Rattle.std.specs.Prelude.{◌≡◌, ℕ, ◌-◌, ◌==◌, Bool, IsTrue, List, length, if◌then◌else◌, Option, Some, None, Result, Ok, Err, ◌↔◌}
use Rattle.sm_model.specs.declared.entry.Entry.{Entry}
use Rattle.sm_record.specs.Codec.{IsBytes}
use Rattle.sm_record.specs.Entries.{entry}
use Rattle.sm_record.specs.declared.edition.Edition.{Edition}
use Rattle.sm_record.specs.declared.edition.Edition.TheVariants.{First, Second}
use Rattle.sm_record.specs.declared.unread.DecodeRefused.{DecodeRefused}
use Rattle.sm_record.specs.declared.unread.DecodeRefused.TheVariants.{NoEntry, Memory}

-- the bytes of an entry
unfoldable pub spelling : Edition → Entry → List ℕ
spelling edition e = (entry edition).spell e

-- The entry has a spelling in a format: it is of an act that changes something, its moment is one that a clock reads,
-- its texts, bytes and lists are short enough, and what the format hasn't is absent. Nobody asked for a start or a
-- report; 16 bytes were drawn for a start, and none for a report.
unfoldable pub has_spelling : Edition → Entry → Bool
has_spelling edition e = (entry edition).fits e

abbrev pub HasSpelling : Edition → Entry → Type 0
HasSpelling edition e = IsTrue (has_spelling edition e)

-- the entry, where no bytes are behind it, and else the place where they begin
abbrev pub alone : ℕ → Entry → ℕ → Result Entry ℕ
alone whole e left = if left == 0 then Ok e else Err (whole - left)

-- the entry that was read, or the place of the first field that is not spelled
abbrev pub placed : ℕ → Result (Entry × List ℕ) ℕ → Result Entry ℕ
placed whole (Ok x) = alone whole x.0 (length x.1)
placed whole (Err left) = Err (whole - left)

-- the entry of a body, or the place of its first field that is not spelled, or of the first byte behind the entry
unfoldable pub decoded : Edition → List ℕ → Result Entry ℕ
decoded edition body = placed (length body) ((entry edition).read body)

-- no answer where there was no memory
abbrev pub decode_told : Result Entry DecodeRefused → Option (Result Entry ℕ)
decode_told (Ok e) = Some (Ok e)
decode_told (Err (NoEntry place)) = Some (Err place)
decode_told (Err Memory) = None

-- An entry is decoded exactly from its spelling.
abbrev pub IsDecodedFromSpelling : Type 0
IsDecodedFromSpelling = (edition : Edition) (body : List ℕ) (e : Entry) → IsBytes body
    → ((decoded edition body ≡ Ok e) ↔ (HasSpelling edition e × (spelling edition e ≡ body)))

-- Two entries with one spelling are one entry.
abbrev pub SpellsOne : Type 0
SpellsOne = (edition : Edition) (d e : Entry) → HasSpelling edition d → HasSpelling edition e
    → spelling edition d ≡ spelling edition e → d ≡ e

-- A spelled entry is read again.
abbrev pub IsReadAgain : Type 0
IsReadAgain = (edition : Edition) (e : Entry) → HasSpelling edition e
    → decoded edition (spelling edition e) ≡ Ok e

-- No spelling of one format is one of the other.
abbrev pub TellsEditions : Type 0
TellsEditions = (d e : Entry) → HasSpelling First d → HasSpelling Second e → ¬ (spelling First d ≡ spelling Second e)
