-- When an opening puts a base in the place of what it found.
use Rattle.std.specs.Prelude.{ℕ, ◌+◌, Bool, true, ◌&&◌, nat_le, nat_lt, length, if◌then◌else◌, Option, Some, None}
use Rattle.sm_encoded_size.specs.Files.{file_size}
use Rattle.sm_journal.specs.Records.{size}
use Rattle.sm_journal.specs.declared.format.Format.{Format}
use Rattle.sm_journal.specs.declared.format.Format.TheVariants.{First, Second}
use Rattle.sm_record.specs.declared.base.Base.{Base}
use Rattle.sm_store.specs.Held.{Held, edition_of, only, bodies_in}
use Rattle.sm_recovery.specs.Lawful.{made_of}

-- how many entries may stand behind a base before another base takes their place
abbrev pub most_behind : ℕ
most_behind = 1000

-- A base takes the place of a file of the first format always, and of one of the second format where more entries stand
-- behind its base and the new file is not too long. (A file of at most nine bytes is made new in the second format.)
abbrev pub is_replaced : Format → ℕ → ℕ → Base → Bool
is_replaced First limit behind state = true
is_replaced Second limit behind state = nat_lt most_behind behind && nat_le (file_size state) limit

-- the base that takes the place, or none
abbrev pub new_base : Format → ℕ → ℕ → Base → Option Base
new_base format limit behind state = if is_replaced format limit behind state then Some state else None

-- the base, if there is one, in the place of what was found
abbrev pub taken_with : Held → Option Base → Held
taken_with h None = h
taken_with h (Some base) = only base

-- what an opening takes
abbrev pub taken_of : Format → ℕ → Held → Held
taken_of format limit h = taken_with h (new_base format limit (length h.entries) (made_of h))

-- how long the file was up to the gate behind its records, and how long that of the base is
abbrev pub lengths_with : Format → Held → Option Base → Option (ℕ × ℕ)
lengths_with format h None = None
lengths_with format h (Some base) = Some (9 + size (bodies_in (edition_of format) h), file_size base)

-- the two lengths, where an opening puts a base in the place of what it found
abbrev pub lengths_of : Format → ℕ → Held → Option (ℕ × ℕ)
lengths_of format limit h = lengths_with format h (new_base format limit (length h.entries) (made_of h))
