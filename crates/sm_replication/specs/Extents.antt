-- How far a frame reaches by its counts and lengths, of which each has a limit.
use Rattle.std.specs.Prelude.{ℕ, zero, suc, ◌+◌, ◌-◌, ◌^◌, ◌==◌, nat_lt, if◌then◌else◌, List, [], ◌∷◌, length, drop, Result, Ok, Err}
use Rattle.sm_record.specs.Fields.{count, long}
use Rattle.sm_replication.specs.declared.extent.Extent.{Extent}
use Rattle.sm_replication.specs.declared.extent.Extent.TheVariants.{Whole, Over, Open}
use Rattle.sm_replication.specs.declared.frame.TheConstants.{FRAME_ENTRIES}
use Rattle.sm_replication.specs.declared.input.TheConstants.{LIST_LIMIT}

-- so many bytes, and what reaches on behind them
abbrev pub further : ℕ → Extent → Extent
further n (Whole m) = Whole (n + m)
further n Over = Over
further n Open = Open

-- what reaches on, where its front is whole
abbrev pub then_extent : Extent → (ℕ → Extent) → Extent
then_extent (Whole n) next = further n (next n)
then_extent Over next = Over
then_extent Open next = Open

-- how far bytes behind their length reach, where they may have so many with the length
abbrev pub reach : ℕ → Result (ℕ × List ℕ) ℕ → Extent
reach room (Err left) = Open
reach room (Ok x) =
    if nat_lt room (4 + x.0) then Over else (if nat_lt (length x.1) x.0 then Open else Whole (4 + x.0))

abbrev pub octets_extent : ℕ → List ℕ → Extent
octets_extent room bytes = reach room (count.read bytes)

-- how far so many items reach, which may have so many bytes with their lengths
unfoldable pub items_extent : ℕ → ℕ → List ℕ → Extent
items_extent zero room bytes = Whole 0
items_extent (suc n) room bytes =
    then_extent (octets_extent room bytes) (λ used. items_extent n (room - used) (drop used bytes))

-- how far a list reaches, which may have so many items
abbrev pub counted : ℕ → Result (ℕ × List ℕ) ℕ → Extent
counted most (Err left) = Open
counted most (Ok x) = if nat_lt most x.0 then Over else further 4 (items_extent x.0 LIST_LIMIT x.1)

abbrev pub list_extent : ℕ → List ℕ → Extent
list_extent most bytes = counted most (count.read bytes)

-- how far a list behind a position reaches
abbrev pub placed : ℕ → Result (ℕ × List ℕ) ℕ → Extent
placed most (Err left) = Open
placed most (Ok x) = further 8 (list_extent most x.1)

-- a list of any count that its four bytes say
abbrev pub any_count : ℕ
any_count = 2 ^ 32 - 1

-- how far what stands behind a first byte reaches, by that
abbrev pub body_extent : ℕ → List ℕ → Extent
body_extent tag bytes =
    if tag == 1 then placed FRAME_ENTRIES (long.read bytes)
    else (if tag == 2 then placed any_count (long.read bytes)
    else (if tag == 3 then octets_extent (4 + LIST_LIMIT) bytes else Over))

-- how far what stands behind the first byte of bytes reaches
abbrev pub behind_tag : List ℕ → Extent
behind_tag [] = Open
behind_tag (tag ∷ bytes) = body_extent tag bytes

-- How far the frame reaches that the bytes begin with. It is over a limit where its first byte is none of a frame, or a
-- count, a length or a list is too great, as far as the bytes tell; and open where they don't tell yet.
abbrev pub extent : List ℕ → Extent
extent bytes = further 1 (behind_tag bytes)
