-- The frames that bring a replica from a position to the end of an account.
use Rattle.std.specs.Prelude.{◌≡◌, ℕ, ◌+◌, ◌-◌, nat_lt, if◌then◌else◌, List, [], ◌∷◌, length, take, drop, Option, Some, None}
use Rattle.sm_replication.specs.declared.frame.Frame.{Frame}
use Rattle.sm_replication.specs.declared.frame.Frame.TheVariants.{Entries, Rows}
use Rattle.sm_replication.specs.declared.frame.TheConstants.{FRAME_ENTRIES}
use Rattle.sm_model.specs.declared.entry.Entry.{Entry}
use Rattle.sm_record.specs.declared.base.Base.{Base}

-- a frame of entries, where there are some
abbrev pub entries_at : ℕ → List Entry → Option Frame
entries_at position [] = None
entries_at position (entry ∷ entries) = Some (Entries position (entry ∷ entries))

-- The next frame at a position: below the entries of the base its rows, and else the entries from the position on, as
-- many as a frame may have. At the end and past it there is none.
abbrev pub next_frame : Base → List Entry → ℕ → Option Frame
next_frame base entries position =
    if nat_lt position base.entries then Some (Rows base.entries base)
    else entries_at position (take FRAME_ENTRIES (drop (position - base.entries) entries))

-- where a frame brings a replica
abbrev pub end_of : Frame → ℕ
end_of (Entries at entries) = at + length entries
end_of (Rows at base) = at

-- the frames are the next one at the position, and those at its end
abbrev pub Ships : Base → List Entry → ℕ → List Frame → Type 0
Ships base entries position [] = next_frame base entries position ≡ None
Ships base entries position (frame ∷ frames) =
    (next_frame base entries position ≡ Some frame) × Ships base entries (end_of frame) frames
