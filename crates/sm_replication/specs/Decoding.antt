-- What decoding a frame answers.
use Rattle.std.specs.Prelude.{⊤, ◌≡◌, ℕ, List, map, Result, Ok, Err}
use Rattle.sm_model.specs.declared.entry.Entry.{Entry}
use Rattle.sm_record.specs.declared.edition.Edition.TheVariants.{Second}
use Rattle.sm_record.specs.Spelling.{spelling, HasSpelling}
use Rattle.sm_replication.specs.declared.input.Input.{Input}
use Rattle.sm_replication.specs.declared.parts.FrameRefused.{FrameRefused}
use Rattle.sm_replication.specs.declared.parts.FrameRefused.TheVariants.{NoFrame, Memory}
use Rattle.sm_replication.specs.declared.parts.Parts.{Parts}
use Rattle.sm_replication.specs.declared.parts.Parts.TheVariants as parts
use Rattle.sm_replication.specs.Spelled.{AreSpelled}
use Rattle.sm_replication.specs.Frames.{parcel_of, IsFrame, frame_bytes}
use Rattle.sm_replication.specs.Parcels.{Parcel, Entries, Rows, Message}

-- nothing is read
abbrev pub IsUnread : {Y : Type 0} → Result Y ℕ → Type 0
IsUnread (Ok y) = ⊥
IsUnread (Err left) = ⊤

-- out of memory, or nothing is to be read
abbrev pub FailsAs : {Y : Type 0} → FrameRefused → Result Y ℕ → Type 0
FailsAs NoFrame wanted = IsUnread wanted
FailsAs Memory wanted = ⊤

-- out of memory, or exactly what is to be read, seen by view
abbrev pub ReadsAs : {X Y : Type 0} → (X → Y) → Result X FrameRefused → Result Y ℕ → Type 0
ReadsAs view (Ok x) wanted = wanted ≡ Ok (view x)
ReadsAs view (Err refused) wanted = FailsAs refused wanted

-- the parts where they stand
abbrev pub parcel_seen : Parts → Parcel
parcel_seen (parts.Entries at bodies) = Entries at bodies
parcel_seen (parts.Rows at bodies) = Rows at bodies
parcel_seen (parts.Message bytes) = Message bytes.now

-- out of memory, or the entry of a body in the second format, or that it is no entry's
abbrev pub IsOneEntry : List ℕ → Result Entry FrameRefused → Type 0
IsOneEntry body (Ok entry) = HasSpelling Second entry × (spelling Second entry ≡ body)
IsOneEntry body (Err NoFrame) = (entry : Entry) → HasSpelling Second entry → ¬ (spelling Second entry ≡ body)
IsOneEntry body (Err Memory) = ⊤

-- out of memory, or the entries of bodies in the second format, or that they are no entries'
abbrev pub AreEntries : List (List ℕ) → Result (List Entry) FrameRefused → Type 0
AreEntries bodies (Ok entries) = AreSpelled entries × (map (spelling Second) entries ≡ bodies)
AreEntries bodies (Err NoFrame) =
    (entries : List Entry) → AreSpelled entries → ¬ (map (spelling Second) entries ≡ bodies)
AreEntries bodies (Err Memory) = ⊤

-- out of memory, or the frame of these parts, or that no frame has them
abbrev pub IsMade : Parcel → Result Input FrameRefused → Type 0
IsMade parcel (Ok i) = IsFrame i × (parcel_of i ≡ parcel)
IsMade parcel (Err NoFrame) = (i : Input) → IsFrame i → ¬ (parcel_of i ≡ parcel)
IsMade parcel (Err Memory) = ⊤

-- out of memory, or the frame of these bytes, or that they are no frame's
abbrev pub IsDecoded : List ℕ → Result Input FrameRefused → Type 0
IsDecoded bytes (Ok i) = IsFrame i × (frame_bytes i ≡ bytes)
IsDecoded bytes (Err NoFrame) = (i : Input) → IsFrame i → ¬ (frame_bytes i ≡ bytes)
IsDecoded bytes (Err Memory) = ⊤
