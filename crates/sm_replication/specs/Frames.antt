-- The one spelling of each frame.
use Rattle.std.specs.Prelude.{ℕ, List, [], map}
use Rattle.sm_http.specs.Messages as http
use Rattle.sm_http.specs.Messages.{IsMessage}
use Rattle.sm_record.specs.declared.edition.Edition.TheVariants.{Second}
use Rattle.sm_record.specs.Snapshots.{snapshot}
use Rattle.sm_record.specs.Spelling.{spelling}
use Rattle.sm_replication.specs.declared.frame.Frame.{Frame as frames}
use Rattle.sm_replication.specs.declared.frame.Frame.TheVariants as frame
use Rattle.sm_replication.specs.declared.input.Input.{Input}
use Rattle.sm_replication.specs.declared.input.Input.TheVariants as input
use Rattle.sm_replication.specs.Spelled.{HasParts}
use Rattle.sm_replication.specs.Parcels.{Parcel, Entries, Rows, Message, parcel, IsWithin}

-- the parts of a frame: entries are spelled in the second format, and so are rows
abbrev pub parts_of : frames → Parcel
parts_of (frame.Entries at entries) = Entries at (map (spelling Second) entries)
parts_of (frame.Rows at base) = Rows at (snapshot Second base)

abbrev pub parcel_of : Input → Parcel
parcel_of (input.Frame f) = parts_of f
parcel_of (input.Message bytes) = Message bytes

-- the bytes are one whole message, and no more
abbrev pub IsOneMessage : List ℕ → Type 0
IsOneMessage bytes = (message : http.Message) × IsMessage bytes message []

abbrev pub HasInputParts : Input → Type 0
HasInputParts (input.Frame f) = HasParts f
HasInputParts (input.Message bytes) = IsOneMessage bytes

-- it has a spelling: its parts have, and are within the limits
pub record IsFrame (i : Input) : Type 0 where
  pub parts : HasInputParts i
  pub within : IsWithin (parcel_of i)

-- the bytes of a frame
abbrev pub frame_bytes : Input → List ℕ
frame_bytes i = parcel.spell (parcel_of i)
