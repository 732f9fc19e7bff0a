-- What a replica writes, and what encoding a frame answers.
use Rattle.std.specs.Prelude.{⊤, ◌≡◌, ℕ, List, ◌∷◌, Result, Ok, Err}
use Rattle.sm_record.specs.Fields.{long, octets}
use Rattle.sm_replication.specs.declared.encoding.EncodeRefused.{EncodeRefused}
use Rattle.sm_replication.specs.declared.encoding.EncodeRefused.TheVariants.{TooLong, Memory}
use Rattle.sm_replication.specs.declared.frame.Frame.{Frame}
use Rattle.sm_replication.specs.declared.input.Input.TheVariants as input
use Rattle.sm_replication.specs.Frames.{parts_of, IsFrame, frame_bytes}
use Rattle.sm_replication.specs.Parcels.{IsWithin}

-- after a frame of entries or of rows: the position
abbrev pub position_bytes : ℕ → List ℕ
position_bytes at = 1 ∷ long.spell at

-- after a message: the reply
abbrev pub reply_bytes : List ℕ → List ℕ
reply_bytes reply = 2 ∷ octets.spell reply

-- out of memory, or the bytes of the frame, or that a limit is passed
abbrev pub IsEncoded : Frame → Result (List ℕ) EncodeRefused → Type 0
IsEncoded frame (Ok bytes) = IsFrame (input.Frame frame) × (bytes ≡ frame_bytes (input.Frame frame))
IsEncoded frame (Err TooLong) = IsWithin (parts_of frame) → ⊥
IsEncoded frame (Err Memory) = ⊤

-- a fact where a limit is passed
abbrev pub IfTooLong : Type 0 → EncodeRefused → Type 0
IfTooLong P TooLong = P
IfTooLong P Memory = ⊤
