-- What a run writes that brings a replica to the end of its account.
use Rattle.std.specs.Prelude.{◌≡◌, ◌⊎◌, ℕ, ◌<◌, min, List, [], ◌++◌, length}
use Rattle.std.specs.List.{flat_map}
use Rattle.sm_replication.specs.declared.frame.Frame.{Frame}
use Rattle.sm_replication.specs.declared.input.Input.TheVariants as inputs
use Rattle.sm_replication.specs.Frames.{frame_bytes}
use Rattle.sm_recovery.specs.Lawful.{base_under}
use Rattle.sm_replica.specs.Shipping.{Ships}
use Rattle.sm_session.specs.Endings.{count_limit}
use Rattle.sm_store.specs.Held.{Held}
use Rattle.sm_server.specs.declared.status.Status.{Status}
use Rattle.sm_server.specs.declared.status.Status.TheVariants.{Done, Memory, SinkFault}

-- the bytes of frames, one after the other
abbrev pub shipped_bytes : List Frame → List ℕ
shipped_bytes frames = flat_map (λ frame. frame_bytes (inputs.Frame frame)) frames

-- the frames that bring a replica from the position to the end of what is held
abbrev pub AreShipped : Held → ℕ → List Frame → Type 0
AreShipped held position frames = Ships (base_under held.base) held.entries position frames

-- How much of frames was written, where the run ended so. A cause holds where the sink failed. If memory ran out, it is
-- a front of them.
abbrev pub PutsFrames : Type 0 → Status → List ℕ → List ℕ → Type 0
PutsFrames Cause Done all written = written ≡ all
PutsFrames Cause Memory all written = (rest : List ℕ) × (all ≡ written ++ rest)
PutsFrames Cause (SinkFault counted) all written = (rest : List ℕ) × (all ≡ written ++ rest) × (0 < length rest)
    × (counted ≡ min (length written) count_limit) × Cause
PutsFrames Cause other all written = ⊥

-- some frames bring a replica there, and so much of them was written
pub record WritesFrames (Cause : Type 0) (held : Held) (position : ℕ) (status : Status) (written : List ℕ) : Type 0
  where
    pub frames : List Frame
    pub are : AreShipped held position frames
    pub puts : PutsFrames Cause status (shipped_bytes frames) written

-- where there was no memory for the frames themselves nothing was written
abbrev pub ShipsBy : Type 0 → Held → ℕ → Status → List ℕ → Type 0
ShipsBy Cause held position Memory written = (written ≡ []) ⊎ WritesFrames Cause held position Memory written
ShipsBy Cause held position status written = WritesFrames Cause held position status written
