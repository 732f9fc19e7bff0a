-- The writing of one frame.
use Rattle.std.specs.Prelude.{◌≡◌, ◌<◌, ℕ, ◌+◌, min, List, length, take, Option, None, Some}
use Rattle.std.specs.Io.KnownBytes.{append_known}
use Rattle.sm_base.specs.Faults.{Rose}
use Rattle.sm_replication.specs.declared.frame.Frame.{Frame}
use Rattle.sm_replication.specs.declared.input.Input.TheVariants as inputs
use Rattle.sm_replication.specs.Frames.{frame_bytes}
use Rattle.sm_session.specs.Endings.{count_limit}
use Rattle.sm_server.specs.declared.status.Status.{Status}
use Rattle.sm_server.specs.declared.status.Status.TheVariants.{Memory, SinkFault}

-- bytes were written, or the sink failed within them: so many had been taken then
abbrev pub PutsBytes : Option Status → List ℕ → ℕ → ℕ → Option (List ℕ) → Option (List ℕ) → ℕ → ℕ → Type 0
PutsBytes None bytes count count' old new before now = (new ≡ append_known old bytes)
    × (count' ≡ min (count + length bytes) count_limit)
PutsBytes (Some (SinkFault sent)) bytes count count' old new before now = (size : ℕ) × (size < length bytes)
    × (new ≡ append_known old (take size bytes)) × (sent ≡ min (count + size) count_limit) × Rose before now
PutsBytes (Some other) bytes count count' old new before now = ⊥

-- so were the bytes of a frame; where memory ran out nothing was written of it
abbrev pub PutsFrame : Option Status → Frame → ℕ → ℕ → Option (List ℕ) → Option (List ℕ) → ℕ → ℕ → Type 0
PutsFrame (Some Memory) frame count count' old new before now = new ≡ old
PutsFrame end frame count count' old new before now =
    PutsBytes end (frame_bytes (inputs.Frame frame)) count count' old new before now
