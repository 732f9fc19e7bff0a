-- The inputs of a stream, and how it ends.
use Rattle.std.specs.Prelude.{◌≡◌, ◌<◌, ◌≤◌, ⊤, ℕ, min, List, [], ◌∷◌, ◌++◌, length, take, Option}
use Rattle.std.specs.Io.KnownBytes.{append_known, prepend_known, IsAtEnd}
use Rattle.std.specs.List.{flat_map}
use Rattle.sm_base.specs.Faults.{Rose}
use Rattle.sm_replication.specs.declared.input.Input.{Input}
use Rattle.sm_replication.specs.Frames.{IsFrame, frame_bytes}
use Rattle.sm_replication.specs.Reading.{last_place, IsPartial, StartsBadly}
use Rattle.sm_io.specs.declared.clock.Clock.{Ghosts as ClockGhosts}
use Rattle.sm_io.specs.declared.sink.Sink.{Ghosts as SinkGhosts}
use Rattle.sm_io.specs.declared.source.Source.{Ghosts as SourceGhosts}
use Rattle.sm_principal.specs.declared.people.People.{People}
use Rattle.sm_session.specs.Endings.{Sides, count_limit}
use Rattle.sm_session.specs.Told.{Growth}
use Rattle.sm_follow.specs.declared.end.End.{End}
use Rattle.sm_follow.specs.declared.end.End.TheVariants.{Closed, Cut, Bad, Enough, ReadFault, WriteFault, DiskFault, Memory}
use Rattle.sm_follow.specs.Outputs.{Outgoing, output_bytes, joined}
use Rattle.sm_follow.specs.InputTurns.{State, InputTurn, Onward, Goes, Fails, Follows, outputs_of, readings_of}

-- how many frames are read at most
abbrev pub frame_limit : ℕ
frame_limit = 100_000

-- what is around a replica: the two sides of its stream, and what the clock told
pub record Around : Type 0 where
  pub sides : Sides
  pub readings : Option (List ℕ)

-- how it shows itself
abbrev pub around_by : {Q K C : Type 0} → SourceGhosts Q → SinkGhosts K → ClockGhosts C → Q → K → C → Around
around_by sources sinks clocks source sink clock = record {
  sides = record {
    left = sources.left source;
    taken = sinks.taken sink;
    source = sources.source_faults source;
    sink = sinks.sink_faults sink;
  };
  readings = clocks.readings clock;
}

abbrev pub AreFrames : List Input → Type 0
AreFrames [] = ⊤
AreFrames (input ∷ inputs) = IsFrame input × AreFrames inputs

-- the bytes of frames, one after the other
abbrev pub frames_bytes : List Input → List ℕ
frames_bytes inputs = flat_map frame_bytes inputs

-- What passed on a stream: what was read, and is left of the source then; the frames that were read, what is written
-- after each, and what was written; and how the counts of source and sink grew.
pub record Passage : Type 0 where
  pub input : List ℕ
  pub left : Option (List ℕ)
  pub inputs : List Input
  pub outputs : List Outgoing
  pub written : List ℕ
  pub source : Growth
  pub sink : Growth

-- what was read is the frames, and this behind them
abbrev pub Reads : Passage → List ℕ → Type 0
Reads p rest = p.input ≡ frames_bytes p.inputs ++ rest

abbrev pub WritesAll : Passage → Type 0
WritesAll p = p.written ≡ joined p.outputs

-- the sink failed within the last output, behind the earlier ones
pub record CutWithin (p : Passage) (counted : ℕ) : Type 0 where
  pub earlier : List Outgoing
  pub last : Outgoing
  pub size : ℕ
  pub parts : p.outputs ≡ earlier ++ last ∷ []
  pub short : size < length (output_bytes last)
  pub writes : p.written ≡ joined earlier ++ take size (output_bytes last)
  pub counts : counted ≡ min (length p.written) count_limit

-- no output stands behind these, as far as there was memory for them
pub record WritesFirst (p : Passage) : Type 0 where
  pub first : List Outgoing
  pub more : List Outgoing
  pub parts : p.outputs ≡ first ++ more
  pub writes : p.written ≡ joined first

-- Why a stream ended so. Only at its end nothing of the source is left, and only where the source or the sink failed
-- its count rose. After as many frames as are read at most the stream ends by that, whatever follows.
abbrev pub EndsBy : End → Passage → Type 0
EndsBy Closed p = (length p.inputs < frame_limit) × Reads p [] × IsAtEnd p.left × WritesAll p
EndsBy (Cut n) p = (length p.inputs < frame_limit) × WritesAll p
    × (rest : List ℕ) × Reads p rest × IsPartial rest × (n ≡ length rest) × (0 < n) × IsAtEnd p.left
EndsBy (Bad at) p = (length p.inputs < frame_limit) × WritesAll p
    × (rest : List ℕ) × Reads p rest × StartsBadly rest × (at ≡ min (length (frames_bytes p.inputs)) last_place)
EndsBy Enough p = (length p.inputs ≡ frame_limit) × WritesAll p × (rest : List ℕ) × Reads p rest
EndsBy ReadFault p = (length p.inputs < frame_limit) × WritesAll p
    × (rest : List ℕ) × Reads p rest × IsPartial rest × Rose p.source.before p.source.after
EndsBy (WriteFault counted) p = (length p.inputs ≤ frame_limit) × CutWithin p counted
    × Rose p.sink.before p.sink.after × (rest : List ℕ) × Reads p rest
EndsBy DiskFault p = (length p.inputs ≤ frame_limit) × WritesAll p × (rest : List ℕ) × Reads p rest
EndsBy Memory p = (length p.inputs ≤ frame_limit) × WritesFirst p × (rest : List ℕ) × Reads p rest

-- A stream that ended so ended where its replica went on, save that a fault of the disk ends it, and lack of memory and
-- a fault of the sink may come at any place.
abbrev pub EndsAt : End → Onward → Type 0
EndsAt DiskFault (Fails kept) = ⊤
EndsAt DiskFault other = ⊥
EndsAt Memory onward = ⊤
EndsAt (WriteFault counted) onward = ⊤
EndsAt end (Goes state) = ⊤
EndsAt end other = ⊥

-- A stream of a replica, from what was around it before to what is after: the frames that were read, what came of each,
-- and how the stream ended.
pub record Followed (people : People) (old : State) (end : End) (before after : Around) (onward : Onward) : Type 0 where
  pub input : List ℕ
  pub written : List ℕ
  pub inputs : List Input
  pub frames : AreFrames inputs
  pub turns : List InputTurn
  pub follows : Follows people old inputs turns onward
  pub reads : before.sides.left ≡ prepend_known input after.sides.left
  pub writes : after.sides.taken ≡ append_known before.sides.taken written
  pub readings : after.readings ≡ append_known before.readings (readings_of turns)
  pub ends_at : EndsAt end onward
  pub ends : EndsBy end (record {
    input = input;
    left = after.sides.left;
    inputs = inputs;
    outputs = outputs_of turns;
    written = written;
    source = record { before = before.sides.source; after = after.sides.source };
    sink = record { before = before.sides.sink; after = after.sides.sink };
  })
