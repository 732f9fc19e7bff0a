-- One step of a replica's stream.
use Rattle.std.specs.Prelude.{◌≡◌, ◌⊎◌, ◌<◌, ⊤, ℕ, List, length, take, Option, Result, Ok, Err}
use Rattle.std.specs.Io.KnownBytes.{append_known}
use Rattle.sm_base.specs.Faults.{Rose}
use Rattle.sm_disk.specs.declared.disk.Disk.{Ghosts}
use Rattle.sm_replication.specs.declared.input.Input.{Input}
use Rattle.sm_replication.specs.declared.reader.NextFrame.{NextFrame}
use Rattle.sm_replication.specs.declared.reader.NextFrame.TheVariants as next
use Rattle.sm_principal.specs.declared.people.People.{People}
use Rattle.sm_follow.specs.declared.end.End.{End}
use Rattle.sm_follow.specs.declared.end.End.TheVariants as ends
use Rattle.sm_follow.specs.declared.follower.Follower.{Follower}
use Rattle.sm_follow.specs.Disks.{IfFails, KeepsOnDisk, Stands}
use Rattle.sm_follow.specs.Outputs.{Outgoing, counted, output_bytes}
use Rattle.sm_follow.specs.InputTurns.{Onward, Goes, Fails, Lacks, Sure, State, InputTurn, InputTurnOf, kept_of}

-- what a reader answered, where it is a frame or how the stream ends
abbrev pub next_of : Result Input End → NextFrame → Type 0
next_of (Ok input) answer = answer ≡ next.Input input
next_of (Err (ends.Bad at)) answer = answer ≡ next.Bad at
next_of (Err ends.Closed) answer = answer ≡ next.End
next_of (Err (ends.Cut count)) answer = answer ≡ next.Cut count
next_of (Err ends.ReadFault) answer = answer ≡ next.ReadFault
next_of (Err ends.Memory) answer = answer ≡ next.Memory
next_of (Err other) answer = ⊥

-- a fact where the stream ended
abbrev pub OnInputEnd : Result Input End → Type 0 → Type 0
OnInputEnd (Err ends.Closed) P = P
OnInputEnd (Err (ends.Cut count)) P = P
OnInputEnd other P = ⊤

-- a fact where the source failed
abbrev pub OnInputFault : Result Input End → Type 0 → Type 0
OnInputFault (Err ends.ReadFault) P = P
OnInputFault other P = ⊤

-- a sink beside a step: the number of bytes that were counted, what it took, and how often it failed
pub record Written : Type 0 where
  pub count : ℕ
  pub taken : Option (List ℕ)
  pub faults : ℕ

-- the output was written whole
pub record WritesWhole (output : Outgoing) (old new : Written) : Type 0 where
  pub taken : new.taken ≡ append_known old.taken (output_bytes output)
  pub count : new.count ≡ counted old.count (length (output_bytes output))

-- the sink failed within it, and so many bytes had been taken then
pub record WritesPart (output : Outgoing) (sent : ℕ) (old new : Written) : Type 0 where
  pub size : ℕ
  pub short : size < length (output_bytes output)
  pub taken : new.taken ≡ append_known old.taken (take size (output_bytes output))
  pub count : sent ≡ counted old.count size
  pub rose : Rose old.faults new.faults

-- the disk failed in a promotion
abbrev pub IsFailed : Onward → Type 0
IsFailed (Goes state) = ⊥
IsFailed (Fails kept) = ⊤
IsFailed (Lacks kept) = ⊥

-- how much of the last output was written, where the run ends so
abbrev pub EndsOutput : End → Onward → Outgoing → Written → Written → Type 0
EndsOutput ends.DiskFault onward output old new = IsFailed onward × WritesWhole output old new
EndsOutput ends.Memory onward output old new = (new.taken ≡ old.taken) ⊎ WritesWhole output old new
EndsOutput (ends.WriteFault sent) onward output old new = WritesPart output sent old new
EndsOutput other onward output old new = ⊥

-- an input's turn, after which the replica goes on
pub record GoesOn {D : Type 0} {G : Ghosts D} (people : People) (old : State) (input : Input) (next : Follower D G)
    (readings readings' : Option (List ℕ)) (before after : Written) : Type 0 where
  pub turn : InputTurn
  pub new : State
  pub turned : InputTurnOf people old input turn (Goes new)
  pub stands : Stands new next
  pub told : readings' ≡ append_known readings turn.readings
  pub writes : WritesWhole turn.output before after

-- an input's turn, behind which the run ends so
pub record GoesNoFurther {D : Type 0} (G : Ghosts D) (people : People) (old : State) (input : Input) (end : End)
    (disk : D) (faults : ℕ) (readings readings' : Option (List ℕ)) (before after : Written) : Type 0 where
  pub turn : InputTurn
  pub onward : Onward
  pub turned : InputTurnOf people old input turn onward
  pub on_disk : KeepsOnDisk (kept_of onward) (G.sight disk)
  pub cause : IfFails onward (Rose faults (G.faults disk))
  pub told : readings' ≡ append_known readings turn.readings
  pub writes : EndsOutput end onward turn.output before after

-- there was no memory to take a frame, and nothing is written
pub record GoesNowhere {D : Type 0} (G : Ghosts D) (old : State) (end : End) (disk : D)
    (readings readings' : Option (List ℕ)) (before after : Written) : Type 0 where
  pub lacks : end ≡ ends.Memory
  pub on_disk : KeepsOnDisk (Sure old.held) (G.sight disk)
  pub untold : readings' ≡ readings
  pub unwritten : after.taken ≡ before.taken

abbrev pub Steps : {D : Type 0} {G : Ghosts D} → People → State → Input → Result (Follower D G) (End × D) → ℕ
    → Option (List ℕ) → Option (List ℕ) → Written → Written → Type 0
Steps people old input (Ok next) faults readings readings' before after =
    GoesOn people old input next readings readings' before after
Steps {D} {G} people old input (Err ended) faults readings readings' before after =
    GoesNoFurther G people old input ended.0 ended.1 faults readings readings' before after
    ⊎ GoesNowhere G old ended.0 ended.1 readings readings' before after
