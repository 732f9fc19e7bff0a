-- What a run does that follows a primary.
use Rattle.std.specs.Prelude.{◌≡◌, ◌⊎◌, ℕ, List, Option, Result, Ok, Err}
use Rattle.sm_disk.specs.declared.disk.Disk.{Ghosts}
use Rattle.sm_follow.specs.declared.end.End.{End}
use Rattle.sm_follow.specs.declared.end.End.TheVariants as ends
use Rattle.sm_follow.specs.Disks.{FollowsOver}
use Rattle.sm_follow.specs.Streams.{Around}
use Rattle.sm_journal.specs.declared.answers.OpenRefused.{OpenRefused}
use Rattle.sm_principal.specs.declared.people.People.{People as Persons}
use Rattle.sm_store.specs.Openings.{IsOpenRefused}
use Rattle.sm_command_line.specs.declared.settings.Settings.{Settings}
use Rattle.sm_server.specs.declared.asked.Role.TheVariants.{Replica}
use Rattle.sm_server.specs.declared.status.Status.{Status}
use Rattle.sm_server.specs.declared.status.Status.TheVariants.{Done, OpenFault, Memory, SinkFault, SourceFault, Cut, BadMessage, Enough}
use Rattle.sm_server.specs.Asked.{FollowsPeople, role_of_words}
use Rattle.sm_server.specs.Outside.{Outside, sides_of}
use Rattle.sm_server.specs.Stored.{status_unopened, disk_unopened}

-- how a run ends whose replica's stream ended so
abbrev pub status_of_end : End → Status
status_of_end ends.Closed = Done
status_of_end (ends.Cut bytes) = Cut bytes
status_of_end (ends.Bad at) = BadMessage at
status_of_end ends.Enough = Enough
status_of_end ends.ReadFault = SourceFault
status_of_end (ends.WriteFault taken) = SinkFault taken
status_of_end ends.DiskFault = OpenFault
status_of_end ends.Memory = Memory

-- what is around a replica
abbrev pub around_of : Outside → Around
around_of outside = record { sides = sides_of outside; readings = outside.readings }

-- neither the random source nor the rotator was asked
pub record Unasked (before after : Outside) : Type 0 where
  pub drawn : after.drawn ≡ before.drawn
  pub random : after.counts.random ≡ before.counts.random
  pub rotator : after.counts.rotator ≡ before.counts.rotator

-- nothing was read, written or told; only the disk's count may have risen
pub record Untouched (before after : Outside) : Type 0 where
  pub around : around_of after ≡ around_of before
  pub unasked : Unasked before after

-- the text of the people was refused, or there was no memory for it, and the disk is as it was
pub record Unbegun {D : Type 0} (read : Result Persons ℕ) (status : Status) (before after : Outside) (old new : D)
    : Type 0 where
  pub refused : FollowsPeople (Err status) read
  pub untouched : Untouched before after
  pub disk : new ≡ old

-- The store of the disk was not opened: by the store's own clause it is damaged, or it failed, or there was no memory.
pub record Unopened {D : Type 0} (G : Ghosts D) (read : Result Persons ℕ) (status : Status) (before after : Outside)
    (old new : D) : Type 0 where
  pub people : Persons
  pub read_is : read ≡ Ok people
  pub refused : OpenRefused D
  pub is_refused : IsOpenRefused G old refused
  pub status_is : status ≡ status_unopened refused
  pub disk : new ≡ disk_unopened refused
  pub untouched : Untouched before after

-- the store was opened, and the frames of the source were followed
pub record Opened {D : Type 0} (G : Ghosts D) (read : Result Persons ℕ) (region : List ℕ) (status : Status)
    (before after : Outside) (old new : D) : Type 0 where
  pub people : Persons
  pub read_is : read ≡ Ok people
  pub end : End
  pub follows : FollowsOver G people region end (around_of before) (around_of after) old new
  pub status_is : status ≡ status_of_end end
  pub unasked : Unasked before after

-- A run that follows a primary, as the replica in this region, where this was read of the text of the people.
abbrev pub FollowRan : {D : Type 0} → Ghosts D → Result Persons ℕ → List ℕ → Status → Outside → Outside → D → D → Type 0
FollowRan G read region status before after old new =
    Unbegun read status before after old new ⊎ (Unopened G read status before after old new
    ⊎ Opened G read region status before after old new)

-- The words ask for a replica, and it ran.
abbrev pub RunsReplica : {D : Type 0} → Ghosts D → Option Settings → Result Persons ℕ → Status → Outside → Outside → D
    → D → Type 0
RunsReplica G asked read status before after old new =
    (region : List ℕ) × (role_of_words asked ≡ Ok (Replica region))
    × FollowRan G read region status before after old new
