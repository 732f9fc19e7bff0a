-- Why a run has no end: the refusal of an opening.
use Rattle.std.specs.Prelude.{◌≡◌, ◌⊎◌, ℕ, Bool, true, false, List, Some, slice_get, take}
use Rattle.sm_disk.specs.Sight.{Sight}
use Rattle.sm_disk.specs.declared.disk.Disk.{Ghosts as DiskGhosts}
use Rattle.sm_journal.specs.declared.answers.OpenRefused.{OpenRefused}
use Rattle.sm_journal.specs.declared.answers.OpenRefused.TheVariants.{Damaged, Failed, Memory}
use Rattle.sm_rotation.specs.Vouched.{Replies}
use Rattle.sm_rotator.specs.declared.rotator.Rotator.{Ghosts as RotatorGhosts}
use Rattle.sm_store.specs.Held.{Held}
use Rattle.sm_recovery.specs.Openings.{IsRefused}
use Rattle.sm_account.specs.Accounts.{disk}
use Rattle.sm_account.specs.Crashes.{HoldsOnDisk}
use Rattle.sm_drive.specs.Disks.{Disks, GoesOver}
use Rattle.sm_drive.specs.Openings.{Begins, Tells, TellsAtRestarts, beginning}
use Rattle.sm_drive.specs.Runs.{Runs}
use Rattle.sm_drive.specs.Stands.{Stand, all_at}
use Rattle.sm_drive.specs.declared.call.Call.{Call}
use Rattle.sm_drive.specs.declared.call.Call.TheVariants.{Restart}
use Rattle.sm_drive.specs.declared.outcome.Outcome.{Outcome}
use Rattle.sm_drive.specs.declared.run.Run.{Run}

abbrev pub is_damaged : {D : Type 0} → OpenRefused D → Bool
is_damaged (Damaged now damage) = true
is_damaged (Failed now) = false
is_damaged (Memory now) = false

-- the call is a Restart, whose opening was refused over the disk that the run left, and where that tells it is not
-- damaged
pub record IsRefusedAt {D R : Type 0} (G : DiskGhosts D) (V : RotatorGhosts R) (run : Run D R G V) (call : Call)
    (refused : OpenRefused D) : Type 0 where
  pub restarts : call ≡ Restart
  pub refused_is : IsRefused G (disk run.account) refused
  pub whole : Tells (G.sight (disk run.account)) → is_damaged refused ≡ false

-- What calls made of a disk that was given: they ran from what the opening at the start took, and each image of the
-- disk as they left it recovers to what the account then had, or to it and the entry whose write failed last.
pub record IsLeft (replies : Replies) (given : Sight) (calls : List Call) (outs : List Outcome) (now : Sight)
    : Type 0 where
  pub taken : Held
  pub begins : Begins given taken
  pub last : Stand
  pub runs : Runs replies calls outs (beginning taken) last
  pub holds : HoldsOnDisk (all_at last) last.failed now

-- The calls before a Restart ran, and it was refused over the disk as they left it. Where the disk that was given
-- tells, that one is not damaged.
pub record StopsBehind {D : Type 0} (G : DiskGhosts D) (replies : Replies) (given : D) (calls : List Call)
    (refused : OpenRefused D) : Type 0 where
  pub count : ℕ
  pub restarts : slice_get calls count ≡ Some Restart
  pub outcomes : List Outcome
  pub disks : Disks D
  pub over : GoesOver G given (take count calls) outcomes disks
  pub left : TellsAtRestarts (take count calls) (G.sight given)
      → IsLeft replies (G.sight given) (take count calls) outcomes (G.sight disks.now)
  pub refused_is : IsRefused G disks.now refused
  pub whole : Tells (G.sight given) → is_damaged refused ≡ false

-- A run is refused at the start or at a Restart, by the opening's rule.
abbrev pub IsStopped : {D : Type 0} → DiskGhosts D → Replies → D → List Call → OpenRefused D → Type 0
IsStopped G replies given calls refused = IsRefused G given refused ⊎ StopsBehind G replies given calls refused
