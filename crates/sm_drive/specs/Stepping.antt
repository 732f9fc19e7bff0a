-- A call of the run between two calls.
use Rattle.std.specs.Prelude.{◌≡◌, ℕ, ◌+◌, List, length}
use Rattle.sm_base.specs.declared.limits.TheConstants.{JOURNAL_LIMIT}
use Rattle.sm_disk.specs.Steps.{GoesOnTelling}
use Rattle.sm_disk.specs.declared.disk.Disk.{Ghosts as DiskGhosts}
use Rattle.sm_model.specs.declared.entry.Entry.{Entry}
use Rattle.sm_rotator.specs.declared.rotator.Rotator.{Ghosts as RotatorGhosts}
use Rattle.sm_recovery.specs.Lawful.{made_of}
use Rattle.sm_account.specs.Accounts.{base, disk}
use Rattle.sm_drive.specs.Disks.{Disks, Touches, disks_of}
use Rattle.sm_drive.specs.Openings.{Tells}
use Rattle.sm_drive.specs.Stands.{Stand, all_at, stand_of}
use Rattle.sm_drive.specs.Steps.{Goes}
use Rattle.sm_drive.specs.declared.call.Call.{Call}
use Rattle.sm_drive.specs.declared.call.Call.TheVariants.{Restart}
use Rattle.sm_drive.specs.declared.outcome.Outcome.{Outcome}
use Rattle.sm_drive.specs.declared.run.Run.{Run}

-- so many entries were made before the run, and these since
abbrev pub Counts : ℕ → Stand → Type 0
Counts first stand = (made_of (all_at stand)).entries ≡ first + length stand.entries

module _ {D R : Type 0} {G : DiskGhosts D} {V : RotatorGhosts R} where
  -- where the run stands that made these entries
  abbrev pub stand_in : Run D R G V → List Entry → Stand
  stand_in run entries = stand_of run.account run.verdicts entries

  -- its disk
  abbrev pub disks_in : Run D R G V → Disks D
  disks_in run = disks_of run.account

  -- its account was opened with the limit of all journals
  abbrev pub IsUnder : Run D R G V → Type 0
  IsUnder run = (base run.account).limit ≡ JOURNAL_LIMIT

-- A call of a run: whichever entries it had made, where these are counted right, a call goes on from there, a Restart
-- over a disk that tells. The disk goes on telling, its count of faults rises with what failed, and the rest of the run
-- stays.
pub record Calls {D R : Type 0} (G : DiskGhosts D) (V : RotatorGhosts R) (old : Run D R G V) (call : Call)
    (out : Outcome) (new : Run D R G V) : Type 0 where
  pub first : new.first ≡ old.first
  pub under : IsUnder old → IsUnder new
  pub tells : GoesOnTelling (G.sight (disk old.account)) (G.sight (disk new.account))
  pub touches : Touches G call out (disks_in old) (disks_in new)
  pub goes : IsUnder old → (call ≡ Restart → Tells (G.sight (disk old.account))) → (entries : List Entry)
      → Counts old.first (stand_in old entries)
      → (more : List Entry) × Goes V.replies call out (stand_in old entries) (stand_in new more)
