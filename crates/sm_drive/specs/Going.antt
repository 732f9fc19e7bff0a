-- How far a run has come.
use Rattle.std.specs.Prelude.{◌≡◌, ◌≤◌, List, []}
use Rattle.sm_disk.specs.Steps.{GoesOnTelling}
use Rattle.sm_disk.specs.declared.disk.Disk.{Ghosts as DiskGhosts}
use Rattle.sm_model.specs.declared.entry.Entry.{Entry}
use Rattle.sm_recovery.specs.Lawful.{made_of}
use Rattle.sm_rotation.specs.Vouched.{Replies}
use Rattle.sm_rotator.specs.declared.rotator.Rotator.{Ghosts as RotatorGhosts}
use Rattle.sm_store.specs.Held.{Held}
use Rattle.sm_account.specs.Accounts.{began, disk, taken}
use Rattle.sm_drive.specs.Disks.{GoesOver}
use Rattle.sm_drive.specs.Drives.{Follows}
use Rattle.sm_drive.specs.Openings.{Begins, Tells, TellsAtRestarts, beginning}
use Rattle.sm_drive.specs.Runs.{Runs}
use Rattle.sm_drive.specs.Stands.{Stand}
use Rattle.sm_drive.specs.Stepping.{Counts, IsUnder, disks_in, stand_in}
use Rattle.sm_drive.specs.declared.call.Call.{Call}
use Rattle.sm_drive.specs.declared.outcome.Outcome.{Outcome}
use Rattle.sm_drive.specs.declared.run.Run.{Run}

-- these calls ran from what was taken, with these outcomes, and what holds of all entries holds now
pub record Came (replies : Replies) (taken : Held) (calls : List Call) (outcomes : List Outcome) (last : Stand)
    : Type 0 where
  pub runs : Runs replies calls outcomes (beginning taken) last
  pub counted : Counts (made_of taken).entries last
  pub follows : ∥ Follows replies (made_of taken) last ∥₁

module _ {D R : Type 0} {G : DiskGhosts D} {V : RotatorGhosts R} where
  -- a run before its first call, and what the opening took of the disk
  pub record IsFresh (run : Run D R G V) : Type 0 where
    pub under : IsUnder run
    pub first : run.first ≡ (made_of (taken run.account)).entries
    pub stands : stand_in run [] ≡ beginning (taken run.account)
    pub begins : Begins (G.sight (began run.account)) (taken run.account)
    pub tells : GoesOnTelling (G.sight (began run.account)) (G.sight (disk run.account))
    pub no_other : G.faults (disk run.account) ≡ G.faults (began run.account)

  -- a run after these calls: it came so far with some list of entries, where a Restart among them over a disk that told
  pub record HasCome (start : Run D R G V) (calls : List Call) (outcomes : List Outcome) (now : Run D R G V)
      : Type 0 where
    pub under : IsUnder now
    pub first : now.first ≡ start.first
    pub over : GoesOver G (began start.account) calls outcomes (disks_in now)
    pub tells : Tells (G.sight (began start.account)) → Tells (G.sight (disk now.account))
    pub came : TellsAtRestarts calls (G.sight (began start.account))
        → (entries : List Entry) × Came V.replies (taken start.account) calls outcomes (stand_in now entries)
