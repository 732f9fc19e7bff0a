-- What always holds of the account of a run.
use Rattle.std.specs.Prelude.{◌≡◌}
use Rattle.sm_core.specs.Histories.{replay}
use Rattle.sm_disk.specs.declared.disk.Disk.{Ghosts as DiskGhosts}
use Rattle.sm_rotator.specs.declared.rotator.Rotator.{Ghosts as RotatorGhosts}
use Rattle.sm_account.specs.Accounts as accounts
use Rattle.sm_account.specs.Allowed.{EntriesAllowed}
use Rattle.sm_account.specs.Crashes.{HoldsOnDisk}
use Rattle.sm_account.specs.History.{entries_in}
use Rattle.sm_drive.specs.declared.run.Run.{Run}

-- Each image of the disk recovers to what the account has, or to it and the entry whose write failed last, all of it
-- lawful; the rows are those that the history makes; and each answer that was entered is one that the rotator may give
-- where it accepts a test.
pub record Stands {D R : Type 0} (G : DiskGhosts D) (V : RotatorGhosts R) (run : Run D R G V) : Type 0 where
  pub on_disk : HoldsOnDisk (accounts.all_of run.account) (accounts.failed run.account)
      (G.sight (accounts.disk run.account))
  pub rows : accounts.rows run.account
      ≡ replay (accounts.base run.account).rows (entries_in (accounts.history run.account))
  pub allowed : ∥ EntriesAllowed V.replies run.account.inner ∥₁
