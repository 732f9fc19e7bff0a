-- An account that was just opened.
use Rattle.std.specs.Prelude.{◌≡◌, ◌≤◌, [], None}
use Rattle.sm_base.specs.declared.limits.TheConstants.{JOURNAL_LIMIT}
use Rattle.sm_disk.specs.declared.disk.Disk.{Ghosts as DiskGhosts}
use Rattle.sm_rotator.specs.declared.rotator.Rotator.{Ghosts as RotatorGhosts}
use Rattle.sm_account.specs.Accounts.{base, began, disk, failed, history, taken}
use Rattle.sm_account.specs.States.{base_of}
use Rattle.sm_account.specs.declared.account.Account.{Account}

-- Nothing was done at it: it has no history, goes on from what its disk recovered, and nothing of it is unsure.
pub record IsJustOpened {D R : Type 0} {G : DiskGhosts D} {V : RotatorGhosts R} (account : Account D R G V) : Type 0
  where
    pub fresh : history account ≡ []
    pub base_is : base account ≡ base_of (taken account) JOURNAL_LIMIT
    pub sure : failed account ≡ None
    pub later : G.faults (began account) ≤ G.faults (disk account)
