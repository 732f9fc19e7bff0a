-- The disk of a run and its count of faults, from call to call.
use Rattle.std.specs.Prelude.{◌≡◌, ⊤, ◌≤◌, List}
use Rattle.sm_base.specs.Faults.{Rose}
use Rattle.sm_disk.specs.declared.disk.Disk.{Ghosts as DiskGhosts}
use Rattle.sm_rotator.specs.declared.rotator.Rotator.{Ghosts as RotatorGhosts}
use Rattle.sm_account.specs.Accounts as accounts
use Rattle.sm_account.specs.declared.account.Account.{Account}
use Rattle.sm_drive.specs.Turns.{InTurn}
use Rattle.sm_drive.specs.declared.call.Call.{Call}
use Rattle.sm_drive.specs.declared.call.Call.TheVariants.{Restart}
use Rattle.sm_drive.specs.declared.outcome.Outcome.{Outcome}
use Rattle.sm_drive.specs.declared.outcome.Outcome.TheVariants.{DiskFault}

-- a disk as the last opening found it, and as it is now
pub record Disks (D : Type 0) : Type 0 where
  pub began : D
  pub now : D

-- what the last opening found: a Restart finds what was left so far
abbrev pub found_by : {D : Type 0} → Call → Disks D → D
found_by Restart old = old.now
found_by call old = old.began

-- a fact where the disk failed
abbrev pub OnDiskFault : Outcome → Type 0 → Type 0
OnDiskFault DiskFault P = P
OnDiskFault out P = ⊤

-- a fact where it did not fail
abbrev pub UnlessDiskFault : Outcome → Type 0 → Type 0
UnlessDiskFault DiskFault P = ⊤
UnlessDiskFault out P = P

-- A call over a disk: a Restart opens it as it was left, and no other call opens it. Its count of faults never falls,
-- and where the outcome is that the disk failed it rose in this call. With every other outcome it stays.
pub record Touches {D : Type 0} (G : DiskGhosts D) (call : Call) (out : Outcome) (old new : Disks D) : Type 0 where
  pub began : new.began ≡ found_by call old
  pub later : G.faults old.now ≤ G.faults new.now
  pub fault : OnDiskFault out (Rose (G.faults old.now) (G.faults new.now))
  pub no_other : UnlessDiskFault out (G.faults new.now ≡ G.faults old.now)

-- Calls over the disk that a run was given: the opening at the start found that one and left another with the same
-- count, and each call went on from there.
pub record GoesOver {D : Type 0} (G : DiskGhosts D) (given : D) (calls : List Call) (outs : List Outcome)
    (last : Disks D) : Type 0 where
  pub opened : D
  pub no_other : G.faults opened ≡ G.faults given
  pub touched : InTurn (Touches G) calls outs (record { began = given; now = opened }) last

-- the disk of an account
abbrev pub disks_of : {D R : Type 0} {G : DiskGhosts D} {V : RotatorGhosts R} → Account D R G V → Disks D
disks_of account = record { began = accounts.began account; now = accounts.disk account }
