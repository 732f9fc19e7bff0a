-- What comes of workers that were run at an account.
use Rattle.std.specs.Prelude.{◌≡◌, List, All}
use Rattle.sm_disk.specs.declared.disk.Disk.{Ghosts as DiskGhosts}
use Rattle.sm_lock.specs.declared.storied.Storied.{Ghosts}
use Rattle.sm_model.specs.declared.entry.Mark.{Mark}
use Rattle.sm_rotator.specs.declared.rotator.Rotator.{Ghosts as RotatorGhosts}
use Rattle.sm_account.specs.Accounts.{base, history, began, doors_at_opening, taken}
use Rattle.sm_account.specs.declared.account.Account.{Account}
use Rattle.sm_principal.specs.declared.people.People.{People}
use Rattle.sm_workers.specs.Closed.{Closed}
use Rattle.sm_workers.specs.Views.{Views}
use Rattle.sm_workers.specs.Workers.{HasNoPass}
use Rattle.sm_workers.specs.declared.worker.WorkerBy.{WorkerBy}

module _ {E K C W R A O D : Type 0} {g : Ghosts A O Mark} {G : DiskGhosts D} {V : RotatorGhosts R}
    (views : Views E K C W R) (people : People) where
  -- The account was opened over the same. All that stands in its history behind that of before was done by the workers:
  -- the k-th, counted from 1, made the marks of seat k. None has a pass any more.
  pub record RanAt (before after : Account D R G V) (old new : List (WorkerBy E C W R A O Mark g)) : Type 0 where
    pub closed : Closed views people (base before) (history before) (history after) old new
    pub taken_stays : taken after ≡ taken before
    pub began_stays : began after ≡ began before
    pub base_stays : base after ≡ base before
    pub doors_stay : doors_at_opening after ≡ doors_at_opening before
    pub left : All HasNoPass new
