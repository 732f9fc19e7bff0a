-- What workers did at one account, seen from its last history.
use Rattle.std.specs.Prelude.{◌≡◌, ℕ, ◌+◌, ◌<◌, ◌≤◌, List, ◌++◌, length, drop, get_or, All}
use Rattle.sm_lock.specs.Story.{entries_of}
use Rattle.sm_lock.specs.declared.storied.Storied.{Ghosts}
use Rattle.sm_model.specs.declared.entry.Mark.{Mark}
use Rattle.sm_account.specs.States.{Base}
use Rattle.sm_principal.specs.declared.people.People.{People}
use Rattle.sm_account.specs.SeatTraces.{History}
use Rattle.sm_workers.specs.declared.worker.WorkerBy.{WorkerBy}
use Rattle.sm_workers.specs.Views.{Views}
use Rattle.sm_workers.specs.Workers.{Works, marks_of}

-- the marks of a seat in a history, since a history that it begins with
abbrev pub marks_since : History → ℕ → History → List Mark
marks_since built seat whole = entries_of seat (drop (length built) whole)

-- a mark is of one of so many seats, which are counted from 1
abbrev pub IsOfSeat : ℕ → ℕ × Mark → Type 0
IsOfSeat seats mark = (1 ≤ mark.0) × (mark.0 ≤ seats)

module _ {E K C W R A O : Type 0} {g : Ghosts A O Mark} (views : Views E K C W R) (people : People) (base : Base)
    (built whole : History) where
  -- a worker did all that is in the history under its seat
  pub record Filled (seat : ℕ) (old new : WorkerBy E C W R A O Mark g) : Type 0 where
    pub works : Works views people (record { base = base; seat = seat }) old new built whole
    pub own : marks_since built seat whole ≡ marks_of views people works

  -- The history begins with the one that the account was built with. What follows was done by these workers: the k-th
  -- has seat k.
  pub record Closed (old new : List (WorkerBy E C W R A O Mark g)) : Type 0 where
    pub begins : whole ≡ built ++ drop (length built) whole
    pub each : (k : ℕ) (worker : WorkerBy E C W R A O Mark g) → k < length old
        → Filled (k + 1) (get_or old k worker) (get_or new k worker)
    pub seats : All (IsOfSeat (length old)) (drop (length built) whole)
