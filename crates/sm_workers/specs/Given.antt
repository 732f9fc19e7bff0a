-- How passes go to workers and come back.
use Rattle.std.specs.Prelude.{◌≡◌, ℕ, ◌<◌, List, length, get_or, None, Some}
use Rattle.sm_lock.specs.declared.pass.Pass.{Pass}
use Rattle.sm_lock.specs.declared.storied.Storied.{Ghosts}
use Rattle.sm_workers.specs.declared.worker.WorkerBy.{WorkerBy}

module _ {E C W R A O M : Type 0} {g : Ghosts A O M} where
  -- each worker has the pass of its place, and is otherwise as it was
  abbrev pub IsGiven : List (Pass A O M g) → List (WorkerBy E C W R A O M g) → List (WorkerBy E C W R A O M g)
      → Type 0
  IsGiven passes old new = (k : ℕ) (pass : Pass A O M g) (worker : WorkerBy E C W R A O M g) → k < length old
      → get_or new k worker ≡ record (get_or old k worker) { pass = Some (get_or passes k pass) }

  -- each pass is the one that the worker of its place had; the worker has none now, and is otherwise as it was
  abbrev pub IsTaken : List (Pass A O M g) → List (WorkerBy E C W R A O M g) → List (WorkerBy E C W R A O M g)
      → Type 0
  IsTaken passes old new = (k : ℕ) (pass : Pass A O M g) (worker : WorkerBy E C W R A O M g) → k < length old
      → ((get_or old k worker).pass ≡ Some (get_or passes k pass))
      × (get_or new k worker ≡ record (get_or old k worker) { pass = None })
