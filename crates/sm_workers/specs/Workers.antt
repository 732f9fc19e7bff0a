-- What a worker does between taking its pass out and putting it back.
use Rattle.std.specs.Prelude.{◌≡◌, ℕ, ◌<◌, Bool, true, false, List, ◌++◌, length, get_or, All, None, Some}
use Rattle.std.specs.List.{Contains}
use Rattle.sm_lock.specs.Handles.{number, seen, mine, IsIn}
use Rattle.sm_lock.specs.declared.gate.Gate.{Gate}
use Rattle.sm_lock.specs.declared.pass.Pass.{Pass}
use Rattle.sm_lock.specs.declared.storied.Storied.{Ghosts}
use Rattle.sm_model.specs.declared.entry.Mark.{Mark}
use Rattle.sm_account.specs.States.{Base}
use Rattle.sm_pool.specs.Holds.{hold_shape}
use Rattle.sm_principal.specs.declared.people.People.{People}
use Rattle.sm_session.specs.Sessions.{Place, LocalState, turn_shape}
use Rattle.sm_account.specs.SeatTraces.{History, marks_in}
use Rattle.sm_workers.specs.declared.worker.Task.{Task}
use Rattle.sm_workers.specs.declared.worker.Task.TheVariants.{Door, Turner}
use Rattle.sm_workers.specs.declared.worker.WorkerBy.{WorkerBy}
use Rattle.sm_workers.specs.ConnectionWorkers.{ConnectionWorkerDid, EndsConnectionWorker}
use Rattle.sm_workers.specs.RotationWorkers.{Post, RotationWorkerDid, holds_in}
use Rattle.sm_workers.specs.Views.{Views}
use Rattle.sm_workers.specs.Visits.{turns_in}

module _ {E C W R A O M : Type 0} {g : Ghosts A O M} where
  -- a worker that is to be given a pass
  pub record IsFresh (worker : WorkerBy E C W R A O M g) : Type 0 where
    pub pass : worker.pass ≡ None
    pub failed : worker.failed ≡ false

  -- a worker that is to begin
  pub record IsReady (gate : Gate A O M) (worker : WorkerBy E C W R A O M g) : Type 0 where
    pub pass : Pass A O M g
    pub has : worker.pass ≡ Some pass
    pub belongs : IsIn gate pass
    pub failed : worker.failed ≡ false

  -- it has a pass, or none
  abbrev pub HasPass : WorkerBy E C W R A O M g → Type 0
  HasPass worker = (pass : Pass A O M g) × (worker.pass ≡ Some pass)

  abbrev pub HasNoPass : WorkerBy E C W R A O M g → Type 0
  HasNoPass worker = worker.pass ≡ None

  -- the edge of some connection worker failed, or that of none
  abbrev pub SomeFailed : List (WorkerBy E C W R A O M g) → Type 0
  SomeFailed workers = (worker : WorkerBy E C W R A O M g) × Contains workers worker × (worker.failed ≡ true)

  abbrev pub NoneFailed : List (WorkerBy E C W R A O M g) → Type 0
  NoneFailed workers = All (λ worker. worker.failed ≡ false) workers

module _ {E K C W R : Type 0} (views : Views E K C W R) where
  -- a local state with the rotator
  abbrev pub post : R → LocalState → Post
  post rotator own = record { own = own; rotator = views.rotator rotator }

  -- A connection worker fails only where its edge's count rose, and else no connection is left. A rotation worker does
  -- not fail.
  abbrev pub EndsAs : Bool → Task E R → Task E R → Type 0
  EndsAs failed (Door old) (Door new) = EndsConnectionWorker failed (views.edge old) (views.edge new)
  EndsAs failed (Turner old) (Turner new) = failed ≡ false
  EndsAs failed (Door old) (Turner new) = ⊥
  EndsAs failed (Turner old) (Door new) = ⊥

  module _ (people : People) (place : Place) where
    -- what came of a task: a connection worker's visits, or a rotation worker's turns
    abbrev pub Did : Task E R → Task E R → LocalState → LocalState → Type 0
    Did (Door old) (Door new) from to =
        ConnectionWorkerDid views.sides people place (views.edge old) (views.edge new) from to
    Did (Turner old) (Turner new) from to = RotationWorkerDid views.replies place (post old from) (post new to)
    Did (Door old) (Turner new) from to = ⊥
    Did (Turner old) (Door new) from to = ⊥

    -- the marks that it left
    abbrev pub marks_by : (old new : Task E R) (from to : LocalState) → Did old new from to → List Mark
    marks_by (Door old) (Door new) from to did =
        marks_in turn_shape (turns_in views.sides people place did.visits)
    marks_by (Turner old) (Turner new) from to did = marks_in hold_shape (holds_in views.replies place did.turns)
    marks_by (Door old) (Turner new) from to did = absurd did
    marks_by (Turner old) (Door new) from to did = absurd did

  module _ {A O : Type 0} {g : Ghosts A O Mark} where
    -- the local state of a worker that has seen this history
    abbrev pub local_state_of : WorkerBy E C W R A O Mark g → History → LocalState
    local_state_of worker seen = record {
      seen = seen;
      readings = views.readings worker.clock;
      drawn = views.drawn worker.words;
      random = views.random worker.words;
    }

    module _ (people : People) where
      -- what a worker did under its seat, from one history to another, and how it ended
      pub record Works (place : Place) (old new : WorkerBy E C W R A O Mark g) (from to : History) : Type 0 where
        pub did : Did people place old.task new.task (local_state_of old from) (local_state_of new to)
        pub ends : EndsAs new.failed old.task new.task

      -- the marks that a worker left
      abbrev pub marks_of : {place : Place} {old new : WorkerBy E C W R A O Mark g} {from to : History}
          → Works place old new from to → List Mark
      marks_of {place} {old} {new} {from} {to} works =
          marks_by people place old.task new.task (local_state_of old from) (local_state_of new to) works.did

      -- A worker took out one pass and put one back, of the same gate and seat. Its own marks are those that it left.
      pub record HasWorked (base : Base) (gate : Gate A O Mark) (before after : Pass A O Mark g)
          (old new : WorkerBy E C W R A O Mark g) : Type 0 where
        pub gate_stays : IsIn gate after
        pub number_stays : number after ≡ number before
        pub works : Works (record { base = base; seat = number before }) old new (seen before) (seen after)
        pub own : mine after ≡ mine before ++ marks_of works

      -- it took a pass out and put it back
      pub record WorksWithItsPass (base : Base) (gate : Gate A O Mark) (old new : WorkerBy E C W R A O Mark g) : Type 0
        where
          pub before : Pass A O Mark g
          pub after : Pass A O Mark g
          pub had : old.pass ≡ Some before
          pub has : new.pass ≡ Some after
          pub worked : HasWorked base gate before after old new

      -- each worker worked with the pass of its place, and this came back
      abbrev pub AllWorked : Base → Gate A O Mark → List (Pass A O Mark g) → List (Pass A O Mark g)
          → List (WorkerBy E C W R A O Mark g) → List (WorkerBy E C W R A O Mark g) → Type 0
      AllWorked base gate before after old new =
          (k : ℕ) (pass : Pass A O Mark g) (worker : WorkerBy E C W R A O Mark g) → k < length old
          → HasWorked base gate (get_or before k pass) (get_or after k pass) (get_or old k worker) (get_or new k worker)
