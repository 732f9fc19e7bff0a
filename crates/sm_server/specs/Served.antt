-- What a server does over its disk with its workers, and how it ends.
use Rattle.std.specs.Prelude.{◌≡◌, ◌⊎◌, ◌≤◌, ℕ, Bool, true, false, List, [], All, Option, Some, None, IsSome, Result, Ok, Err}
use Rattle.std.specs.List.{count_by}
use Rattle.sm_base.specs.Faults.{Rose}
use Rattle.sm_disk.specs.declared.disk.Disk.{Ghosts as DiskGhosts}
use Rattle.sm_journal.specs.declared.answers.OpenRefused.TheVariants as refusals
use Rattle.sm_lock.specs.declared.storied.Storied.{Ghosts as StoriedGhosts}
use Rattle.sm_model.specs.declared.entry.Mark.{Mark}
use Rattle.sm_base.specs.declared.limits.TheConstants.{JOURNAL_LIMIT}
use Rattle.sm_principal.specs.declared.people.People.{People as Persons}
use Rattle.sm_rotator.specs.declared.rotator.Rotator.{Ghosts as RotatorGhosts}
use Rattle.sm_recovery.specs.Openings.{IsRefused}
use Rattle.sm_account.specs.declared.account.Account.{Account}
use Rattle.sm_account.specs.Accounts.{all_of, base, began, disk, doors_at_opening, failed, history, taken}
use Rattle.sm_account.specs.AccountState.{FaultsBound, faults_of}
use Rattle.sm_account.specs.Crashes.{HoldsOnDisk}
use Rattle.sm_account.specs.History.{faults_in}
use Rattle.sm_account.specs.Openings.{TakenFrom}
use Rattle.sm_account.specs.States.{base_of}
use Rattle.sm_command_line.specs.declared.settings.Mode.{Mode}
use Rattle.sm_command_line.specs.declared.settings.Mode.TheVariants.{Exec, Serve, Check, Drill, Agent, Ship, Follow}
use Rattle.sm_command_line.specs.declared.settings.Settings.{Settings}
use Rattle.sm_workers.specs.declared.worker.Task.{Task}
use Rattle.sm_workers.specs.declared.worker.Task.TheVariants.{Door, Turner}
use Rattle.sm_workers.specs.declared.worker.WorkerBy.{WorkerBy}
use Rattle.sm_workers.specs.Closed.{Closed}
use Rattle.sm_workers.specs.Views.{Views}
use Rattle.sm_workers.specs.Workers.{HasNoPass, NoneFailed, SomeFailed}
use Rattle.sm_server.specs.declared.serving.RanBy.{RanBy}
use Rattle.sm_server.specs.declared.serving.RanBy.TheVariants.{Opened, Unopened}
use Rattle.sm_server.specs.declared.status.Status.{Status}
use Rattle.sm_server.specs.declared.status.Status.TheVariants.{Done, Words, Damaged, OpenFault, Memory, People, EdgeFault}

-- how a server ends that is not asked to serve
abbrev pub end_of_serving : Mode → Option Status
end_of_serving Exec = Some Words
end_of_serving Serve = None
end_of_serving Check = Some Words
end_of_serving Drill = Some Words
end_of_serving Agent = Some Words
end_of_serving Ship = Some Words
end_of_serving Follow = Some Words

-- words that are refused ask for nothing
abbrev pub end_of_server : Option Settings → Option Status
end_of_server None = Some Words
end_of_server (Some settings) = end_of_serving settings.mode

-- a server that does not follow its words ends as it must, or memory ran out
abbrev pub EndsServer : Option Status → Option Settings → Type 0
EndsServer end asked = (end ≡ Some Memory) ⊎ (end ≡ end_of_server asked)

-- how many of the workers are connection workers
abbrev pub is_connection_worker : {E R : Type 0} → Task E R → Bool
is_connection_worker (Door edge) = true
is_connection_worker (Turner rotator) = false

abbrev pub connection_workers_in : {E C W R A O M : Type 0} {g : StoriedGhosts A O M} → List (WorkerBy E C W R A O M g)
    → ℕ
connection_workers_in workers = count_by (λ worker. is_connection_worker worker.task) workers

-- how a server ends whose workers ended: by an edge exactly where some edge failed
abbrev pub EndsWorkers : {E C W R A O M : Type 0} {g : StoriedGhosts A O M} → Status → List (WorkerBy E C W R A O M g)
    → Type 0
EndsWorkers Done workers = NoneFailed workers
EndsWorkers EdgeFault workers = SomeFailed workers
EndsWorkers other workers = ⊥

-- Who may ask, where the words ask for a server and the text of the people was read. Else what ends the server: its
-- words, the first bad line of that text, or out of memory.
abbrev pub FollowsOrders : Result Persons Status → Option Settings → Result Persons ℕ → Type 0
FollowsOrders (Ok people) asked read = (end_of_server asked ≡ None) × (read ≡ Ok people)
FollowsOrders (Err status) asked read =
    (status ≡ Memory)
    ⊎ (((status ≡ Words) × (end_of_server asked ≡ Some Words))
    ⊎ ((line : ℕ) × (status ≡ People line) × (end_of_server asked ≡ None) × (read ≡ Err line)))

-- how a server ends whose account was not opened, and the disk that is handed back
abbrev pub UnopenedOver : {D : Type 0} → DiskGhosts D → Status → D → D → Type 0
UnopenedOver G (Damaged at entry) old new =
    IsRefused G old (refusals.Damaged new (record { at = at; entry = entry }))
UnopenedOver G OpenFault old new = IsRefused G old (refusals.Failed new)
UnopenedOver G Memory old new = IsRefused G old (refusals.Memory new)
UnopenedOver G other old new = ⊥

-- How a server ends that opened no account: its orders end it, and the disk is as it was; or they were followed, and
-- the disk's account was not opened.
abbrev pub UnopenedBy : {D : Type 0} → DiskGhosts D → Option Settings → Result Persons ℕ → Status → D → D → Type 0
UnopenedBy G asked read status old new =
    (FollowsOrders (Err status) asked read × (new ≡ old))
    ⊎ ((people : Persons) × FollowsOrders (Ok people) asked read × UnopenedOver G status old new)

module _ {E K C W R A O D : Type 0} {g : StoriedGhosts A O Mark} (views : Views E K C W R) (G : DiskGhosts D)
    {V : RotatorGhosts R} where
  -- How a server ends that opened this account. At 0 each connection worker ended since its edge has no connection
  -- left; where it ends by an edge, some edge failed; in both cases the pass of each worker came back. Without memory
  -- for the lock nobody worked.
  abbrev pub EndsServed : Persons → Account D R G V → Status → List (WorkerBy E C W R A O Mark g)
      → List (WorkerBy E C W R A O Mark g) → Type 0
  EndsServed people account Done old new =
      Closed views people (base account) [] (history account) old new × NoneFailed new × All HasNoPass new
  EndsServed people account EdgeFault old new =
      Closed views people (base account) [] (history account) old new × SomeFailed new × All HasNoPass new
  EndsServed people account Memory old new = (history account ≡ []) × (new ≡ old)
  EndsServed people account other old new = ⊥

  -- What workers leave of an account: what it was opened over. Each image of the disk recovers to all that it holds,
  -- or, while the last write may have failed, perhaps to this and one entry more, whose fault the history has. Both are
  -- lawful.
  pub record LeavesAt (people : Persons) (before after : Account D R G V) (status : Status)
      (old new : List (WorkerBy E C W R A O Mark g)) : Type 0 where
    pub taken_stays : taken after ≡ taken before
    pub began_stays : began after ≡ began before
    pub base_stays : base after ≡ base before
    pub doors_stay : doors_at_opening after ≡ doors_at_opening before
    pub on_disk : HoldsOnDisk (all_of after) (failed after) (G.sight (disk after))
    pub told : faults_of (failed after) ≤ faults_in (history after)
    pub faults : FaultsBound (G.faults (began after)) (history after) (G.faults (disk after))
    pub ends : EndsServed people after status old new

  -- What a server leaves: the account that it opened over what it took from the disk, which kept its state then, with a
  -- door for each connection worker, whose whole history was made by its workers, each at its seat. One entry more may
  -- stand on the disk only where the disk's count rose.
  pub record OpenedOver (people : Persons) (first : D) (status : Status) (account : Account D R G V)
      (old new : List (WorkerBy E C W R A O Mark g)) : Type 0 where
    pub opened : D
    pub recovered : TakenFrom G first JOURNAL_LIMIT (taken account) opened
    pub began_is : began account ≡ first
    pub base_is : base account ≡ base_of (taken account) JOURNAL_LIMIT
    pub doors_are : doors_at_opening account ≡ connection_workers_in old
    pub on_disk : HoldsOnDisk (all_of account) (failed account) (G.sight (disk account))
    pub risen : IsSome (failed account) → Rose (G.faults first) (G.faults (disk account))
    pub faults : FaultsBound (G.faults first) (history account) (G.faults (disk account))
    pub ends : EndsServed people account status old new

  -- by whether it opened an account
  abbrev pub LeavesOver : Persons → D → RanBy (Account D R G V) D → List (WorkerBy E C W R A O Mark g)
      → List (WorkerBy E C W R A O Mark g) → Type 0
  LeavesOver people first (Opened status account) old new = OpenedOver people first status account old new
  LeavesOver people first (Unopened status now) old new = UnopenedOver G status first now × (new ≡ old)

  abbrev pub RanAs : Option Settings → Result Persons ℕ → D → RanBy (Account D R G V) D
      → List (WorkerBy E C W R A O Mark g) → List (WorkerBy E C W R A O Mark g) → Type 0
  RanAs asked read first (Opened status account) old new =
      (people : Persons) × FollowsOrders (Ok people) asked read × OpenedOver people first status account old new
  RanAs asked read first (Unopened status now) old new = UnopenedBy G asked read status first now × (new ≡ old)
