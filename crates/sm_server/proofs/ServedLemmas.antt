-- Servers: their words, and what they leave.
use Rattle.std.proofs.Common.{◌≡◌, ◌≤◌, ◌+◌, min, ℕ, List, [], Option, None, Some, IsSome, Result, Ok, Err, sym, ap, ◌∙◌, subst, inl, inr, arith, All}
use Rattle.std.proofs.lemmas.Bool.{false≢true}
use Rattle.sm_base.specs.Faults.{Rose}
use Rattle.sm_disk.specs.declared.disk.Disk.{Ghosts as DiskGhosts}
use Rattle.sm_journal.specs.declared.answers.OpenRefused.{OpenRefused}
use Rattle.sm_journal.specs.declared.answers.OpenRefused.TheVariants as refusals
use Rattle.sm_lock.specs.declared.storied.Storied.{Ghosts as StoriedGhosts}
use Rattle.sm_model.specs.declared.entry.Entry.{Entry}
use Rattle.sm_model.specs.declared.entry.Mark.{Mark}
use Rattle.sm_base.specs.declared.limits.TheConstants.{JOURNAL_LIMIT}
use Rattle.sm_principal.specs.declared.people.People.{People as Persons}
use Rattle.sm_rotator.specs.declared.rotator.Rotator.{Ghosts as RotatorGhosts}
use Rattle.sm_recovery.specs.Openings.{IsRefused}
use Rattle.sm_store.specs.Held.{Held}
use Rattle.sm_account.specs.declared.account.Account.{Account}
use Rattle.sm_account.specs.Accounts.{base, began, disk, failed, history, taken}
use Rattle.sm_account.specs.AccountState.{FaultsBound, count_limit, faults_of}
use Rattle.sm_account.specs.History.{faults_in}
use Rattle.sm_account.specs.Openings.{IsOpenedOver, TakenFrom}
use Rattle.sm_account.specs.States.{Base, base_of}
use Rattle.sm_account.specs.SeatTraces.{History}
use Rattle.sm_command_line.specs.declared.settings.Mode.{Mode}
use Rattle.sm_command_line.specs.declared.settings.Mode.TheVariants.{Exec, Serve, Check, Drill, Agent, Ship, Follow}
use Rattle.sm_command_line.specs.declared.settings.Settings.{Settings}
use Rattle.sm_workers.specs.declared.worker.WorkerBy.{WorkerBy}
use Rattle.sm_workers.specs.Closed.{Closed}
use Rattle.sm_workers.specs.Views.{Views}
use Rattle.sm_server.specs.declared.serving.RanBy.{RanBy}
use Rattle.sm_server.specs.declared.serving.RanBy.TheVariants.{Opened, Unopened}
use Rattle.sm_server.specs.declared.status.Status.{Status}
use Rattle.sm_server.specs.declared.status.Status.TheVariants as statuses
use Rattle.sm_server.specs.Asked.{FollowsPeople}
use Rattle.sm_workers.specs.Workers.{HasNoPass}
use Rattle.sm_server.specs.Served.{EndsServed, EndsServer, EndsWorkers, FollowsOrders, LeavesAt, LeavesOver, OpenedOver, RanAs, UnopenedOver, connection_workers_in, end_of_server, end_of_serving}
use Rattle.sm_server.specs.Stored.{disk_unopened, status_unopened}

-- words that do not ask for a server
at_mode : (mode : Mode) (status : Status) → Some status ≡ end_of_serving mode → status ≡ statuses.Words
at_mode Exec status is = let h : Some status ≡ Some statuses.Words = is in cc
at_mode Serve status is = absurd (let h : Some status ≡ None = is in cc)
at_mode Check status is = let h : Some status ≡ Some statuses.Words = is in cc
at_mode Drill status is = let h : Some status ≡ Some statuses.Words = is in cc
at_mode Agent status is = let h : Some status ≡ Some statuses.Words = is in cc
at_mode Ship status is = let h : Some status ≡ Some statuses.Words = is in cc
at_mode Follow status is = let h : Some status ≡ Some statuses.Words = is in cc

at_words : (asked : Option Settings) (status : Status) → Some status ≡ end_of_server asked → status ≡ statuses.Words
at_words None status is = let h : Some status ≡ Some statuses.Words = is in cc
at_words (Some settings) status is = at_mode settings.mode status is

pub ended_orders : (asked : Option Settings) (read : Result Persons ℕ) (status : Status)
    → EndsServer (Some status) asked → FollowsOrders (Err status) asked read
ended_orders asked read status (inl is) = inl (let h : Some status ≡ Some statuses.Memory = is in cc)
ended_orders asked read status (inr is) =
    let words : status ≡ statuses.Words = at_words asked status is in
    inr (inl (words, sym is ∙ ap (λ (s : Status). Some s) words))

-- words that do, and the text of the people
serves : (asked : Option Settings) → EndsServer None asked → end_of_server asked ≡ None
serves asked (inl is) = absurd (let none : Option Status = None in let h : none ≡ Some statuses.Memory = is in cc)
serves asked (inr is) = sym is

pub read_orders : (asked : Option Settings) (read : Result Persons ℕ) (result : Result Persons Status)
    → EndsServer None asked → FollowsPeople result read → FollowsOrders result asked read
read_orders asked read (Ok people) ends follows = (serves asked ends, follows)
read_orders asked read (Err status) ends (inl is) = inl is
read_orders asked read (Err status) ends (inr (line, is, at)) = inr (inr (line, at, serves asked ends, is))

-- a write that failed, and left its fault in the history, was counted by the disk
risen_for : (torn : Option Entry) (before told now : ℕ) → IsSome torn → faults_of torn ≤ told
    → min (before + told) count_limit ≤ now → Rose before now
risen_for None before told now there least bound = absurd (false≢true there)
risen_for (Some entry) before told now there least bound = omega (arith, least, bound)

-- an account that was not opened
pub unopened_over : {D : Type 0} (G : DiskGhosts D) (first : D) (refused : OpenRefused D) (status : Status) (now : D)
    → IsRefused G first refused → status ≡ status_unopened refused → now ≡ disk_unopened refused
    → UnopenedOver G status first now
unopened_over G first refused status now is ends back =
    subst (λ s. UnopenedOver G s first now) (sym ends)
    (subst (λ d. UnopenedOver G (status_unopened refused) first d) (sym back) (by refused is))
  where
    by : (refused : OpenRefused _) → IsRefused G first refused
        → UnopenedOver G (status_unopened refused) first (disk_unopened refused)
    by (refusals.Damaged now damage) is = is
    by (refusals.Failed now) is = is
    by (refusals.Memory now) is = is

module _ {E K C W R A O D : Type 0} {g : StoriedGhosts A O Mark} (views : Views E K C W R) (G : DiskGhosts D)
    {V : RotatorGhosts R} (people : Persons) (old new : List (WorkerBy E C W R A O Mark g)) where
  -- workers that ran
  ends_at : (account : Account D R G V) (status : Status) → EndsWorkers status new
      → Closed views people (base account) [] (history account) old new → All HasNoPass new
      → EndsServed views G people account status old new
  ends_at account statuses.Done ends closed left = (closed, ends, left)
  ends_at account statuses.Words ends closed left = absurd ends
  ends_at account (statuses.Damaged at entry) ends closed left = absurd ends
  ends_at account statuses.OpenFault ends closed left = absurd ends
  ends_at account statuses.Memory ends closed left = absurd ends
  ends_at account (statuses.People line) ends closed left = absurd ends
  ends_at account (statuses.SinkFault counted) ends closed left = absurd ends
  ends_at account statuses.SourceFault ends closed left = absurd ends
  ends_at account statuses.EdgeFault ends closed left = (closed, ends, left)
  ends_at account (statuses.Cut bytes) ends closed left = absurd ends
  ends_at account (statuses.BadMessage place) ends closed left = absurd ends
  ends_at account statuses.Enough ends closed left = absurd ends

  pub ends_closed : (before after : Account D R G V) (status : Status) → EndsWorkers status new
      → history before ≡ [] → base after ≡ base before
      → Closed views people (base before) (history before) (history after) old new → All HasNoPass new
      → EndsServed views G people after status old new
  ends_closed before after status ends fresh based closed left =
      ends_at after status ends
      (subst (λ (b : Base). Closed views people b [] (history after) old new) (sym based)
      (subst (λ (h : History). Closed views people (base before) h (history after) old new) fresh closed)) left

  -- an account that was opened over a disk
  pub opened_over : (first : D) (doors : ℕ) (before after : Account D R G V) (status : Status)
      → doors ≡ connection_workers_in old
      → IsOpenedOver first doors JOURNAL_LIMIT before
      → TakenFrom G first JOURNAL_LIMIT (taken before) (disk before)
      → LeavesAt views G people before after status old new
      → OpenedOver views G people first status after old new
  opened_over first doors before after status counted opened found left =
      let began_is : began after ≡ first = left.began_stays ∙ opened.began_is in
      let faults : FaultsBound (G.faults first) (history after) (G.faults (disk after)) =
      subst (λ d. FaultsBound (G.faults d) (history after) (G.faults (disk after))) began_is left.faults in
      record {
        opened = disk before;
        recovered = subst (λ (t : Held). TakenFrom G first JOURNAL_LIMIT t (disk before)) (sym left.taken_stays) found;
        began_is = began_is;
        base_is = left.base_stays ∙ opened.base_is
            ∙ ap (λ (t : Held). base_of t JOURNAL_LIMIT) (sym left.taken_stays);
        doors_are = left.doors_stay ∙ opened.doors_at_opening_are ∙ counted;
        on_disk = left.on_disk;
        risen = λ there. risen_for (failed after) (G.faults first) (faults_in (history after)) (G.faults (disk after))
            there left.told faults;
        faults = faults;
        ends = left.ends;
      }

  -- the orders, and what was left over the disk
  pub ran_as : (asked : Option Settings) (read : Result Persons ℕ) (first : D) (result : RanBy (Account D R G V) D)
      → FollowsOrders (Ok people) asked read → LeavesOver views G people first result old new
      → RanAs views G asked read first result old new
  ran_as asked read first (Opened status account) follows left = (people, follows, left)
  ran_as asked read first (Unopened status now) follows left = (inr (people, follows, left.0), left.1)
