-- What a call does: at most one mark of the history, and with it at most one entry on the disk.
use Rattle.std.specs.Prelude.{◌≡◌, ◌⊎◌, ⊤, ℕ, ◌≤◌, List, [], ◌∷◌, ◌++◌, Option, Some, None, IsSome}
use Rattle.sm_base.specs.Faults.{Rose}
use Rattle.sm_base.specs.declared.moment.Moment.{Moment}
use Rattle.sm_disk.specs.declared.disk.Disk.{Ghosts}
use Rattle.sm_model.specs.declared.entry.At.{At}
use Rattle.sm_model.specs.declared.entry.Entry.{Entry as entries}
use Rattle.sm_model.specs.declared.entry.Mark.{Mark}
use Rattle.sm_model.specs.declared.entry.Mark.TheVariants.{Entry, Claim, Fault}
use Rattle.sm_account.specs.declared.account_state.AccountState.{AccountState}
use Rattle.sm_account.specs.AccountState.{all_held, disk_in, history_in, state_in, SameOrigin}
use Rattle.sm_account.specs.Crashes.{Throughout}
use Rattle.sm_account.specs.History.{by_seat}

-- nothing; a claim of a step of a rotation; an entry that was made; or one at which the disk failed
pub data CallOutcome : Type 0 where
  Nothing : CallOutcome
  Claimed : List ℕ → At → Moment → CallOutcome
  Made : entries → CallOutcome
  Failed : entries → CallOutcome

-- the marks that it leaves in the history
abbrev pub marks_by : CallOutcome → List Mark
marks_by Nothing = []
marks_by (Claimed arn at moment) = Claim arn at moment ∷ []
marks_by (Made entry) = Entry entry ∷ []
marks_by (Failed entry) = Fault ∷ []

-- the entry that it tried to write
abbrev pub tried_by : CallOutcome → Option entries
tried_by Nothing = None
tried_by (Claimed arn at moment) = None
tried_by (Made entry) = Some entry
tried_by (Failed entry) = Some entry

-- a fact where the disk failed
abbrev pub IfFailed : CallOutcome → Type 0 → Type 0
IfFailed Nothing P = ⊤
IfFailed (Claimed arn at moment) P = ⊤
IfFailed (Made entry) P = ⊤
IfFailed (Failed entry) P = P

-- a fact where it did not fail
abbrev pub UnlessFailed : CallOutcome → Type 0 → Type 0
UnlessFailed Nothing P = P
UnlessFailed (Claimed arn at moment) P = P
UnlessFailed (Made entry) P = P
UnlessFailed (Failed entry) P = ⊤

module _ {D : Type 0} {G : Ghosts D} where
  -- where no entry was tried the state and the store stay, and where the disk failed the state does
  abbrev pub StaysBy : CallOutcome → AccountState D G → AccountState D G → Type 0
  StaysBy Nothing old new = (state_in new ≡ state_in old) × (new.store ≡ old.store)
  StaysBy (Claimed arn at moment) old new = (state_in new ≡ state_in old) × (new.store ≡ old.store)
  StaysBy (Made entry) old new = ⊤
  StaysBy (Failed entry) old new = state_in new ≡ state_in old

  -- The entry whose write failed last: none once an entry was made. Where the disk fails there is one, so that the tail
  -- is unsure: that of before, or this one.
  abbrev pub FailedBy : CallOutcome → AccountState D G → AccountState D G → Type 0
  FailedBy Nothing old new = new.failed.value ≡ old.failed.value
  FailedBy (Claimed arn at moment) old new = new.failed.value ≡ old.failed.value
  FailedBy (Made entry) old new = new.failed.value ≡ None
  FailedBy (Failed entry) old new =
      ((new.failed.value ≡ old.failed.value) × IsSome old.failed.value) ⊎ (new.failed.value ≡ Some entry)

-- What a crash at any moment of the call leaves: where an entry was tried, what `Throughout` says of it, and else the
-- store was not touched.
abbrev pub LeavesTried : {D : Type 0} (G : Ghosts D) → Option entries → AccountState D G → AccountState D G → Type 0
LeavesTried G None old new = new.store ≡ old.store
LeavesTried G (Some own) old new = Throughout G (all_held old) old.failed.value own (disk_in old) (disk_in new)

-- How the account's state goes on by the outcome of a seat's call: the history grows by its mark, what the account
-- began with stays, and so does the rest where it is to stay; and what a crash at any moment leaves.
pub record Leaves {D : Type 0} (G : Ghosts D) (old new : AccountState D G) (seat : ℕ)
    (call_outcome : CallOutcome) : Type 0 where
  pub history : history_in new ≡ history_in old ++ by_seat seat (marks_by call_outcome)
  pub origin : SameOrigin old new
  pub stays : StaysBy call_outcome old new
  pub failed : FailedBy call_outcome old new
  pub any_moment : LeavesTried G (tried_by call_outcome) old new
  pub later : G.faults (disk_in old) ≤ G.faults (disk_in new)
  pub fault : IfFailed call_outcome (Rose (G.faults (disk_in old)) (G.faults (disk_in new)))
  pub no_other : UnlessFailed call_outcome (G.faults (disk_in new) ≡ G.faults (disk_in old))
