-- What holds of the state of an account.
use Rattle.std.specs.Prelude.{◌≡◌, ℕ, ◌+◌, ◌-◌, ◌^◌, ◌<◌, ◌≤◌, min, List, ◌++◌, length, Option, Some, None, is_some}
use Rattle.sm_base.specs.declared.moment.TheConstants.{LAST_READING}
use Rattle.sm_model.specs.declared.entry.Change.{Change}
use Rattle.sm_model.specs.declared.entry.Entry.{Entry}
use Rattle.sm_model.specs.declared.entry.Mark.{Mark}
use Rattle.sm_base.specs.declared.limits.TheConstants.{ENTRIES_LIMIT, JOURNAL_LIMIT}
use Rattle.sm_table.specs.Changes.{CanMake, StandsAt}
use Rattle.sm_table.specs.Sound.{Sound, ChangeSound}
use Rattle.sm_table.specs.Sweep.{sweep}
use Rattle.sm_core.specs.Effects.{Makes}
use Rattle.sm_core.specs.Histories.{LegalEntry}
use Rattle.sm_disk.specs.declared.disk.Disk.{Ghosts}
use Rattle.sm_journal.specs.Records.{body_limit}
use Rattle.sm_journal.specs.declared.format.Format.TheVariants.{Second}
use Rattle.sm_recovery.specs.Lawful.{base_under, IsLawful, MayFollowIf}
use Rattle.sm_recovery.specs.Following.{entries_limit}
use Rattle.sm_store.specs.Appends.{IsReady}
use Rattle.sm_store.specs.Stores as stores
use Rattle.sm_store.specs.Held.{Held}
use Rattle.sm_account.specs.declared.account_state.AccountState.{AccountState}
use Rattle.sm_account.specs.Claims.{ClaimsReady, ClaimsStand}
use Rattle.sm_account.specs.History.{entries_in, faults_in}
use Rattle.sm_account.specs.States.{Base, base_of, State, state_at, size_of}

-- the greatest count of faults
abbrev pub count_limit : ℕ
count_limit = 2 ^ 64 - 1

-- what is held, and entries behind it
abbrev pub with_entries : Held → List Entry → Held
with_entries h entries = record { base = h.base; entries = h.entries ++ entries }

module _ {D : Type 0} {G : Ghosts D} where
  abbrev pub history_in : AccountState D G → List (ℕ × Mark)
  history_in inner = inner.told.value

  abbrev pub disk_in : AccountState D G → D
  disk_in inner = stores.disk_of inner.store

  -- what was taken from the disk, with the entries that were made since
  abbrev pub all_held : AccountState D G → Held
  all_held inner = with_entries inner.taken.value (entries_in (history_in inner))

  abbrev pub base_in : AccountState D G → Base
  base_in inner = base_of inner.taken.value inner.limit

  -- the state that the account shows
  abbrev pub state_in : AccountState D G → State
  state_in inner = record {
    rows = inner.table;
    last = inner.last;
    before = (base_in inner).entries;
    made = inner.made;
    bytes = stores.length_of inner.store;
    limit = inner.limit;
  }

-- the history has at most as many faults as the disk's count rose by
abbrev pub FaultsBound : ℕ → List (ℕ × Mark) → ℕ → Type 0
FaultsBound began history now = min (began + faults_in history) count_limit ≤ now

-- how many faults of the history a write that failed stands for
abbrev pub faults_of : Option Entry → ℕ
faults_of None = 0
faults_of (Some entry) = 1

-- What always holds: the rows are sound; the state is that at the history; each image of the disk recovers to the base
-- and all entries, or while the tail is unsure to these or these and the one whose write failed last, whose fault the
-- history has; all this is lawful; the history has at most as many faults as the disk's count rose by; each claim is of
-- the step that was ready; and what is kept of the base, the entries, the marks and the claims is what the history says
-- of them.
pub record Kept {D : Type 0} (G : Ghosts D) (inner : AccountState D G) : Type 0 where
  pub sound : Sound inner.table
  pub bound : inner.last.0 ≤ LAST_READING
  pub within : inner.made ≤ ENTRIES_LIMIT
  pub based : inner.base ≡ base_under inner.taken.value.base
  pub whole : inner.entries.items ≡ (all_held inner).entries
  pub counted : inner.marks ≡ length (history_in inner)
  pub limit : (9 ≤ inner.limit) × (inner.limit ≤ JOURNAL_LIMIT)
  pub under : stores.limit_of inner.store ≡ inner.limit
  pub second : stores.format_of inner.store ≡ Second
  pub state : state_in inner ≡ state_at (base_in inner) (history_in inner)
  pub sure : stores.is_unsure inner.store ≡ is_some inner.failed.value
  pub holds : stores.Holds inner.store (all_held inner) inner.failed.value
  pub lawful : ∥ IsLawful (all_held inner) ∥₁
  pub next : ∥ MayFollowIf (all_held inner) inner.failed.value ∥₁
  pub told : faults_of inner.failed.value ≤ faults_in (history_in inner)
  pub faults : FaultsBound (G.faults inner.began.value) (history_in inner) (G.faults (disk_in inner))
  pub claims : ∥ ClaimsReady (base_in inner) (history_in inner) ∥₁
  pub stand : ClaimsStand (history_in inner) inner.claims.items inner.last

-- what the account began with stays
pub record SameOrigin {D : Type 0} {G : Ghosts D} (old new : AccountState D G) : Type 0 where
  pub taken : new.taken.value ≡ old.taken.value
  pub began : new.began.value ≡ old.began.value
  pub limit : new.limit ≡ old.limit

-- An entry that is due at the account: its spelling, the change that makes its rows, and room for it under both limits.
pub record IsDueAt {D : Type 0} {G : Ghosts D} (inner : AccountState D G) (entry : Entry) (ready : List ℕ)
    (change : Change) : Type 0 where
  pub spells : IsReady entry ready
  pub short : length ready ≤ body_limit
  pub counted : inner.made < ENTRIES_LIMIT
  pub countable : (state_in inner).before + inner.made < entries_limit
  pub fits : stores.length_of inner.store + size_of entry ≤ inner.limit
  pub can : CanMake inner.table change
  pub stands : StandsAt inner.table entry.moment change
  pub makes : Makes inner.table entry change
  pub sound : ChangeSound (sweep inner.table entry.moment) change
  pub legal : LegalEntry inner.table entry
  pub later : inner.last.0 ≤ entry.moment.0
  pub bound : entry.moment.0 ≤ LAST_READING
