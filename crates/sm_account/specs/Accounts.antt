-- An account, and what is said of it.
use Rattle.std.specs.Prelude.{◌≡◌, ℕ, Bool, List, Option}
use Rattle.sm_disk.specs.declared.disk.Disk.{Ghosts as DiskGhosts}
use Rattle.sm_model.specs.declared.entry.Entry.{Entry}
use Rattle.sm_model.specs.declared.entry.Mark.{Mark}
use Rattle.sm_model.specs.declared.rows.Rows.{Rows}
use Rattle.sm_rotator.specs.declared.rotator.Rotator.{Ghosts as RotatorGhosts}
use Rattle.sm_store.specs.Stores as stores
use Rattle.sm_store.specs.Held.{Held}
use Rattle.sm_account.specs.AccountState as inner
use Rattle.sm_account.specs.States.{Base, State, state_at}
use Rattle.sm_account.specs.declared.account.Account.{Account}

module _ {D R : Type 0} {G : DiskGhosts D} {V : RotatorGhosts R} where
  -- the history since the opening: each mark beside the seat that made it
  abbrev pub history : Account D R G V → List (ℕ × Mark)
  history account = inner.history_in account.inner

  -- what it was opened over
  abbrev pub base : Account D R G V → Base
  base account = inner.base_in account.inner

  -- the state at its history
  abbrev pub state : Account D R G V → State
  state account = state_at (base account) (history account)

  -- the secrets
  abbrev pub rows : Account D R G V → Rows
  rows account = account.inner.table

  -- the disk now, and as it was before the opening
  abbrev pub disk : Account D R G V → D
  disk account = inner.disk_in account.inner

  abbrev pub began : Account D R G V → D
  began account = account.inner.began.value

  -- the base and the entries that were taken from the disk, and these with the entries that were made since
  abbrev pub taken : Account D R G V → Held
  taken account = account.inner.taken.value

  abbrev pub all_of : Account D R G V → Held
  all_of account = inner.all_held account.inner

  -- the entry whose write failed last, while the journal's tail is unsure
  abbrev pub failed : Account D R G V → Option Entry
  failed account = account.inner.failed.value

  -- whether the last write may have failed in part
  abbrev pub is_unsure : Account D R G V → Bool
  is_unsure account = stores.is_unsure account.inner.store

  abbrev pub doors : Account D R G V → ℕ
  doors account = account.doors

  -- how many doors were open when it was opened
  abbrev pub doors_at_opening : Account D R G V → ℕ
  doors_at_opening account = account.doors_at_opening

  -- what an account began with stays, and so do its doors
  pub record SameOrigin (old new : Account D R G V) : Type 0 where
    pub taken_stays : taken new ≡ taken old
    pub began_stays : began new ≡ began old
    pub base_stays : base new ≡ base old
    pub doors_stay : doors new ≡ doors old
    pub opening_stays : doors_at_opening new ≡ doors_at_opening old
