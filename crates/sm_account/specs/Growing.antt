-- An entry that is due, with all the memory that it needs.
use Rattle.std.specs.Prelude.{◌≡◌, ◌-◌, ◌<◌, ◌≤◌, ◌^◌, length, vec_len, vec_capacity}
use Rattle.sm_disk.specs.declared.disk.Disk.{Ghosts}
use Rattle.sm_journal.specs.Records.{body_limit}
use Rattle.sm_model.specs.declared.entry.Change.{Change}
use Rattle.sm_model.specs.declared.entry.Entry.{Entry}
use Rattle.sm_store.specs.Appends.{IsReady}
use Rattle.sm_account.specs.declared.account_state.AccountState.{AccountState}
use Rattle.sm_account.specs.declared.due.Due.{Due}

-- the entry, its spelling, and its change as it was prepared on the account's rows
pub record IsGrown {D : Type 0} {G : Ghosts D} (inner : AccountState D G) (entry : Entry) (change : Change) (due : Due)
    : Type 0 where
  pub entry_is : due.entry ≡ entry
  pub spells : IsReady entry due.ready
  pub short : length due.ready ≤ body_limit
  pub before : due.prepared.before ≡ inner.table
  pub change_is : due.prepared.change ≡ change

-- there is room for an entry, and its mark can be counted
pub record HasCapacity {D : Type 0} {G : Ghosts D} (inner : AccountState D G) : Type 0 where
  pub entry : vec_len inner.entries < vec_capacity inner.entries
  pub mark : inner.marks < 2 ^ 64 - 1

-- nothing has changed but the room for entries and claims
pub record SameButRoom {D : Type 0} {G : Ghosts D} (old new : AccountState D G) : Type 0 where
  pub entries : new.entries.items ≡ old.entries.items
  pub claims : new.claims.items ≡ old.claims.items
  pub rest : new ≡ record old { entries = new.entries; claims = new.claims }
