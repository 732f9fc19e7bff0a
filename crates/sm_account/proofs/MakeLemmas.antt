-- The account's state once an entry was written, or was not: from what each step leaves to what always holds.
use Rattle.std.proofs.Common.{◌≡◌, ℕ, ◌+◌, ◌≤◌, List, [], ◌∷◌, ◌++◌, Some, None, is_some, sym, ap, ◌∙◌, subst}
use Rattle.sm_base.specs.Faults.{Rose}
use Rattle.sm_disk.specs.declared.disk.Disk.{Ghosts}
use Rattle.sm_model.specs.declared.entry.Change.{Change}
use Rattle.sm_model.specs.declared.entry.Entry.{Entry as entries}
use Rattle.sm_model.specs.declared.entry.Mark.TheVariants.{Entry, Fault}
use Rattle.sm_table.specs.Changes.{changed}
use Rattle.sm_table.specs.Sound.{Sound}
use Rattle.sm_table.specs.Sweep.{sweep}
use Rattle.sm_recovery.specs.Lawful.{MayFollowIf}
use Rattle.sm_store.specs.Appends.{SamePlace}
use Rattle.sm_store.specs.Stores as stores
use Rattle.sm_store.specs.declared.store.Store.{Store}
use Rattle.sm_account.specs.declared.account_state.AccountState.{AccountState}
use Rattle.sm_account.specs.declared.writing.Written.TheVariants as written
use Rattle.sm_account.specs.AccountState.{history_in, disk_in, all_held, state_in, Kept, IsDueAt, SameOrigin}
use Rattle.sm_account.specs.Writing.{WritesAs}
use Rattle.sm_account.proofs.KeptLemmas.{Continues, kept_made, kept_faulted, state_stays, may_follow}

module _ {D : Type 0} {G : Ghosts D} (old new : AccountState D G) (store : Store D G) (seat : ℕ) (kept : Kept G old)
    (place : SamePlace old.store store) where
  -- the entry was written, its change made, and the mark added
  module _ (entry : entries) (ready : List ℕ) (change : Change) (due : IsDueAt old entry ready change)
      (rest : new ≡ record old {
        store = store;
        table = changed (sweep old.table entry.moment) change;
        last = entry.moment;
        made = old.made + 1;
        failed = new.failed;
        entries = new.entries;
        told = new.told;
        marks = old.marks + 1;
      })
      (history : history_in new ≡ history_in old ++ (seat, Entry entry) ∷ []) where
    stored : new.store ≡ store
    stored = ap (λ (b : AccountState D G). b.store) rest

    pub entered_origin : SameOrigin old new
    entered_origin = record {
      taken = ap (λ (b : AccountState D G). b.taken.value) rest;
      began = ap (λ (b : AccountState D G). b.began.value) rest;
      limit = ap (λ (b : AccountState D G). b.limit) rest;
    }

    goes : Continues old new seat (Entry entry)
    goes = record {
      taken = ap (λ (b : AccountState D G). b.taken.value) rest;
      began = ap (λ (b : AccountState D G). b.began.value) rest;
      limit = ap (λ (b : AccountState D G). b.limit) rest;
      base = ap (λ (b : AccountState D G). b.base) rest;
      place = subst (SamePlace old.store) (sym stored) place;
      history = history;
      counted = ap (λ (b : AccountState D G). b.marks) rest;
      claims = ap (λ (b : AccountState D G). b.claims.items) rest;
    }

    pub entered_kept : new.failed.value ≡ None → Sound new.table
        → new.entries.items ≡ old.entries.items ++ entry ∷ [] → WritesAs old.store entry store written.Ok
        → G.faults (disk_in old) ≤ G.faults (stores.disk_of store) → Kept G new
    entered_kept none sound added wrote count =
        kept_made old new seat kept entry ready change due goes (ap (λ (b : AccountState D G). b.table) rest)
        (ap (λ (b : AccountState D G). b.last) rest) (ap (λ (b : AccountState D G). b.made) rest) none sound added
        (subst (λ s. WritesAs old.store entry s written.Ok) (sym stored) wrote)
        (subst (λ s. G.faults (disk_in old) ≤ G.faults (stores.disk_of s)) (sym stored) count)

  -- where only the store and the marks are others, the entry whose write failed is the same
  pub failed_stays : new ≡ record old { store = store; told = new.told; marks = old.marks + 1 }
      → (new.failed ≡ old.failed)
      × (new ≡ record old { store = store; failed = new.failed; told = new.told; marks = old.marks + 1 })
  failed_stays rest =
      let same : new.failed ≡ old.failed = ap (λ (b : AccountState D G). b.failed) rest in (
        same,
        rest ∙ ap (λ f. record old { store = store; failed = f; told = new.told; marks = old.marks + 1 }) (sym same),
      )

  -- the disk failed, and a fault was added
  module _ (rest : new ≡ record old { store = store; failed = new.failed; told = new.told; marks = old.marks + 1 })
      (history : history_in new ≡ history_in old ++ (seat, Fault) ∷ [])
      (length : stores.length_of store ≡ stores.length_of old.store) where
    stored_still : new.store ≡ store
    stored_still = ap (λ (b : AccountState D G). b.store) rest

    pub faulted_origin : SameOrigin old new
    faulted_origin = record {
      taken = ap (λ (b : AccountState D G). b.taken.value) rest;
      began = ap (λ (b : AccountState D G). b.began.value) rest;
      limit = ap (λ (b : AccountState D G). b.limit) rest;
    }

    goes_still : Continues old new seat Fault
    goes_still = record {
      taken = ap (λ (b : AccountState D G). b.taken.value) rest;
      began = ap (λ (b : AccountState D G). b.began.value) rest;
      limit = ap (λ (b : AccountState D G). b.limit) rest;
      base = ap (λ (b : AccountState D G). b.base) rest;
      place = subst (SamePlace old.store) (sym stored_still) place;
      history = history;
      counted = ap (λ (b : AccountState D G). b.marks) rest;
      claims = ap (λ (b : AccountState D G). b.claims.items) rest;
    }

    bytes : stores.length_of new.store ≡ stores.length_of old.store
    bytes = ap stores.length_of stored_still ∙ length

    pub faulted_state : state_in new ≡ state_in old
    faulted_state =
        state_stays old new seat kept goes_still (ap (λ (b : AccountState D G). b.table) rest)
        (ap (λ (b : AccountState D G). b.last) rest) (ap (λ (b : AccountState D G). b.made) rest) bytes

    faulted_kept : stores.is_unsure store ≡ is_some new.failed.value
        → stores.Holds store (all_held old) new.failed.value
        → ∥ MayFollowIf (all_held old) new.failed.value ∥₁
        → Rose (G.faults (disk_in old)) (G.faults (stores.disk_of store)) → Kept G new
    faulted_kept sure holds next rose =
        kept_faulted old new seat kept goes_still (ap (λ (b : AccountState D G). b.table) rest)
        (ap (λ (b : AccountState D G). b.last) rest) (ap (λ (b : AccountState D G). b.made) rest) bytes
        (subst (λ s. Rose (G.faults (disk_in old)) (G.faults (stores.disk_of s))) (sym stored_still) rose)
        (ap (λ (b : AccountState D G). b.entries.items) rest)
        (ap stores.is_unsure stored_still ∙ sure)
        (subst (λ s. stores.Holds s (all_held old) new.failed.value) (sym stored_still) holds) next

    -- where the tail was not mended, the same entry may stand on the disk as before
    pub unmended_kept : (entry : entries) → new.failed ≡ old.failed → WritesAs old.store entry store written.Unmended
        → Rose (G.faults (disk_in old)) (G.faults (stores.disk_of store)) → Kept G new
    unmended_kept entry same wrote rose =
        let failed : new.failed.value ≡ old.failed.value = ap (λ f. f.value) same in
        faulted_kept (wrote.1 ∙ sym wrote.0 ∙ kept.sure ∙ ap is_some (sym failed))
        (subst (stores.Holds store (all_held old)) (sym failed)
        (wrote.3 (all_held old) old.failed.value kept.holds))
        (subst (λ f. ∥ MayFollowIf (all_held old) f ∥₁) (sym failed) kept.next) rose

    -- where the entry's write failed, it may stand there
    pub torn_kept : (entry : entries) (ready : List ℕ) (change : Change) → IsDueAt old entry ready change
        → new.failed.value ≡ Some entry → WritesAs old.store entry store written.Torn
        → Rose (G.faults (disk_in old)) (G.faults (stores.disk_of store)) → Kept G new
    torn_kept entry ready change due torn wrote rose =
        faulted_kept (wrote.0 ∙ ap is_some (sym torn))
        (subst (stores.Holds store (all_held old)) (sym torn)
        (wrote.2 (all_held old) old.failed.value kept.holds))
        (subst (λ f. ∥ MayFollowIf (all_held old) f ∥₁) (sym torn)
        ∣ may_follow old kept entry due.later due.legal due.countable ∣₁) rose

-- what a step leaves behind one that changed the store alone
module _ {D : Type 0} {G : Ghosts D} (old mid new : AccountState D G)
    (wrote : mid ≡ record old { store = mid.store }) where
  pub behind_history : history_in mid ≡ history_in old
  behind_history = ap (λ (b : AccountState D G). history_in b) wrote

  pub behind_commit : (entry : entries) (change : Change)
      → new ≡ record mid {
        table = changed (sweep mid.table entry.moment) change;
        last = entry.moment;
        made = mid.made + 1;
        failed = new.failed;
        entries = new.entries;
        told = new.told;
        marks = mid.marks + 1;
      }
      → new ≡ record old {
        store = mid.store;
        table = changed (sweep old.table entry.moment) change;
        last = entry.moment;
        made = old.made + 1;
        failed = new.failed;
        entries = new.entries;
        told = new.told;
        marks = old.marks + 1;
      }
  behind_commit entry change rest =
      rest ∙ ap (λ (b : AccountState D G). record b {
        table = changed (sweep b.table entry.moment) change;
        last = entry.moment;
        made = b.made + 1;
        failed = new.failed;
        entries = new.entries;
        told = new.told;
        marks = b.marks + 1;
      }) wrote

  pub behind_fault : new ≡ record mid { told = new.told; marks = mid.marks + 1 }
      → new ≡ record old { store = mid.store; told = new.told; marks = old.marks + 1 }
  behind_fault rest = rest ∙ ap (λ (b : AccountState D G). record b { told = new.told; marks = b.marks + 1 }) wrote

  pub behind_tear : new ≡ record mid { failed = new.failed; told = new.told; marks = mid.marks + 1 }
      → new ≡ record old { store = mid.store; failed = new.failed; told = new.told; marks = old.marks + 1 }
  behind_tear rest =
      rest ∙ ap (λ (b : AccountState D G). record b { failed = new.failed; told = new.told; marks = b.marks + 1 }) wrote

  pub behind_entries : (entry : entries) → new.entries.items ≡ mid.entries.items ++ entry ∷ []
      → new.entries.items ≡ old.entries.items ++ entry ∷ []
  behind_entries entry added =
      added ∙ ap (λ (b : AccountState D G). b.entries.items ++ entry ∷ []) wrote
