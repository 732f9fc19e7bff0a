-- The state of an account that has room for an entry more, and an entry that is due at it.
use Rattle.std.proofs.Common.{◌≡◌, ◌≤◌, sym, ap, ◌∙◌, subst}
use Rattle.sm_base.specs.declared.moment.Moment.{Moment}
use Rattle.sm_base.specs.declared.moment.TheConstants.{LAST_READING}
use Rattle.sm_disk.specs.declared.disk.Disk.{Ghosts}
use Rattle.sm_model.specs.declared.entry.Change.{Change}
use Rattle.sm_model.specs.declared.entry.Entry.{Entry}
use Rattle.sm_model.specs.declared.rows.Rows.{Rows}
use Rattle.sm_table.specs.Changes.{CanMake, StandsAt}
use Rattle.sm_table.specs.Sound.{ChangeSound}
use Rattle.sm_table.specs.Sweep.{sweep}
use Rattle.sm_core.specs.Effects.{Makes}
use Rattle.sm_core.specs.Histories.{LegalEntry}
use Rattle.sm_store.specs.Appends.{IsReady}
use Rattle.sm_account.specs.declared.account_state.AccountState.{AccountState}
use Rattle.sm_account.specs.declared.due.Due.{Due}
use Rattle.sm_account.specs.AccountState.{Kept, history_in, state_in}
use Rattle.sm_account.specs.Claims.{ClaimsStand}
use Rattle.sm_account.specs.Growing.{IsGrown, SameButRoom}
use Rattle.sm_account.specs.Handling.{LimitsAside}

module _ {D : Type 0} {G : Ghosts D} (old mid : AccountState D G) (room : SameButRoom old mid) where
  table_is : mid.table ≡ old.table
  table_is = ap (λ (b : AccountState D G). b.table) room.rest

  pub same_state : state_in mid ≡ state_in old
  same_state = ap state_in room.rest

  pub room_kept : Kept G old → Kept G mid
  room_kept kept =
      let same : Kept G (record old { entries = mid.entries; claims = mid.claims }) = record {
        sound = kept.sound;
        bound = kept.bound;
        within = kept.within;
        based = kept.based;
        whole = room.entries ∙ kept.whole;
        counted = kept.counted;
        limit = kept.limit;
        under = kept.under;
        second = kept.second;
        state = kept.state;
        sure = kept.sure;
        holds = kept.holds;
        lawful = kept.lawful;
        next = kept.next;
        told = kept.told;
        faults = kept.faults;
        claims = kept.claims;
        stand = subst (λ claims. ClaimsStand (history_in old) claims old.last) (sym room.claims) kept.stand;
      } in
      subst (Kept G) (sym room.rest) same

  module _ (entry : Entry) (change : Change) (due : Due) (grown : IsGrown old entry change due) where
    -- what holds of the entry and its change at the rows holds of what is due
    at : (P : Rows → Entry → Change → Type 0) → P old.table entry change → P mid.table due.entry due.prepared.change
    at P h =
        subst (λ t. P t due.entry due.prepared.change) (sym table_is)
        (subst (λ e. P old.table e due.prepared.change) (sym grown.entry_is)
        (subst (P old.table entry) (sym grown.change_is) h))

    pub limits_aside : CanMake old.table change → StandsAt old.table entry.moment change → Makes old.table entry change
        → ChangeSound (sweep old.table entry.moment) change
        → LegalEntry old.table entry → old.last.0 ≤ entry.moment.0
        → entry.moment.0 ≤ LAST_READING
        → LimitsAside mid due
    limits_aside can stands makes sound legal later bound = record {
      spells = subst (λ e. IsReady e due.ready) (sym grown.entry_is) grown.spells;
      short = grown.short;
      before = grown.before ∙ sym table_is;
      can = at (λ t e c. CanMake t c) can;
      stands = at (λ t e c. StandsAt t e.moment c) stands;
      makes = at (λ t e c. Makes t e c) makes;
      sound = at (λ t e c. ChangeSound (sweep t e.moment) c) sound;
      legal = at (λ t e c. LegalEntry t e) legal;
      later =
          subst (λ (m : Moment). m.0 ≤ due.entry.moment.0) (sym (ap (λ (b : AccountState D G). b.last) room.rest))
          (subst (λ (e : Entry). old.last.0 ≤ e.moment.0) (sym grown.entry_is) later);
      bound = subst (λ (e : Entry). e.moment.0 ≤ LAST_READING) (sym grown.entry_is) bound;
    }
