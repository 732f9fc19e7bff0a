-- What always holds of the account's state goes on to hold.
use Rattle.std.proofs.Common.{◌≡◌, ℕ, ◌+◌, ◌<◌, ◌≤◌, min, List, [], ◌∷◌, ◌++◌, length, Option, None, Some, is_some, sym, ap, ◌∙◌, subst, append_assoc, append-nil, arith}
use Rattle.std.proofs.Math.Logic.{∥∥₁_map}
use Rattle.sm_base.specs.Faults.{Rose}
use Rattle.sm_base.specs.declared.moment.Moment.{Moment}
use Rattle.sm_base.specs.declared.moment.TheConstants.{LAST_READING}
use Rattle.sm_model.specs.declared.entry.Change.{Change}
use Rattle.sm_model.specs.declared.entry.Entry.{Entry as entries}
use Rattle.sm_model.specs.declared.entry.Mark.{Mark}
use Rattle.sm_model.specs.declared.entry.Mark.TheVariants.{Entry, Fault}
use Rattle.sm_base.specs.declared.limits.TheConstants.{JOURNAL_LIMIT}
use Rattle.sm_table.specs.Changes.{changed}
use Rattle.sm_table.specs.Sound.{Sound}
use Rattle.sm_table.specs.Sweep.{sweep}
use Rattle.sm_core.specs.Effects.{effect}
use Rattle.sm_core.specs.Histories.{LegalEntry}
use Rattle.sm_disk.specs.declared.disk.Disk.{Ghosts}
use Rattle.sm_recovery.specs.Lawful.{IsLawful, MayFollow, MayFollowIf, base_under, made_of}
use Rattle.sm_recovery.specs.Following.{entries_limit}
use Rattle.sm_recovery.proofs.FollowLemmas.{one_comes}
use Rattle.sm_store.specs.Appends.{SamePlace}
use Rattle.sm_store.specs.Stores as stores
use Rattle.sm_store.specs.Held.{Held, with_entry}
use Rattle.sm_account.specs.declared.account_state.AccountState.{AccountState}
use Rattle.sm_account.specs.declared.writing.Written.TheVariants as written
use Rattle.sm_account.specs.AccountState.{count_limit, with_entries, history_in, disk_in, all_held, base_in, state_in, faults_of, Kept, IsDueAt}
use Rattle.sm_account.specs.Claims.{ClaimsReady, ClaimsReadyStep, ClaimsStand}
use Rattle.sm_account.specs.History.{entries_in, faults_in}
use Rattle.sm_account.specs.States.{base_of, State, state_at, state_with}
use Rattle.sm_account.specs.Writing.{WritesAs}
use Rattle.sm_account.proofs.ClaimLaws.{claims_more}
use Rattle.sm_account.proofs.HeldLemmas.{lawful_more, made_count, made_last, made_rows}
use Rattle.sm_account.proofs.StandLemmas.{counted_more, stand_entered, stand_failed}
use Rattle.sm_account.proofs.StateLaws.{entries_more, faults_more, state_more, state_faulted}

module _ {D : Type 0} {G : Ghosts D} (inner : AccountState D G) (kept : Kept G inner) where
  -- the rows are those that all entries make
  pub rows_of_all : inner.table ≡ (made_of (all_held inner)).rows
  rows_of_all = ap (λ (s : State). s.rows) kept.state
      ∙ sym (made_rows inner.taken.value (entries_in (history_in inner)))

  pub last_of_all : inner.last ≡ (made_of (all_held inner)).last
  last_of_all = ap (λ (s : State). s.last) kept.state
      ∙ sym (made_last inner.taken.value (entries_in (history_in inner)))

  pub count_of_all : (made_of (all_held inner)).entries ≡ (state_in inner).before + inner.made
  count_of_all =
      omega (
        arith,
        made_count inner.taken.value (entries_in (history_in inner)),
        ap (λ (s : State). s.made) kept.state,
      )

  -- an entry that is legal at the rows may follow all entries, where it can be counted
  pub may_follow : (entry : entries) → inner.last.0 ≤ entry.moment.0 → LegalEntry inner.table entry
      → (state_in inner).before + inner.made < entries_limit → MayFollow (all_held inner) entry
  may_follow entry later legal countable =
      one_comes (made_of (all_held inner)) entry
      (subst (λ (m : Moment). m.0 ≤ entry.moment.0) last_of_all later)
      (subst (λ rows. LegalEntry rows entry) rows_of_all legal)
      (omega (arith, countable, count_of_all))

-- a write that failed stands for one fault
at_most_one : (failed : Option entries) → faults_of failed ≤ 1
at_most_one None = omega arith
at_most_one (Some entry) = omega arith

-- what stays when the history grows by one mark of an entry that was tried
pub record Continues {D : Type 0} {G : Ghosts D} (old new : AccountState D G) (seat : ℕ) (mark : Mark) : Type 0 where
  pub taken : new.taken.value ≡ old.taken.value
  pub began : new.began.value ≡ old.began.value
  pub limit : new.limit ≡ old.limit
  pub base : new.base ≡ old.base
  pub place : SamePlace old.store new.store
  pub history : history_in new ≡ history_in old ++ (seat, mark) ∷ []
  pub counted : new.marks ≡ old.marks + 1
  pub claims : new.claims.items ≡ old.claims.items

module _ {D : Type 0} {G : Ghosts D} (old new : AccountState D G) (seat : ℕ) (kept : Kept G old) where
  -- each claim is still of the step that was ready
  claims_go_on : (mark : Mark) → Continues old new seat mark → ClaimsReadyStep (base_in old) (history_in old) mark
      → ∥ ClaimsReady (base_in new) (history_in new) ∥₁
  claims_go_on mark goes ready =
      let base : base_in new ≡ base_in old = ap (λ t. base_of t new.limit) goes.taken
      ∙ ap (base_of old.taken.value) goes.limit in
      subst (λ b. ∥ ClaimsReady b (history_in new) ∥₁) (sym base)
      (subst (λ h. ∥ ClaimsReady (base_in old) h ∥₁) (sym goes.history)
      (∥∥₁_map kept.claims (λ claims. claims_more (base_in old) [] (history_in old) seat mark claims ready)))

  -- what the entries are counted from stays
  based_on : (mark : Mark) → Continues old new seat mark → new.base ≡ base_under new.taken.value.base
  based_on mark goes = goes.base ∙ kept.based ∙ ap (λ (t : Held). base_under t.base) (sym goes.taken)

  before_stays : (mark : Mark) → Continues old new seat mark → (base_in new).entries ≡ (base_in old).entries
  before_stays mark goes = ap (λ (t : Held). (made_of t).entries) goes.taken

  -- its mark is counted
  marks_count : (mark : Mark) → Continues old new seat mark → new.marks ≡ length (history_in new)
  marks_count mark goes =
      goes.counted ∙ counted_more (history_in old) seat mark old.marks kept.counted ∙ ap length (sym goes.history)

  -- the same claims stand for those of the history
  stands_on : (mark : Mark) → Continues old new seat mark → (from : Moment)
      → ClaimsStand (history_in old ++ (seat, mark) ∷ []) old.claims.items from
      → ClaimsStand (history_in new) new.claims.items from
  stands_on mark goes from stand =
      subst (λ h. ClaimsStand h new.claims.items from) (sym goes.history)
      (subst (λ claims. ClaimsStand (history_in old ++ (seat, mark) ∷ []) claims from) (sym goes.claims) stand)

  module _ (entry : entries) (ready : List ℕ) (change : Change) (due : IsDueAt old entry ready change)
      (goes : Continues old new seat (Entry entry)) where
    all_more : all_held new ≡ with_entry (all_held old) entry
    all_more =
        let of : List entries → Held = λ es. record { base = old.taken.value.base; entries = es } in
        ap (λ (t : Held). with_entries t (entries_in (history_in new))) goes.taken
        ∙ ap (λ h. with_entries old.taken.value (entries_in h)) goes.history
        ∙ ap (λ es. with_entries old.taken.value es) (entries_more (history_in old) seat (Entry entry))
        ∙ ap of (sym (append_assoc old.taken.value.entries (entries_in (history_in old)) (entry ∷ [])))

    module _ (table : new.table ≡ changed (sweep old.table entry.moment) change) (last : new.last ≡ entry.moment)
        (made : new.made ≡ old.made + 1) (none : new.failed.value ≡ None) (sound : Sound new.table)
        (added : new.entries.items ≡ old.entries.items ++ entry ∷ [])
        (wrote : WritesAs old.store entry new.store written.Ok)
        (count : G.faults (disk_in old) ≤ G.faults (disk_in new))
      where
        state_new : state_in new ≡ state_at (base_in new) (history_in new)
        state_new =
            let rows : new.table ≡ effect old.table entry = table ∙ due.makes in
            let before = before_stays (Entry entry) goes in
            let step : state_in new ≡ state_with (state_in old) entry = λ i. record {
              rows = rows i;
              last = last i;
              before = before i;
              made = made i;
              bytes = wrote.1 i;
              limit = goes.limit i;
            } in
            let there : state_at (base_in new) (history_in new)
            ≡ state_at (base_in old) (history_in old ++ (seat, Entry entry) ∷ []) =
            ap (λ t. state_at (base_of t new.limit) (history_in new)) goes.taken
            ∙ ap (λ l. state_at (base_of old.taken.value l) (history_in new)) goes.limit
            ∙ ap (state_at (base_in old)) goes.history in
            step ∙ ap (λ s. state_with s entry) kept.state
            ∙ sym (state_more (base_in old) (history_in old) seat entry) ∙ sym there

        faults_new : min (G.faults new.began.value + faults_in (history_in new)) count_limit ≤ G.faults (disk_in new)
        faults_new =
            let began : G.faults new.began.value ≡ G.faults old.began.value = ap G.faults goes.began in
            let same : faults_in (history_in new) ≡ faults_in (history_in old) + 0 =
            ap faults_in goes.history ∙ faults_more (history_in old) seat (Entry entry) in
            omega (arith, began, same, kept.faults, count)

        -- an entry was made
        pub kept_made : Kept G new
        kept_made = record {
          sound = sound;
          bound = subst (λ (m : Moment). m.0 ≤ LAST_READING) (sym last) due.bound;
          within = omega (arith, made, due.counted);
          based = based_on (Entry entry) goes;
          whole = added ∙ ap (λ (es : List entries). es ++ entry ∷ []) kept.whole
              ∙ sym (ap (λ (h : Held). h.entries) all_more);
          counted = marks_count (Entry entry) goes;
          limit = subst (λ (n : ℕ). (9 ≤ n) × (n ≤ JOURNAL_LIMIT)) (sym goes.limit) kept.limit;
          under = goes.place.limit ∙ kept.under ∙ sym goes.limit;
          second = goes.place.format ∙ kept.second;
          state = state_new;
          sure = wrote.0 ∙ ap is_some (sym none);
          holds =
              subst (stores.Holds new.store (all_held new)) (sym none)
              (subst (λ all. stores.Holds new.store all None) (sym all_more)
              (wrote.2 (all_held old) old.failed.value kept.holds));
          lawful =
              subst (λ all. ∥ IsLawful all ∥₁) (sym all_more)
              (∥∥₁_map kept.lawful (λ lawful. lawful_more (all_held old) entry lawful
              (may_follow old kept entry due.later due.legal due.countable) due.bound));
          next = subst (λ f. ∥ MayFollowIf (all_held new) f ∥₁) (sym none) ∣ tt ∣₁;
          told = subst (λ f. faults_of f ≤ faults_in (history_in new)) (sym none) (omega arith);
          faults = faults_new;
          claims = claims_go_on (Entry entry) goes tt;
          stand =
              subst (λ (m : Moment). ClaimsStand (history_in new) new.claims.items m) (sym last)
              (stands_on (Entry entry) goes entry.moment
              (stand_entered (history_in old) old.claims.items old.last seat kept.stand entry entry.moment due.later));
        }

  -- the disk failed, and the history has one fault more
  module _ (goes : Continues old new seat Fault) where
    all_same : all_held new ≡ all_held old
    all_same = ap (λ (t : Held). with_entries t (entries_in (history_in new))) goes.taken
        ∙ ap (λ h. with_entries old.taken.value (entries_in h)) goes.history
        ∙ ap (λ es. with_entries old.taken.value es) (entries_more (history_in old) seat Fault
        ∙ append-nil (entries_in (history_in old)))

    module _ (table : new.table ≡ old.table) (last : new.last ≡ old.last) (made : new.made ≡ old.made)
        (bytes : stores.length_of new.store ≡ stores.length_of old.store) where
      pub state_stays : state_in new ≡ state_in old
      state_stays =
          let before = before_stays Fault goes in
          λ i. record {
            rows = table i;
            last = last i;
            before = before i;
            made = made i;
            bytes = bytes i;
            limit = goes.limit i;
          }

      state_there : state_in new ≡ state_at (base_in new) (history_in new)
      state_there =
          let there : state_at (base_in new) (history_in new)
          ≡ state_at (base_in old) (history_in old ++ (seat, Fault) ∷ []) =
          ap (λ t. state_at (base_of t new.limit) (history_in new)) goes.taken
          ∙ ap (λ l. state_at (base_of old.taken.value l) (history_in new)) goes.limit
          ∙ ap (state_at (base_in old)) goes.history in
          state_stays ∙ kept.state ∙ sym (state_faulted (base_in old) (history_in old) seat) ∙ sym there

      one_more : faults_in (history_in new) ≡ faults_in (history_in old) + 1
      one_more = ap faults_in goes.history ∙ faults_more (history_in old) seat Fault

      module _ (rose : Rose (G.faults (disk_in old)) (G.faults (disk_in new))) where
        faults_risen : min (G.faults new.began.value + faults_in (history_in new)) count_limit ≤ G.faults (disk_in new)
        faults_risen =
            let began : G.faults new.began.value ≡ G.faults old.began.value = ap G.faults goes.began in
            omega (arith, began, one_more, kept.faults, rose)

        pub kept_faulted : new.entries.items ≡ old.entries.items
            → stores.is_unsure new.store ≡ is_some new.failed.value
            → stores.Holds new.store (all_held old) new.failed.value
            → ∥ MayFollowIf (all_held old) new.failed.value ∥₁ → Kept G new
        kept_faulted still sure holds next = record {
          sound = subst Sound (sym table) kept.sound;
          bound = subst (λ (m : Moment). m.0 ≤ LAST_READING) (sym last) kept.bound;
          within = omega (arith, made, kept.within);
          based = based_on Fault goes;
          whole = still ∙ kept.whole ∙ sym (ap (λ (h : Held). h.entries) all_same);
          counted = marks_count Fault goes;
          limit = subst (λ (n : ℕ). (9 ≤ n) × (n ≤ JOURNAL_LIMIT)) (sym goes.limit) kept.limit;
          under = goes.place.limit ∙ kept.under ∙ sym goes.limit;
          second = goes.place.format ∙ kept.second;
          state = state_there;
          sure = sure;
          holds = subst (λ all. stores.Holds new.store all new.failed.value) (sym all_same) holds;
          lawful = subst (λ all. ∥ IsLawful all ∥₁) (sym all_same) kept.lawful;
          next = subst (λ all. ∥ MayFollowIf all new.failed.value ∥₁) (sym all_same) next;
          told = omega (arith, one_more, at_most_one new.failed.value);
          faults = faults_risen;
          claims = claims_go_on Fault goes tt;
          stand =
              subst (λ (m : Moment). ClaimsStand (history_in new) new.claims.items m) (sym last)
              (stands_on Fault goes old.last
              (stand_failed (history_in old) old.claims.items old.last seat kept.stand));
        }
