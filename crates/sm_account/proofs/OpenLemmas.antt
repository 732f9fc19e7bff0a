-- The state of an account that is opened.
use Rattle.std.proofs.Common.{◌≡◌, ℕ, ◌+◌, ◌≤◌, List, [], length, None, is_some, refl, sym, ap, ◌∙◌, subst, append-nil, arith}
use Rattle.sm_base.specs.declared.limits.TheConstants.{JOURNAL_LIMIT}
use Rattle.sm_base.specs.declared.moment.Moment.{Moment}
use Rattle.sm_base.specs.declared.moment.TheConstants.{LAST_READING}
use Rattle.sm_disk.specs.declared.disk.Disk.{Ghosts}
use Rattle.sm_journal.specs.Records.{size}
use Rattle.sm_journal.specs.declared.format.Format.{Format}
use Rattle.sm_journal.specs.declared.format.Format.TheVariants as formats
use Rattle.sm_model.specs.declared.entry.Entry.{Entry}
use Rattle.sm_recovery.specs.Keeping.{StateStays}
use Rattle.sm_recovery.specs.Lawful.{IsLawful, MayFollowIf, base_under, made_of}
use Rattle.sm_recovery.specs.Openings.{Opens}
use Rattle.sm_recovery.specs.declared.opened.Opened.{Opened}
use Rattle.sm_record.specs.declared.base.Base.{Base}
use Rattle.sm_rotator.specs.declared.rotator.Rotator.{Ghosts as RotatorGhosts}
use Rattle.sm_base_check.specs.Bases.{IsSound}
use Rattle.sm_store.specs.Stores as stores
use Rattle.sm_store.specs.Held.{Held, bodies_in, edition_of}
use Rattle.sm_store.specs.declared.store.Store.{Store}
use Rattle.sm_table.specs.Sound.{Sound}
use Rattle.sm_account.specs.declared.account.Account.{Account}
use Rattle.sm_account.specs.declared.account_state.AccountState.{AccountState}
use Rattle.sm_account.specs.Accounts as accounts
use Rattle.sm_account.specs.AccountState.{FaultsBound, faults_of, Kept, all_held, base_in, disk_in, history_in, state_in, with_entries}
use Rattle.sm_account.specs.Claims.{ClaimsReady, ClaimsStand}
use Rattle.sm_account.specs.History.{entries_in, faults_in}
use Rattle.sm_account.specs.Openings.{IsAccountStateOver, IsOpenedOver, TakenFrom}
use Rattle.sm_account.specs.States.{base_of, state_after, state_at}

-- what each part of the account's state is made of
pub record AreOver {D : Type 0} {G : Ghosts D} (opened : Opened D G) (limit : ℕ) (inner : AccountState D G) : Type
    0 where
  pub table : inner.table ≡ opened.replayed.rows
  pub store_is : inner.store ≡ opened.store
  pub based : inner.base ≡ base_under opened.taken.base
  pub entries_are : inner.entries.items ≡ opened.taken.entries
  pub claims_are : inner.claims.items ≡ []
  pub history_is : history_in inner ≡ []
  pub marks : inner.marks ≡ 0
  pub last : inner.last ≡ opened.replayed.last
  pub made : inner.made ≡ 0
  pub limit_is : inner.limit ≡ limit
  pub taken_is : inner.taken.value ≡ opened.taken
  pub failed : inner.failed.value ≡ None

module _ {D : Type 0} {G : Ghosts D} (opened : Opened D G) (limit : ℕ)
    (store : stores.IsOpened limit opened.taken opened.store)
    (second : stores.format_of opened.store ≡ formats.Second)
    (lawful : IsLawful opened.taken) (replayed : opened.replayed ≡ made_of opened.taken) (inner : AccountState D G)
    (limits : (9 ≤ limit) × (limit ≤ JOURNAL_LIMIT)) (is : AreOver opened limit inner)
    (sound : IsSound opened.replayed)
    (later : G.faults inner.began.value ≤ G.faults (stores.disk_of opened.store)) where
  -- nothing stands behind it yet
  all_is : all_held inner ≡ opened.taken
  all_is =
      let of : List Entry → Held = λ es. record { base = opened.taken.base; entries = es } in
      ap (λ (t : Held). with_entries t (entries_in (history_in inner))) is.taken_is
      ∙ ap (λ h. with_entries opened.taken (entries_in h)) is.history_is ∙ ap of (append-nil opened.taken.entries)

  length_is : stores.length_of opened.store ≡ 9 + size (bodies_in (edition_of formats.Second) opened.taken)
  length_is = store.holds.stands.length ∙ ap (λ (f : Format). 9 + size (bodies_in (edition_of f) opened.taken)) second

  state_is : state_in inner ≡ state_at (base_in inner) (history_in inner)
  state_is =
      let rows = is.table ∙ ap (λ (b : Base). b.rows) replayed in
      let last = is.last ∙ ap (λ (b : Base). b.last) replayed in
      let before = ap (λ (t : Held). (made_of t).entries) is.taken_is in
      let bytes : stores.length_of inner.store ≡ 9 + size (bodies_in (edition_of formats.Second) opened.taken) + 0 =
      omega (arith, ap (λ (s : Store D G). stores.length_of s) is.store_is, length_is) in
      let step : state_in inner ≡ state_after (base_of opened.taken limit) [] = λ i. record {
        rows = rows i;
        last = last i;
        before = before i;
        made = is.made i;
        bytes = bytes i;
        limit = is.limit_is i;
      } in
      let there : state_at (base_in inner) (history_in inner) ≡ state_after (base_of opened.taken limit) [] =
      ap (λ (t : Held). state_at (base_of t inner.limit) (history_in inner)) is.taken_is
      ∙ ap (λ l. state_at (base_of opened.taken l) (history_in inner)) is.limit_is
      ∙ ap (state_at (base_of opened.taken limit)) is.history_is in
      step ∙ sym there

  holds_is : stores.Holds inner.store (all_held inner) inner.failed.value
  holds_is =
      subst (stores.Holds inner.store (all_held inner)) (sym is.failed)
      (subst (λ all. stores.Holds inner.store all None) (sym all_is)
      (subst (λ s. stores.Holds s opened.taken None) (sym is.store_is) store.holds))

  faults_is : FaultsBound (G.faults inner.began.value) (history_in inner) (G.faults (disk_in inner))
  faults_is =
      let none : faults_in (history_in inner) ≡ 0 = ap faults_in is.history_is in
      let same : G.faults (disk_in inner) ≡ G.faults (stores.disk_of opened.store) =
      ap (λ (s : Store D G). G.faults (stores.disk_of s)) is.store_is in
      omega (arith, none, same, later)

  pub opened_kept : Kept G inner
  opened_kept = record {
    sound = subst Sound (sym is.table) sound.rows;
    bound = subst (λ (m : Moment). m.0 ≤ LAST_READING) (sym is.last) sound.last;
    within = omega (arith, is.made);
    based = is.based ∙ ap (λ (t : Held). base_under t.base) (sym is.taken_is);
    whole = is.entries_are ∙ sym (ap (λ (h : Held). h.entries) all_is);
    counted = is.marks ∙ ap length (sym is.history_is);
    limit = subst (λ (n : ℕ). (9 ≤ n) × (n ≤ JOURNAL_LIMIT)) (sym is.limit_is) limits;
    under = ap (λ (s : Store D G). stores.limit_of s) is.store_is ∙ store.under ∙ sym is.limit_is;
    second = ap (λ (s : Store D G). stores.format_of s) is.store_is ∙ second;
    state = state_is;
    sure = ap (λ (s : Store D G). stores.is_unsure s) is.store_is ∙ store.sure ∙ ap is_some (sym is.failed);
    holds = holds_is;
    lawful = ∣ subst IsLawful (sym all_is) lawful ∣₁;
    next = subst (λ f. ∥ MayFollowIf (all_held inner) f ∥₁) (sym is.failed) ∣ tt ∣₁;
    told = subst (λ f. faults_of f ≤ faults_in (history_in inner)) (sym is.failed) (omega arith);
    faults = faults_is;
    claims = subst (λ h. ∥ ClaimsReady (base_in inner) h ∥₁) (sym is.history_is) ∣ tt ∣₁;
    stand =
        subst (λ h. ClaimsStand h inner.claims.items inner.last) (sym is.history_is)
        (subst (λ claims. ClaimsStand [] claims inner.last) (sym is.claims_are) (λ arn job moment after. refl));
  }

-- the account over such state
module _ {D R : Type 0} {G : Ghosts D} {V : RotatorGhosts R} (opened : Opened D G) (disk : D) (limit doors : ℕ)
    (inner : AccountState D G) (account : Account D R G V) (same : account.inner ≡ inner)
    (are : IsAccountStateOver G opened disk limit inner) where
  taken_is : accounts.taken account ≡ opened.taken
  taken_is = ap (λ (b : AccountState D G). b.taken.value) same ∙ are.taken_is

  disk_is : accounts.disk account ≡ stores.disk_of opened.store
  disk_is = ap (λ (b : AccountState D G). stores.disk_of b.store) same
      ∙ ap (λ (s : Store D G). stores.disk_of s) are.store_is

  pub opened_over : account.doors ≡ doors → account.doors_at_opening ≡ doors → IsOpenedOver disk doors limit account
  opened_over are_open at_opening = record {
    history_is = ap history_in same ∙ are.history_is;
    base_is = ap (base_of (accounts.taken account)) (ap (λ (b : AccountState D G). b.limit) same ∙ are.limit_is);
    began_is = ap (λ (b : AccountState D G). b.began.value) same ∙ are.began_is;
    sure = ap (λ (b : AccountState D G). b.failed.value) same ∙ are.sure;
    doors_are = are_open;
    doors_at_opening_are = at_opening;
  }

  pub taken_over : Opens disk limit opened → StateStays (G.sight disk) (G.sight (stores.disk_of opened.store))
      → G.faults (stores.disk_of opened.store) ≡ G.faults disk
      → TakenFrom G disk limit (accounts.taken account) (accounts.disk account)
  taken_over opens stays stay = record {
    format = opens.format;
    held = opens.held;
    found = opens.found;
    takes = taken_is ∙ opens.takes.taken;
    stays = subst (λ d. StateStays (G.sight disk) (G.sight d)) (sym disk_is) stays;
    later = omega (arith, ap G.faults disk_is, stay);
    no_other = ap G.faults disk_is ∙ stay;
  }
