-- What an opening takes, from what its parts give.
use Rattle.std.proofs.Common.{◌≡◌, ◌⊎◌, inl, inr, ⊎_elim, ℕ, ◌+◌, ◌^◌, ◌<◌, ◌≤◌, List, [], map, length, Option, Some, None, IfSome, refl, sym, ap, subst, ◌∙◌, append-nil, arith}
use Rattle.std.specs.Prelude.{IfErr, Result, Ok, Err}
use Rattle.sm_base.proofs.FaultCounts.{rose_within}
use Rattle.sm_encoded_size.specs.Files.{file_size}
use Rattle.sm_disk.specs.AllFiles.{LeavesBy}
use Rattle.sm_disk.specs.Sight.{Image}
use Rattle.sm_disk.specs.declared.disk.Disk.{Ghosts}
use Rattle.sm_disk.proofs.AllRuns.{weaker_by}
use Rattle.sm_journal.specs.Records.{size, place_behind, Short}
use Rattle.sm_journal.specs.Roots.{named}
use Rattle.sm_journal.specs.declared.answers.OpenRefused.{OpenRefused}
use Rattle.sm_journal.specs.declared.answers.OpenRefused.TheVariants.{Damaged, Failed, Memory}
use Rattle.sm_journal.specs.declared.format.Format.{Format}
use Rattle.sm_journal.specs.declared.parse.Damage.{Damage}
use Rattle.sm_journal.specs.declared.format.Format.TheVariants.{First, Second}
use Rattle.sm_journal.specs.declared.root.TheConstants.{ROOT}
use Rattle.sm_record.specs.Snapshots.{snapshot}
use Rattle.sm_record.specs.declared.base.Base.{Base}
use Rattle.sm_record.specs.declared.edition.Edition.TheVariants as editions
use Rattle.sm_store.proofs.StoreStands.{holds_recover}
use Rattle.sm_store.proofs.FrontLaws.{begins_whole}
use Rattle.sm_store.proofs.HeldLaws.{one_held}
use Rattle.sm_store.specs.Files.{nothing_held, HoldsAs, active}
use Rattle.sm_store.specs.Openings.{held_of, ReadsActive, ListsStay, IsRefusedBy, IsUnopened}
use Rattle.sm_store.specs.Stores.{disk_of, format_of, length_of, bodies_edition, disk_in, HoldsJust, Holds, IsOpened, IsStopped}
use Rattle.sm_store.specs.Held.{Held, only, edition_of, bodies_in, Recovered, HeldOr, HeldNew}
use Rattle.sm_store.specs.declared.store.Store.{Store}
use Rattle.sm_store.specs.Loading.{IsNoBase}
use Rattle.sm_store.specs.declared.loading.Loaded.{Loaded}
use Rattle.sm_store.specs.declared.unopened.Front.{Front}
use Rattle.sm_store.specs.declared.unopened.Unopened.TheVariants.{NoEntry}
use Rattle.sm_recovery.proofs.KeepingLaws.{stays_itself, lists_keep, files_keep, replacing_keeps, keeps_join}
use Rattle.sm_recovery.proofs.LawfulLaws.{new_is}
use Rattle.sm_recovery.specs.Keeping.{OneHeld, StateStays}
use Rattle.sm_recovery.specs.Lawful.{made_of, IsLawful}
use Rattle.sm_recovery.specs.Openings.{Opens, TakesOver, IsUntaken, IsRefused}
use Rattle.sm_recovery.specs.Unlawful.{IsFirstFault}
use Rattle.sm_recovery.specs.Replacing.{new_base, taken_with, lengths_with}
use Rattle.sm_recovery.specs.declared.opened.Opened.{Opened}

-- two facts of why a call failed
pub both_err : {T E : Type 0} {P Q R : E → Type 0} (r : Result T E) → ((x : E) → P x → Q x → R x) → IfErr r P
    → IfErr r Q → IfErr r R
both_err (Ok x) both p q = tt
both_err (Err e) both p q = both e p q

-- what a store holds is far from too long
pub holds_short : {D : Type 0} {G : Ghosts D} (store : Store D G) (h : Held) → Holds store h None
    → place_behind (bodies_in (bodies_edition store) h) < 2 ^ 64
holds_short store h holds = omega (arith, holds.stands.length, store.journal.fits)

-- ---- a base in the place of what was found

-- an image recovers to one thing
one_recovered : OneHeld
one_recovered c a b left right = one_held (active c) a b left right

-- the file that has a base alone is as long as one is
pub new_length : {D : Type 0} {G : Ghosts D} (store : Store D G) (limit : ℕ) (base : Base)
    → IsOpened limit (only base) store → format_of store ≡ Second → length_of store ≡ file_size base
new_length store limit base opened second =
    let bodies : bodies_in (bodies_edition store) (only base) ≡ snapshot editions.Second base =
    ap (λ f. bodies_in (edition_of f) (only base)) second ∙ append-nil (snapshot editions.Second base) in
    opened.holds.stands.length ∙ ap (λ (b : List (List ℕ)). 9 + size b) bodies

module _ {D : Type 0} (G : Ghosts D) (store : Store D G) (base : Base) (now : D) (h : Held)
    (holds : Holds store h None) (makes : made_of h ≡ base) where
  -- while a base takes the place of what a store holds, the state stays
  pub base_keeps : LeavesBy (HeldOr h (only base)) (HeldOr h (only base)) (G.sight (disk_of store)) (G.sight now)
      → StateStays (G.sight (disk_of store)) (G.sight now)
  base_keeps run =
      replacing_keeps G one_recovered h (disk_of store) now (λ c image. holds_recover store h None holds c image)
      (subst (λ b. LeavesBy (HeldOr h (only b)) (HeldOr h (only b)) (G.sight (disk_of store)) (G.sight now)) (sym makes)
      run)

  -- and where it has taken it
  pub new_keeps : LeavesBy (HeldOr h (only base)) (HeldNew (only base)) (G.sight (disk_of store)) (G.sight now)
      → StateStays (G.sight (disk_of store)) (G.sight now)
  new_keeps run = base_keeps
      (weaker_by (HeldOr h (only base)) (HeldNew (only base)) (HeldOr h (only base)) (HeldOr h (only base))
      (G.sight (disk_of store)) (G.sight now) (λ d c was or. or) (λ d c was image new. inr new) run)

-- ---- what is taken

pub new_as : (f g : Format) (limit m n : ℕ) (a b : Base) (new : Option Base) → new ≡ new_base f limit m a → f ≡ g
    → m ≡ n → a ≡ b → new ≡ new_base g limit n b
new_as f g limit m n a b new is format count made =
    is ∙ ap (λ (h : Format). new_base h limit m a) format ∙ ap (λ (k : ℕ). new_base g limit k a) count
    ∙ ap (λ (c : Base). new_base g limit n c) made

pub new_made : (format : Format) (limit behind : ℕ) (state base : Base)
    → Some base ≡ new_base format limit behind state → state ≡ base
new_made format limit behind state base new =
    sym (subst (λ (o : Option Base). IfSome o (λ b. b ≡ state)) (sym new) (new_is format limit behind state))

-- only a file of the second format is left as it is
second_of : (format : Format) (limit behind : ℕ) (state : Base) → None ≡ new_base format limit behind state
    → format ≡ Second
second_of First limit behind state none = absurd (none_is_some state none)
  where
    none_is_some : (b : Base) → ◌≡◌ {A = Option Base} None (Some b) → ⊥
    none_is_some b same = cc
second_of Second limit behind state none = refl

module _ {D : Type 0} {G : Ghosts D} (store : Store D G) (h : Held) (limit : ℕ) (holds : IsOpened limit h store)
    (opened : Opened D G) (replayed : opened.replayed ≡ made_of h) where
  -- what was found
  pub takes_found : None ≡ new_base (format_of store) limit (length h.entries) (made_of h)
      → opened.store ≡ store → opened.taken ≡ h → opened.replaced ≡ None → TakesOver (format_of store) h limit opened
  takes_found none same taken replaced = record {
    taken = taken ∙ ap (taken_with h) none;
    replayed = replayed;
    store = subst (λ s. IsOpened limit opened.taken s) (sym same)
        (subst (λ t. IsOpened limit t store) (sym taken) holds);
    second = ap format_of same ∙ second_of (format_of store) limit (length h.entries) (made_of h) none;
    replaced = replaced ∙ ap (lengths_with (format_of store) h) none;
  }

  -- or a base in its place
  pub takes_base : (base : Base) → Some base ≡ new_base (format_of store) limit (length h.entries) (made_of h)
      → IsOpened limit (only base) opened.store → format_of opened.store ≡ Second → opened.taken ≡ only base
      → opened.replaced ≡ Some (length_of store, file_size base) → TakesOver (format_of store) h limit opened
  takes_base base new at second taken replaced = record {
    taken = taken ∙ ap (taken_with h) new;
    replayed = replayed;
    store = subst (λ t. IsOpened limit t opened.store) (sym taken) at;
    second = second;
    replaced = replaced ∙ ap (λ n. Some (n, file_size base)) holds.holds.stands.length
        ∙ ap (lengths_with (format_of store) h) new;
  }

-- ---- why it is not taken

pub untaken_as : {D : Type 0} {G : Ghosts D} (store : Store D G) (h : Held) (refused : OpenRefused D)
    → IsStopped G (disk_of store) refused → StateStays (G.sight (disk_of store)) (G.sight (disk_in refused))
    → IsUntaken store h refused
untaken_as store h (Damaged now damage) stopped stays = absurd stopped
untaken_as store h (Failed now) stopped stays = (stopped, stays)
untaken_as store h (Memory now) stopped stays = (stopped, stays)

-- a disk that is handed back as it was
pub stays_back : {D : Type 0} (G : Ghosts D) (disk now : D)
    → ((c : Image) → (G.sight disk).left_since (G.sight disk).moment c → (G.sight disk).images c) → now ≡ disk
    → StateStays (G.sight disk) (G.sight now)
stays_back G disk now only_now same =
    subst (λ d. StateStays (G.sight disk) (G.sight d)) (sym same) (stays_itself G disk only_now)

-- ---- the whole opening

module _ {D : Type 0} (G : Ghosts D) (old : D) (store : Store D G) (loaded : Loaded) (limit : ℕ)
    (lists : ListsStay (G.sight old) (G.sight (disk_of store))) (stay : G.faults (disk_of store) ≡ G.faults old)
    (reads : ReadsActive (HoldsAs (format_of store) (held_of loaded)) (G.sight old)) where
  pub opens : ((s : Image) → (G.sight old).reads s → Short (active s)
      → HoldsJust store nothing_held × (format_of store ≡ Second))
      → IsLawful (held_of loaded) → (opened : Opened D G) → TakesOver (format_of store) (held_of loaded) limit opened
      → Opens old limit opened
  opens whole lawful opened takes = record {
    format = format_of store;
    held = held_of loaded;
    found = record { reads = reads; short = λ s read short. (whole s read short).1; lawful = lawful };
    takes = takes;
  }

  pub stays_on : (now : D) → StateStays (G.sight (disk_of store)) (G.sight now)
      → StateStays (G.sight old) (G.sight now)
  stays_on now stays = keeps_join G old (disk_of store) now (lists_keep G old (disk_of store) lists) stays

  faults_kept : (now : D) → now ≡ disk_of store → G.faults now ≡ G.faults old
  faults_kept now is = ap G.faults is ∙ stay

  pub refused_taking : (refused : OpenRefused D) → IsUntaken store (held_of loaded) refused → IsRefused G old refused
  refused_taking (Damaged now damage) why = record {
    cause = inr (
      subst (λ d. ListsStay (G.sight old) (G.sight d)) (sym why.0) lists,
      λ s read. (
        format_of store,
        bodies_in (bodies_edition store) (held_of loaded),
        (reads s read).0,
        inr (inl (held_of loaded, begins_whole (bodies_edition store) (held_of loaded) (reads s read).1, why.1)),
      ),
    );
    stays = subst (λ d. StateStays (G.sight old) (G.sight d)) (sym why.0) (lists_keep G old (disk_of store) lists);
    later = omega (arith, faults_kept now why.0);
    no_other = faults_kept now why.0;
  }
  refused_taking (Failed now) why = record {
    cause = rose_within _ _ _ _ (omega (arith, stay)) why.0.1 (omega arith);
    stays = stays_on now why.1;
    later = omega (arith, stay, why.0.0);
    no_other = tt;
  }
  refused_taking (Memory now) why = record {
    cause = tt;
    stays = stays_on now why.1;
    later = omega (arith, stay, why.0);
    no_other = why.0 ∙ stay;
  }

-- why the store isn't opened
pub refused_opening : {D : Type 0} (G : Ghosts D) (old : D) (refused : OpenRefused D)
    → IsRefusedBy IsNoBase G old refused → IsRefused G old refused
refused_opening G old (Damaged now damage) why = record {
  cause = ⊎_elim inl
      (λ baseless. inr (
        baseless.0,
        λ s read. let has = baseless.1 s read in (has.0, has.1, has.2, inl has.3),
      ))
      why.0;
  stays = ⊎_elim (λ broken. files_keep G old now broken.0) (λ baseless. lists_keep G old now baseless.0) why.0;
  later = omega (arith, why.1);
  no_other = why.1;
}
refused_opening G old (Failed now) why =
    record { cause = why.2; stays = lists_keep G old now why.0; later = why.1; no_other = tt }
refused_opening G old (Memory now) why = record {
  cause = tt;
  stays = lists_keep G old now why.0;
  later = omega (arith, why.1);
  no_other = why.1;
}

-- where a body is no entry's spelling, the first fault is told
module _ {D : Type 0} (G : Ghosts D) (old now : D) (front : Front) (why : IsUnopened G old (NoEntry now front)) where
  pub damaged_behind : (damage : Damage)
      → IsFirstFault (edition_of front.format) why.2 damage.at damage.entry → IsRefused G old (Damaged now damage)
  damaged_behind damage fault = record {
    cause = inr (why.0, λ s read. (front.format, why.2, why.4 s read, fault));
    stays = lists_keep G old now why.0;
    later = omega (arith, why.1);
    no_other = why.1;
  }

  pub memory_behind : IsRefused G old (Memory now)
  memory_behind = record {
    cause = tt;
    stays = lists_keep G old now why.0;
    later = omega (arith, why.1);
    no_other = why.1;
  }
