-- What a checkpoint leaves, from what its parts leave.
use Rattle.std.proofs.Common.{◌≡◌, ◌≢◌, ◌⊎◌, ℕ, ◌==◌, Bool, true, false, cond, List, get_or, None, refl, sym, ap, subst, ◌∙◌, inl, inr, ⊎_elim, append-nil, arith}
use Rattle.std.specs.Option.{option_map}
use Rattle.std.specs.Prelude.{IfOk, Result, Ok, Err}
use Rattle.sm_disk.specs.Sight.{Image, Sight}
use Rattle.sm_disk.specs.Steps.{OnFile}
use Rattle.sm_disk.specs.OneFile.{EachHas, Anyhow, Leaves}
use Rattle.sm_disk.specs.AllFiles.{LeavesBy}
use Rattle.sm_disk.proofs.AllRuns.{by_file, weaker_by, joined_by, others_stay}
use Rattle.sm_journal.specs.Records.{Recovers}
use Rattle.sm_journal.specs.Roots.{named, AllName}
use Rattle.sm_journal.specs.declared.format.Format.{Format}
use Rattle.sm_journal.specs.declared.format.Format.TheVariants as formats
use Rattle.sm_journal.specs.declared.root.TheConstants.{ROOT}
use Rattle.sm_record.specs.declared.base.Base.{Base}
use Rattle.sm_record.specs.declared.edition.Edition.TheVariants as editions
use Rattle.sm_record.specs.Snapshots.{snapshot, HasSnapshot}
use Rattle.sm_record.specs.Spelling.{spelling}
use Rattle.sm_disk.specs.declared.disk.Disk.{Ghosts}
use Rattle.sm_journal.specs.Journals as journals
use Rattle.sm_journal.specs.declared.journal.Journal.{Journal}
use Rattle.sm_store.specs.Held.{edition_of, Held, only, bodies_in, IsSpelledIn, HoldsFile, Recovered, HeldOr, HeldNew, AreTwo}
use Rattle.sm_store.specs.Stores.{disk_of, format_of, bodies_edition, Holds}
use Rattle.sm_store.specs.declared.store.Store.{Store}

-- what recovers to the bodies of a base alone has the base
pub only_held : (base : Base) (f : Format) (bytes : List ℕ) → HasSnapshot editions.Second base → f ≡ formats.Second
    → Recovers bytes f (snapshot editions.Second base) → HoldsFile (only base) bytes
only_held base f bytes fits is has = (
  formats.Second,
  subst (Recovers bytes formats.Second) (sym (append-nil (snapshot editions.Second base)))
      (subst (λ (g : Format). Recovers bytes g (snapshot editions.Second base)) is has),
  record { base = fits; entries = tt },
)

-- the file that a root names is one of the two
is_two : (bytes : List ℕ) → (named bytes ≡ 0) ⊎ (named bytes ≡ 1)
is_two bytes = by (get_or bytes 0 0 == 1)
  where
    by : (test : Bool) → (◌≡◌ {A = ℕ} (cond test 1 0) 0) ⊎ (◌≡◌ {A = ℕ} (cond test 1 0) 1)
    by true = inr refl
    by false = inl refl

module _ (h new : Held) (file other : ℕ) (two : AreTwo file other) where
  other_file : other ≢ file
  other_file same = ⊎_elim (λ here. absurd (omega (arith, here.0, here.1, same)))
      (λ here. absurd (omega (arith, here.0, here.1, same))) two

  not_file : file ≢ other
  not_file same = other_file (sym same)

  not_root : ROOT ≢ other
  not_root same = ⊎_elim (λ here. absurd (omega (arith, here.1, same))) (λ here. absurd (omega (arith, here.1, same)))
      two

  file_not_root : file ≢ ROOT
  file_not_root same = ⊎_elim (λ here. absurd (omega (arith, here.0, same)))
      (λ here. absurd (omega (arith, here.0, same)))
      two

  other_not_root : other ≢ ROOT
  other_not_root same = not_root (sym same)

  either_named : (bytes : List ℕ) → (named bytes ≡ file) ⊎ (named bytes ≡ other)
  either_named bytes = ⊎_elim
      (λ here. ⊎_elim (λ zero_is. inl (zero_is ∙ sym here.0)) (λ one_is. inr (one_is ∙ sym here.1)) (is_two bytes))
      (λ here. ⊎_elim (λ zero_is. inr (zero_is ∙ sym here.1)) (λ one_is. inl (one_is ∙ sym here.0)) (is_two bytes))
      two

  recovered_at : (g : Held) (n : ℕ) (c : Image) → named (c ROOT) ≡ n → HoldsFile g (c n) → Recovered g c
  recovered_at g n c is holds = subst (λ (m : ℕ). HoldsFile g (c m)) (sym is) holds

  module _ (old mid : Sight) (names : AllName file old.images) (holds : EachHas file (HoldsFile h) old.images)
      (run : Leaves other Anyhow Anyhow old mid) where
    stays : (d c : Image) → old.images d → OnFile other Anyhow d c → Recovered h c
    stays d c was on = recovered_at h file c (ap named (on.others ROOT not_root) ∙ names d was)
        (subst (HoldsFile h) (sym (on.others file not_file)) (holds d was))

    -- while the other file is made
    pub made : LeavesBy (HeldOr h new) (λ d c. Recovered h c) old mid
    made = weaker_by (OnFile other Anyhow) (OnFile other Anyhow) (HeldOr h new) (λ d c. Recovered h c) old mid
        (λ d c was on. inl (stays d c was on)) (λ d c was image on. stays d c was on)
        (by_file other Anyhow Anyhow old mid run)

    -- where that was refused
    pub unmade : LeavesBy (HeldOr h new) (HeldOr h new) old mid
    unmade = weaker_by (OnFile other Anyhow) (OnFile other Anyhow) (HeldOr h new) (HeldOr h new) old mid
        (λ d c was on. inl (stays d c was on)) (λ d c was image on. inl (stays d c was on))
        (by_file other Anyhow Anyhow old mid run)

    module _ (now : Sight) (sealed : EachHas other (HoldsFile new) mid.images)
        (rooted : Leaves ROOT Anyhow Anyhow mid now) where
      still : EachHas file (HoldsFile h) mid.images
      still = others_stay other file Anyhow Anyhow (HoldsFile h) old mid not_file run holds

      either : (m c : Image) → mid.images m → OnFile ROOT Anyhow m c → HeldOr h new m c
      either m c image on = ⊎_elim
          (λ is. inl (recovered_at h file c is
          (subst (HoldsFile h) (sym (on.others file file_not_root)) (still m image))))
          (λ is. inr (recovered_at new other c is
          (subst (HoldsFile new) (sym (on.others other other_not_root)) (sealed m image))))
          (either_named (c ROOT))

      after : (m c : Image) → mid.images m → named (c ROOT) ≡ other → OnFile ROOT Anyhow m c → Recovered new c
      after m c image is on = recovered_at new other c is
          (subst (HoldsFile new) (sym (on.others other other_not_root)) (sealed m image))

      -- while the root is written, and where that failed
      pub unrooted : LeavesBy (HeldOr h new) (HeldOr h new) old now
      unrooted = joined_by (HeldOr h new) (λ d c. Recovered h c) (OnFile ROOT Anyhow) (OnFile ROOT Anyhow)
          (HeldOr h new)
          (HeldOr h new) old mid now made (by_file ROOT Anyhow Anyhow mid now rooted) (λ d c was by. by)
          (λ d m c was image by on. either m c image on) (λ d m c was image here by on. either m c image on)

      -- once the root names the new file
      pub checkpointed : AllName other now.images → LeavesBy (HeldOr h new) (HeldNew new) old now
      checkpointed all = joined_by (HeldOr h new) (λ d c. Recovered h c) (OnFile ROOT Anyhow) (OnFile ROOT Anyhow)
          (HeldOr h new) (HeldNew new) old mid now made (by_file ROOT Anyhow Anyhow mid now rooted) (λ d c was by. by)
          (λ d m c was image by on. either m c image on)
          (λ d m c was image here by on. after m c image (all c here) on)

module _ {D : Type 0} {G : Ghosts D} (store : Store D G) (base : Base) (fits : HasSnapshot editions.Second base)
    (second : format_of store ≡ formats.Second) where
  edition_is : bodies_edition store ≡ editions.Second
  edition_is = ap edition_of second

  -- a store whose journal has the bodies of a base alone
  pub holds_only : journals.Stands store.journal (snapshot editions.Second base) None
      → AllName store.file (G.sight (disk_of store)).images → Holds store (only base) None
  holds_only stands names = record {
    stands = subst (λ e. journals.Stands store.journal (bodies_in e (only base)) (option_map (spelling e) None))
        (sym edition_is)
        (subst (λ (bodies : List (List ℕ)). journals.Stands store.journal bodies None)
        (sym (append-nil (snapshot editions.Second base))) stands);
    spelled = subst (λ e. IsSpelledIn e (only base)) (sym edition_is) (record { base = fits; entries = tt });
    last = tt;
    named = names;
  }

-- what each image of a store's disk has in the store's file
pub file_holds : {D : Type 0} {G : Ghosts D} (store : Store D G) (h : Held) → Holds store h None
    → EachHas store.file (HoldsFile h) (G.sight (disk_of store)).images
file_holds {D} {G} store h holds = subst (λ file. EachHas file (HoldsFile h) (G.sight (disk_of store)).images)
    store.in_file (λ c was. (format_of store, holds.stands.recovers c was, holds.spelled))

-- what each image has in a file that is sealed with a base
pub sealed_holds : {D : Type 0} {G : Ghosts D} (file limit : ℕ) (base : Base) (journal : Journal D G)
    → HasSnapshot editions.Second base → journals.format_of journal ≡ formats.Second
    → journals.IsOpened file limit (snapshot editions.Second base) journal
    → EachHas file (HoldsFile (only base)) (G.sight (journals.disk_of journal)).images
sealed_holds {D} {G} file limit base journal fits second opened =
    subst (λ f. EachHas f (HoldsFile (only base)) (G.sight (journals.disk_of journal)).images) opened.in_file
    (λ c was. only_held base (journals.format_of journal) (c journal.file) fits second (opened.stands.recovers c was))

-- two facts of what a call gave
pub both_ok : {T E : Type 0} {P Q R : T → Type 0} (r : Result T E) → ((x : T) → P x → Q x → R x) → IfOk r P → IfOk r Q
    → IfOk r R
both_ok (Ok x) both p q = both x p q
both_ok (Err e) both p q = tt
