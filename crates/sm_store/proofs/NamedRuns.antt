-- What opening the file that the root names leaves, from what its two runs leave.
use Rattle.std.proofs.Common.{◌≡◌, ◌≢◌, ℕ, ◌≤◌, List, sym, ap, subst, ◌∙◌, inl, inr, ⊎_elim, arith}
use Rattle.sm_base.proofs.FaultCounts.{rose_within}
use Rattle.sm_disk.specs.Sight.{Image, Sight}
use Rattle.sm_disk.specs.Steps.{OnFile, Same, Keeps}
use Rattle.sm_disk.specs.OneFile.{Leaves}
use Rattle.sm_disk.specs.declared.disk.Disk.{Ghosts}
use Rattle.sm_disk.proofs.AllRuns.{by_file, weaker_by, joined_by}
use Rattle.sm_disk.proofs.Runs.{all_same}
use Rattle.sm_journal.specs.Openings.{Equal, ReadsAs}
use Rattle.sm_journal.specs.Records.{IsDamaged, Recovers, SameList}
use Rattle.sm_journal.specs.Roots.{named, AllName}
use Rattle.sm_journal.specs.declared.answers.OpenRefused.{OpenRefused}
use Rattle.sm_journal.specs.declared.answers.OpenRefused.TheVariants.{Damaged, Failed, Memory}
use Rattle.sm_journal.specs.declared.root.TheConstants.{ROOT}
use Rattle.sm_store.specs.Files.{HasFault, KeepsList}
use Rattle.sm_store.specs.Openings.{held_of, ReadsActive, AllStay, ListsStay, IsRefusedBy, IsOpenRefused, IsUnopened, IsRefusedIn, IsUnopenedIn}
use Rattle.sm_store.specs.Held.{HoldsFile, SameHeld}
use Rattle.sm_store.specs.Loading.{IsNoBase}
use Rattle.sm_store.specs.declared.unopened.Front.{Front}
use Rattle.sm_store.specs.declared.unopened.Unopened.{Unopened}
use Rattle.sm_store.specs.declared.unopened.Unopened.TheVariants.{NoEntry, Refused}

-- files that stay keep their lists
same_list : (x y : List ℕ) → y ≡ x → SameList x y
same_list x y same f bodies has = subst (λ (b : List ℕ). Recovers b f bodies) (sym same) has

all_stay_keeps : (d c : Image) → Same d c → KeepsList d c
all_stay_keeps d c same = record {
  changed = same_list (d (named (d ROOT))) (c (named (d ROOT))) (same (named (d ROOT)));
  others = λ other ne. same other;
}

-- a root that is read or synced
root_stays : (d c : Image) → OnFile ROOT Equal d c → KeepsList d c
root_stays d c on = all_stay_keeps d c (all_same ROOT d c on)

pub lists_stay_by_root : (old now : Sight) → Leaves ROOT Equal Equal old now → ListsStay old now
lists_stay_by_root old now run =
    weaker_by (OnFile ROOT Equal) (OnFile ROOT Equal) KeepsList KeepsList old now
    (λ d c was on. root_stays d c on) (λ d c was image on. root_stays d c on) (by_file ROOT Equal Equal old now run)

module _ (file : ℕ) (old mid now : Sight) (rooted : Leaves ROOT Equal Equal old mid)
    (all : AllName file mid.images) where
  name_is : (d m : Image) → mid.images m → OnFile ROOT Equal d m → named (d ROOT) ≡ file
  name_is d m image on = ap named (sym on.changed) ∙ all m image

  -- the file that each root names keeps its list, and the others stay
  opened_step : (d m c : Image) → mid.images m → OnFile ROOT Equal d m → OnFile file SameList m c → KeepsList d c
  opened_step d m c image on went = subst (λ (n : ℕ). OnFile n SameList d c) (sym (name_is d m image on)) (record {
    changed = subst (λ (bytes : List ℕ). SameList bytes (c file)) (all_same ROOT d m on file) went.changed;
    others = λ other ne. went.others other ne ∙ all_same ROOT d m on other;
  })

  pub lists_stay : Leaves file SameList SameList mid now → ListsStay old now
  lists_stay run =
      joined_by (OnFile ROOT Equal) (OnFile ROOT Equal) (OnFile file SameList) (OnFile file SameList) KeepsList
      KeepsList old mid now (by_file ROOT Equal Equal old mid rooted) (by_file file SameList SameList mid now run)
      (λ d c was on. root_stays d c on) (λ d m c was image on went. opened_step d m c image on went)
      (λ d m c was image here on went. opened_step d m c image on went)

  stay_step : (d m c : Image) → OnFile ROOT Equal d m → OnFile file Equal m c → Same d c
  stay_step d m c on went other = all_same file m c went other ∙ all_same ROOT d m on other

  pub all_stay : Keeps old mid → Leaves file Equal Equal mid now → Keeps mid now → AllStay old now
  all_stay before run keeps = record {
    leaves = joined_by (OnFile ROOT Equal) (OnFile ROOT Equal) (OnFile file Equal) (OnFile file Equal) Same Same old mid
        now
        (by_file ROOT Equal Equal old mid rooted) (by_file file Equal Equal mid now run)
        (λ d c was on. all_same ROOT d c on) (λ d m c was image on went. stay_step d m c on went)
        (λ d m c was image here on went. stay_step d m c on went);
    reads = record {
      still = λ s read. keeps.still s (before.still s read);
      nothing_new = λ s read. before.nothing_new s (keeps.nothing_new s read);
    };
  }

-- what a read of the named file gives, before and after the root was read
pub reads_active : (P : List ℕ → Type 0) (file : ℕ) (old mid : Sight) → Keeps old mid
    → ((s : Image) → old.reads s → named (s ROOT) ≡ file) → ReadsAs file P mid → ReadsActive P old
reads_active P file old mid keeps names reads s read =
    subst (λ (n : ℕ). P (s n)) (sym (names s read)) (reads s (keeps.still s read))

module _ {D : Type 0} (G : Ghosts D) (file : ℕ) (old mid : D)
    (rooted : Leaves ROOT Equal Equal (G.sight old) (G.sight mid)) (keeps : Keeps (G.sight old) (G.sight mid))
    (all : AllName file (G.sight mid).images) (names : (s : Image) → (G.sight old).reads s → named (s ROOT) ≡ file)
    (stay : G.faults mid ≡ G.faults old) where
  -- why the named file isn't opened, the store isn't
  refused_by : (refused : OpenRefused D) → IsRefusedIn G file mid refused → IsRefusedBy IsNoBase G old refused
  refused_by (Damaged now damage) why = (
    ⊎_elim
        (λ broken. inl (
          all_stay file (G.sight old) (G.sight mid) (G.sight now) rooted all keeps broken.0.leaves broken.0.reads,
          reads_active (λ bytes. IsDamaged bytes damage.at damage.entry) file (G.sight old) (G.sight mid) keeps names
              broken.1,
        ))
        (λ baseless. inr (
          lists_stay file (G.sight old) (G.sight mid) (G.sight now) rooted all baseless.0,
          reads_active (λ bytes. HasFault IsNoBase bytes damage.at damage.entry) file (G.sight old) (G.sight mid) keeps
              names baseless.1,
        ))
        why.0,
    why.1 ∙ stay,
  )
  refused_by (Failed now) why = (
    lists_stay file (G.sight old) (G.sight mid) (G.sight now) rooted all why.0,
    omega (arith, stay, why.1),
    rose_within _ _ _ _ (omega (arith, stay)) why.2 (omega arith),
  )
  refused_by (Memory now) why = (
    lists_stay file (G.sight old) (G.sight mid) (G.sight now) rooted all why.0,
    why.1 ∙ stay,
  )

  pub open_refused : (unopened : Unopened D) → IsUnopenedIn G file mid unopened → IsUnopened G old unopened
  open_refused (NoEntry now front) why = (
    lists_stay file (G.sight old) (G.sight mid) (G.sight now) rooted all why.0,
    why.1 ∙ stay,
    why.2,
    why.3,
    reads_active (λ bytes. Recovers bytes front.format why.2) file (G.sight old) (G.sight mid) keeps names why.4,
  )
  open_refused (Refused refused) why = refused_by refused why

-- what is told of it
module _ {D : Type 0} (G : Ghosts D) (old : D) where
  pub refused_told : (refused : OpenRefused D) → IsRefusedBy IsNoBase G old refused → IsOpenRefused G old refused
  refused_told (Damaged now damage) why = (
    ⊎_elim inl
        (λ baseless. inr (
          baseless.0,
          λ s read. let has = baseless.1 s read in (has.0, has.1, has.2, inl has.3),
        ))
        why.0,
    why.1,
  )
  refused_told (Failed now) why = why
  refused_told (Memory now) why = why

  pub no_entry_told : (now : D) (front : Front) → IsUnopened G old (NoEntry now front)
      → IsOpenRefused G old (Damaged now front.damage)
  no_entry_told now front why = (
    inr (why.0, λ s read. (front.format, why.2, why.4 s read, inr (held_of front.loaded, why.3.behind))),
    why.1,
  )

-- the root of an image is none of its journals
root_is_none : (bytes : List ℕ) → ROOT ≢ named bytes
root_is_none bytes same = absurd (by bytes same)
  where
    by : (bytes : List ℕ) → ROOT ≡ named bytes → ⊥
    by bytes is = grind arith

-- what an image holds, it holds after a step that keeps the list
pub keeps_held : (d c : Image) → KeepsList d c → SameHeld d c
keeps_held d c kept h has =
    let root_is : c ROOT ≡ d ROOT = kept.others ROOT (root_is_none (d ROOT)) in
    subst (λ (n : ℕ). HoldsFile h (c n)) (sym (ap named root_is))
    (has.0, kept.changed has.0 _ has.1, has.2)
