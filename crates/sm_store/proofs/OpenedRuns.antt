-- What opening the file that each root names says, from what its journal and its bodies say.
use Rattle.std.proofs.Common.{◌≡◌, ℕ, ◌<◌, ◌≤◌, false, List, [], None, sym, ap, ◌∙◌, subst, inl, inr, arith}
use Rattle.sm_disk.specs.Sight.{Image, Sight}
use Rattle.sm_disk.specs.OneFile.{Leaves}
use Rattle.sm_disk.specs.declared.disk.Disk.{Ghosts}
use Rattle.sm_disk.proofs.AllRuns.{others_stay}
use Rattle.sm_disk.proofs.Runs.{weakened}
use Rattle.sm_journal.specs.Journals as journals
use Rattle.sm_journal.specs.Openings as openings
use Rattle.sm_journal.specs.Openings.{Equal, ReadsAs}
use Rattle.sm_journal.specs.Records.{place_behind, Short, Recovers, SameList}
use Rattle.sm_journal.specs.Roots.{named, AllName}
use Rattle.sm_journal.specs.declared.answers.OpenRefused.{OpenRefused}
use Rattle.sm_journal.specs.declared.answers.OpenRefused.TheVariants.{Damaged, Failed, Memory}
use Rattle.sm_journal.specs.declared.format.Format.TheVariants as formats
use Rattle.sm_journal.specs.declared.journal.Journal.{Journal}
use Rattle.sm_journal.specs.declared.root.TheConstants.{ROOT}
use Rattle.sm_store.specs.Files.{nothing_held, HoldsAs}
use Rattle.sm_store.specs.Openings.{held_of, OpensOver, IsUnloaded, IsRefusedIn, IsUnopenedIn}
use Rattle.sm_store.specs.Stores.{disk_of, format_of, bodies_edition, HoldsJust, IsOpened}
use Rattle.sm_store.specs.Held.{edition_of, base_bodies, bodies_in, IsSpelledIn}
use Rattle.sm_store.specs.declared.store.Store.{Store}
use Rattle.sm_store.specs.declared.loading.Loaded.{Loaded}
use Rattle.sm_store.specs.declared.unopened.Unopened.{Unopened}
use Rattle.sm_store.specs.declared.unopened.Unopened.TheVariants.{NoEntry, Refused}

-- a file that stays keeps its list
list_kept : (file : ℕ) (old now : Sight) → Leaves file Equal Equal old now → Leaves file SameList SameList old now
list_kept file old now run = weakened file Equal Equal SameList SameList old now
    (λ d was y same. kept (d file) y same) (λ d was y same. kept (d file) y same) run
  where
    kept : (x y : List ℕ) → Equal x y → SameList x y
    kept x y same f bodies has = subst (λ (b : List ℕ). Recovers b f bodies) (sym same) has

module _ {D : Type 0} (G : Ghosts D) (file : ℕ) (old : D) where
  -- why the journal isn't opened, the store isn't
  pub journal_refused : (refused : OpenRefused D) → openings.IsRefused G file old refused
      → IsRefusedIn G file old refused
  journal_refused (Damaged now damage) why = (inl (why.0, why.1), why.2)
  journal_refused (Failed now) why = why
  journal_refused (Memory now) why = (list_kept file (G.sight old) (G.sight now) why.0.leaves, why.1)

  module _ (journal : Journal D G) (bodies : List (List ℕ))
      (run : Leaves file SameList SameList (G.sight old) (G.sight (journals.disk_of journal)))
      (stay : G.faults (journals.disk_of journal) ≡ G.faults old)
      (list : ReadsAs file (λ bytes. Recovers bytes (journals.format_of journal) bodies) (G.sight old)) where
    run_to : (now : D) → now ≡ journals.disk_of journal → Leaves file SameList SameList (G.sight old) (G.sight now)
    run_to now is = subst (λ disk. Leaves file SameList SameList (G.sight old) (G.sight disk)) (sym is) run

    faults_kept : (now : D) → now ≡ journals.disk_of journal → G.faults now ≡ G.faults old
    faults_kept now is = ap G.faults is ∙ stay

    -- why its bodies aren't loaded, the store isn't opened
    pub bodies_refused : (unopened : Unopened D) → IsUnloaded journal bodies unopened
        → IsUnopenedIn G file old unopened
    bodies_refused (NoEntry now front) why = (
      run_to now why.0,
      faults_kept now why.0,
      bodies,
      why.2,
      λ s read. subst (λ f. Recovers (s file) f bodies) (sym why.1) (list s read),
    )
    bodies_refused (Refused (Damaged now damage)) why = (
      inr (run_to now why.0, λ s read. (journals.format_of journal, bodies, list s read, why.1)),
      faults_kept now why.0,
    )
    bodies_refused (Refused (Failed now)) why = absurd why
    bodies_refused (Refused (Memory now)) why = (run_to now why, faults_kept now why)

    module _ (opened : Store D G × Loaded) (over : OpensOver journal file bodies opened) where
      -- what is said of the journal is said of the store's
      moved : (P : Journal D G → Type 0) → P journal → P opened.0.journal
      moved P has = subst P (sym over.over) has

      pub any_moment : Leaves file SameList SameList (G.sight old) (G.sight (disk_of opened.0))
      any_moment = moved (λ j. Leaves file SameList SameList (G.sight old) (G.sight (journals.disk_of j))) run

      pub no_fault : G.faults (disk_of opened.0) ≡ G.faults old
      no_fault = moved (λ j. G.faults (journals.disk_of j) ≡ G.faults old) stay

      pub reads_held : ReadsAs file (HoldsAs (format_of opened.0) (held_of opened.1)) (G.sight old)
      reads_held s read = moved (λ j. HoldsAs (journals.format_of j) (held_of opened.1) (s file)) (
        subst (Recovers (s file) (journals.format_of journal)) over.loads.bodies_are (list s read),
        over.loads.spelled,
      )

      pub gate_is : opened.1.gate ≡ place_behind (base_bodies (bodies_edition opened.0) opened.1.base)
      gate_is = moved (λ j. opened.1.gate
          ≡ place_behind (base_bodies (edition_of (journals.format_of j)) opened.1.base)) over.loads.gate

      pub made_new : ((s : Image) → (G.sight old).reads s → Short (s file)
          → journals.HoldsJust journal [] × (journals.format_of journal ≡ formats.Second))
          → (s : Image) → (G.sight old).reads s → Short (s file)
          → HoldsJust opened.0 nothing_held × (format_of opened.0 ≡ formats.Second)
      made_new whole s read short =
          moved (λ j. journals.HoldsJust j [] × (journals.format_of j ≡ formats.Second)) (whole s read short)

      pub is_opened : (limit : ℕ) → file < 2 → AllName file (G.sight old).images
          → journals.IsOpened file limit bodies journal → IsOpened limit (held_of opened.1) opened.0
      is_opened limit two names is = record {
        holds = record {
          stands = moved
              (λ j. journals.Stands j (bodies_in (edition_of (journals.format_of j)) (held_of opened.1)) None)
              (subst (λ (l : List (List ℕ)). journals.Stands journal l None) over.loads.bodies_are is.stands);
          spelled = moved (λ j. spelled_at j) over.loads.spelled;
          last = tt;
          named = subst (λ f. AllName f (G.sight (disk_of opened.0)).images) (sym over.in_file)
              (others_stay file ROOT SameList SameList (λ bytes. named bytes ≡ file) (G.sight old)
              (G.sight (disk_of opened.0)) (λ same. absurd (omega (arith, two, same))) any_moment names);
        };
        sure = moved (λ j. journals.is_unsure j ≡ false) is.sure;
        under = moved (λ j. journals.limit_of j ≡ limit) is.under;
      }
        where
          spelled_at : Journal D G → Type 0
          spelled_at j = IsSpelledIn (edition_of (journals.format_of j)) (held_of opened.1)
