-- What a journal says of its bodies, in what a store over a base holds.
use Rattle.std.proofs.Common.{◌≡◌, ◌≢◌, ℕ, ◌<◌, ◌≤◌, List, [], ◌∷◌, ◌++◌, map, length, Option, None, Some, sym, ap, subst, ◌∙◌, inl, inr, arith, append_assoc}
use mathlib.Core.HLevel.{is_prop→PathP}
use native.Mathlib.Nat.{ℕ_set}
use native.Mathlib.Bridge.{le_prop}
use Rattle.std.specs.Option.{option_map}
use Rattle.std.proofs.lemmas.List.{map_push}
use Rattle.sm_disk.specs.Sight.{Image}
use Rattle.sm_disk.specs.Steps.{OnFile}
use Rattle.sm_disk.specs.OneFile.{EachHas, Leaves}
use Rattle.sm_disk.specs.AllFiles.{LeavesBy}
use Rattle.sm_disk.specs.declared.disk.Disk.{Ghosts}
use Rattle.sm_disk.proofs.AllRuns.{by_file, weaker_by, others_stay}
use Rattle.sm_disk.proofs.Runs.{weakened}
use Rattle.sm_journal.specs.Journals as journals
use Rattle.sm_journal.specs.Making as making
use Rattle.sm_journal.specs.Records.{body_limit, Recovers, RecoversEither}
use Rattle.sm_journal.specs.Roots.{named, AllName}
use Rattle.sm_journal.specs.declared.answers.Appended.{Appended}
use Rattle.sm_journal.specs.declared.answers.Appended.TheVariants.{Ok, Failed, Full, TooLong}
use Rattle.sm_journal.specs.declared.format.Format.{Format}
use Rattle.sm_journal.specs.declared.format.Format.TheVariants as formats
use Rattle.sm_journal.specs.declared.journal.Journal.{Journal}
use Rattle.sm_journal.specs.declared.root.TheConstants.{ROOT}
use Rattle.sm_model.specs.declared.entry.Entry.{Entry}
use Rattle.sm_record.specs.declared.edition.Edition.{Edition}
use Rattle.sm_record.specs.declared.edition.Edition.TheVariants.{Second}
use Rattle.sm_record.specs.Spelling.{spelling, HasSpelling}
use Rattle.sm_store.specs.Appends.{IsReady, AppendsAs, IsIdle}
use Rattle.sm_store.specs.Files.{HoldsEither}
use Rattle.sm_store.specs.Stores.{disk_of, file_of, format_of, bodies_edition, Holds, HoldsJust}
use Rattle.sm_store.specs.Held.{edition_of, Held, with_entry, base_bodies, bodies_in, IsEntry, IsSpelledIn, HoldsFile, RecoveredEither}
use Rattle.sm_store.specs.declared.store.Store.{Store}
use Rattle.sm_store.proofs.EntryRuns.{entries_push}

-- one more entry is one more body
pub one_more : (edition : Edition) (h : Held) (e : Entry)
    → bodies_in edition (with_entry h e) ≡ bodies_in edition h ++ spelling edition e ∷ []
one_more edition h e =
    ap (λ (l : List (List ℕ)). base_bodies edition h.base ++ l) (map_push (spelling edition) h.entries e)
    ∙ sym (append_assoc (base_bodies edition h.base) (map (spelling edition) h.entries) (spelling edition e ∷ []))

pub spelled_more : (edition : Edition) (h : Held) (e : Entry) → IsSpelledIn edition h → HasSpelling edition e
    → IsSpelledIn edition (with_entry h e)
spelled_more edition h e spelled fits =
    record { base = spelled.base; entries = entries_push edition h.entries e spelled.entries fits }

-- what a file recovers to, in what it holds
pub either_held : (f : Format) (h : Held) (failed : Option Entry) → IsSpelledIn (edition_of f) h
    → IsEntry (edition_of f) failed → (bytes : List ℕ)
    → RecoversEither f (bodies_in (edition_of f) h) (option_map (spelling (edition_of f)) failed) bytes
    → HoldsEither f h failed bytes
either_held f h None spelled last bytes recovers = (recovers, spelled)
either_held f h (Some e) spelled last bytes (inl recovers) = inl (recovers, spelled)
either_held f h (Some e) spelled last bytes (inr recovers) = inr (
  subst (Recovers bytes f) (sym (one_more (edition_of f) h e)) recovers,
  spelled_more (edition_of f) h e spelled last,
)

-- what the file that is named holds, the image recovers to
recovered_either : (f : Format) (h : Held) (failed : Option Entry) (n : ℕ) (c : Image) → named (c ROOT) ≡ n
    → HoldsEither f h failed (c n) → RecoveredEither h failed c
recovered_either f h None n c is has = subst (λ (m : ℕ). HoldsFile h (c m)) (sym is) (f, has.0, has.1)
recovered_either f h (Some e) n c is (inl has) = inl (subst (λ (m : ℕ). HoldsFile h (c m)) (sym is) (f, has.0, has.1))
recovered_either f h (Some e) n c is (inr has) =
    inr (subst (λ (m : ℕ). HoldsFile (with_entry h e) (c m)) (sym is) (f, has.0, has.1))

module _ {D : Type 0} {G : Ghosts D} where
  root_apart : (store : Store D G) → ROOT ≢ store.file
  root_apart store same = absurd (omega (arith, store.two, same))

  -- what each image of a store's disk has
  pub holds_images : (store : Store D G) (h : Held) (failed : Option Entry) → Holds store h failed
      → EachHas (file_of store) (HoldsEither (format_of store) h failed) (G.sight (disk_of store)).images
  holds_images store h failed holds c was =
      subst (λ f. HoldsEither (format_of store) h failed (c f)) store.in_file
      (either_held (format_of store) h failed holds.spelled holds.last (c store.journal.file)
      (holds.stands.recovers c was))

  pub holds_recover : (store : Store D G) (h : Held) (failed : Option Entry) → Holds store h failed
      → (c : Image) → (G.sight (disk_of store)).images c → RecoveredEither h failed c
  holds_recover store h failed holds c was =
      recovered_either (format_of store) h failed (file_of store) c (holds.named c was)
      (holds_images store h failed holds c was)

  -- a store is its journal
  pub store_is : (old new : Store D G) → new.journal ≡ old.journal → new ≡ old
  store_is old new same =
      let file : new.file ≡ old.file = sym new.in_file ∙ ap journals.file_of same ∙ old.in_file in
      let limit : new.limit ≡ old.limit = sym new.under ∙ ap journals.limit_of same ∙ old.under in
      λ i. record {
        journal = same i;
        file = file i;
        limit = limit i;
        two = is_prop→PathP (λ i. file i < 2) (λ i. le_prop) new.two old.two i;
        in_file = is_prop→PathP (λ i. journals.file_of (same i) ≡ file i)
            (λ i. ℕ_set (journals.file_of (same i)) (file i)) new.in_file old.in_file i;
        under = is_prop→PathP (λ i. journals.limit_of (same i) ≡ limit i)
            (λ i. ℕ_set (journals.limit_of (same i)) (limit i)) new.under old.under i;
      }

  -- a crash at any moment since this store leaves this, or it and one entry more, in the store's file
  abbrev EitherTo : Held → Option Entry → Store D G → Journal D G → Type 0
  EitherTo h failed old new = Leaves (file_of old) (λ _. HoldsEither (format_of old) h failed)
      (λ _. HoldsEither (format_of old) h failed) (G.sight (disk_of old)) (G.sight (journals.disk_of new))

  -- and each image recovers to the one or the other
  abbrev RecoverTo : Held → Option Entry → Store D G → Journal D G → Type 0
  RecoverTo h failed old new = LeavesBy (λ _. RecoveredEither h failed) (λ _. RecoveredEither h failed)
      (G.sight (disk_of old)) (G.sight (journals.disk_of new))

  -- a crash that leaves bodies leaves what they hold
  either_left : (old : Store D G) (new : Journal D G) (h : Held) (failed : Option Entry)
      → IsSpelledIn (bodies_edition old) h → IsEntry (bodies_edition old) failed
      → journals.LeavesEither (bodies_in (bodies_edition old) h) (option_map (spelling (bodies_edition old)) failed)
      old.journal new
      → EitherTo h failed old new
  either_left old new h failed spelled last run =
      subst (λ f. Leaves f (λ _. HoldsEither (format_of old) h failed) (λ _. HoldsEither (format_of old) h failed)
      (G.sight (disk_of old)) (G.sight (journals.disk_of new))) old.in_file
      (weakened old.journal.file (λ _. RecoversEither (format_of old) (bodies_in (bodies_edition old) h)
      (option_map (spelling (bodies_edition old)) failed))
      (λ _. RecoversEither (format_of old) (bodies_in (bodies_edition old) h)
      (option_map (spelling (bodies_edition old)) failed))
      (λ _. HoldsEither (format_of old) h failed) (λ _. HoldsEither (format_of old) h failed)
      (G.sight (disk_of old)) (G.sight (journals.disk_of new))
      (λ d was y. either_held (format_of old) h failed spelled last y)
      (λ d was y. either_held (format_of old) h failed spelled last y) run)

  -- and so each image recovers to it
  all_recover : (old : Store D G) (new : Journal D G) (h : Held) (failed : Option Entry)
      → AllName (file_of old) (G.sight (disk_of old)).images → EitherTo h failed old new → RecoverTo h failed old new
  all_recover old new h failed names run =
      weaker_by (OnFile (file_of old) (λ _. HoldsEither (format_of old) h failed))
      (OnFile (file_of old) (λ _. HoldsEither (format_of old) h failed)) (λ _. RecoveredEither h failed)
      (λ _. RecoveredEither h failed) (G.sight (disk_of old)) (G.sight (journals.disk_of new))
      (λ d c was on. step d c was on) (λ d c was image on. step d c was on)
      (by_file (file_of old) (λ _. HoldsEither (format_of old) h failed)
      (λ _. HoldsEither (format_of old) h failed) (G.sight (disk_of old)) (G.sight (journals.disk_of new)) run)
    where
      step : (d c : Image) → (G.sight (disk_of old)).images d
          → OnFile (file_of old) (λ _. HoldsEither (format_of old) h failed) d c → RecoveredEither h failed c
      step d c was on = recovered_either (format_of old) h failed (file_of old) c
          (ap named (on.others ROOT (root_apart old)) ∙ names d was) on.changed

  -- each root still names the store's file
  names_stay : (old : Store D G) (new : Journal D G) (h : Held) (failed : Option Entry) (file : ℕ)
      → file ≡ file_of old → AllName (file_of old) (G.sight (disk_of old)).images → EitherTo h failed old new
      → AllName file (G.sight (journals.disk_of new)).images
  names_stay old new h failed file is names run =
      subst (λ f. AllName f (G.sight (journals.disk_of new)).images) (sym is)
      (others_stay (file_of old) ROOT (λ _. HoldsEither (format_of old) h failed)
      (λ _. HoldsEither (format_of old) h failed) (λ bytes. named bytes ≡ file_of old) (G.sight (disk_of old))
      (G.sight (journals.disk_of new)) (root_apart old) run names)

  -- what a store has whose journal has these bodies, in the format of another
  holds_from : (old new : Store D G) (h : Held) (failed : Option Entry) → format_of new ≡ format_of old
      → journals.Stands new.journal (bodies_in (bodies_edition old) h)
      (option_map (spelling (bodies_edition old)) failed)
      → IsSpelledIn (bodies_edition old) h → IsEntry (bodies_edition old) failed
      → AllName (file_of new) (G.sight (disk_of new)).images → Holds new h failed
  holds_from old new h failed format stands spelled last names =
      let same : bodies_edition old ≡ bodies_edition new = ap edition_of (sym format) in record {
        stands = subst (λ (e : Edition). journals.Stands new.journal (bodies_in e h) (option_map (spelling e) failed))
            same stands;
        spelled = subst (λ (e : Edition). IsSpelledIn e h) same spelled;
        last = subst (λ (e : Edition). IsEntry e failed) same last;
        named = names;
      }

  -- ---- what `append` answers and leaves

  module _ (old : Store D G) (e : Entry) (second : format_of old ≡ formats.Second)
      (fits : HasSpelling Second e) where
    edition_is : bodies_edition old ≡ Second
    edition_is = ap edition_of second

    fits_old : HasSpelling (bodies_edition old) e
    fits_old = subst (λ (ed : Edition). HasSpelling ed e) (sym edition_is) fits

    spelling_is : spelling (bodies_edition old) e ≡ spelling Second e
    spelling_is = ap (λ (ed : Edition). spelling ed e) edition_is

    more_is : (h : Held) → bodies_in (bodies_edition old) h ++ spelling Second e ∷ []
        ≡ bodies_in (bodies_edition old) (with_entry h e)
    more_is h = ap (λ (b : List ℕ). bodies_in (bodies_edition old) h ++ b ∷ []) (sym spelling_is)
        ∙ sym (one_more (bodies_edition old) h e)

    append_leaves : (new : Journal D G) → ((bodies : List (List ℕ)) → journals.Stands old.journal bodies None
        → journals.LeavesEither bodies (Some (spelling Second e)) old.journal new)
        → (h : Held) → Holds old h None → EitherTo h (Some e) old new
    append_leaves new run h holds = either_left old new h (Some e) holds.spelled fits_old
        (subst (λ (b : List ℕ). journals.LeavesEither (bodies_in (bodies_edition old) h) (Some b) old.journal new)
        (sym spelling_is) (run (bodies_in (bodies_edition old) h) holds.stands))

    module _ (new : Store D G) (file : file_of new ≡ file_of old) (format : format_of new ≡ format_of old)
        (within : length (spelling Second e) ≤ body_limit)
        (run : (bodies : List (List ℕ)) → journals.Stands old.journal bodies None
        → journals.LeavesEither bodies (Some (spelling Second e)) old.journal new.journal) where
      named_on : (h : Held) → Holds old h None → AllName (file_of new) (G.sight (disk_of new)).images
      named_on h holds = names_stay old new.journal h (Some e) (file_of new) file holds.named
          (append_leaves new.journal run h holds)

      with_more : (h : Held) → Holds old h None
          → journals.Stands new.journal (bodies_in (bodies_edition old) h ++ spelling Second e ∷ []) None
          → Holds new (with_entry h e) None
      with_more h holds stands = holds_from old new (with_entry h e) None format
          (subst (λ (bodies : List (List ℕ)). journals.Stands new.journal bodies None) (more_is h) stands)
          (spelled_more (bodies_edition old) h e holds.spelled fits_old) tt (named_on h holds)

      just_more : (h : Held)
          → journals.HoldsJust new.journal (bodies_in (bodies_edition old) h ++ spelling Second e ∷ [])
          → HoldsJust new (with_entry h e)
      just_more h just = subst (λ (ed : Edition). journals.HoldsJust new.journal (bodies_in ed (with_entry h e)))
          (ap edition_of (sym format))
          (subst (λ (bodies : List (List ℕ)). journals.HoldsJust new.journal bodies) (more_is h) just)

      with_failed : (h : Held) → Holds old h None
          → journals.Stands new.journal (bodies_in (bodies_edition old) h) (Some (spelling Second e))
          → Holds new h (Some e)
      with_failed h holds stands = holds_from old new h (Some e) format
          (subst (λ (b : List ℕ). journals.Stands new.journal (bodies_in (bodies_edition old) h) (Some b))
          (sym spelling_is) stands)
          holds.spelled fits_old (named_on h holds)

      appends : (answer : Appended) → journals.AppendsAs old.journal (spelling Second e) new.journal answer
          → AppendsAs old e new answer
      appends (TooLong n) said = absurd (omega (arith, within, said.0))
      appends (Full n) said = (said.1, said.2, store_is old new said.3)
      appends Ok said = (
        said.0.1,
        said.1,
        said.2,
        λ h holds. let added = said.3 (bodies_in (bodies_edition old) h) holds.stands in
            (with_more h holds added.0, just_more h added.1),
      )
      appends Failed said = (
        said.0.1,
        said.1,
        said.2,
        λ h holds. with_failed h holds (said.3 (bodies_in (bodies_edition old) h) holds.stands),
      )

  -- the same for the body that is handed in
  pub appends_ready : (old new : Store D G) (e : Entry) (body : List ℕ) (answer : Appended)
      → format_of old ≡ formats.Second → IsReady e body → length body ≤ body_limit
      → file_of new ≡ file_of old → format_of new ≡ format_of old
      → ((bodies : List (List ℕ)) → journals.Stands old.journal bodies None
      → journals.LeavesEither bodies (Some body) old.journal new.journal)
      → journals.AppendsAs old.journal body new.journal answer → AppendsAs old e new answer
  appends_ready old new e body answer second is within file format run said =
      appends old e second is.0 new file format (subst (λ (b : List ℕ). length b ≤ body_limit) (sym is.1) within)
      (λ bodies stands. subst (λ (b : List ℕ). journals.LeavesEither bodies (Some b) old.journal new.journal)
      (sym is.1) (run bodies stands))
      answer (subst (λ (b : List ℕ). journals.AppendsAs old.journal b new.journal answer) (sym is.1) said)

  module _ (old : Store D G) (new : Journal D G) (e : Entry) (body : List ℕ)
      (second : format_of old ≡ formats.Second) (is : IsReady e body)
      (run : (bodies : List (List ℕ)) → journals.Stands old.journal bodies None
      → journals.LeavesEither bodies (Some body) old.journal new) where
    pub append_leaves_ready : (h : Held) → Holds old h None → EitherTo h (Some e) old new
    append_leaves_ready = append_leaves old e second is.0 new
        (λ bodies stands. subst (λ (b : List ℕ). journals.LeavesEither bodies (Some b) old.journal new)
        (sym is.1) (run bodies stands))

    pub append_recovers : (h : Held) → Holds old h None → RecoverTo h (Some e) old new
    append_recovers h holds = all_recover old new h (Some e) holds.named (append_leaves_ready h holds)

  -- ---- what `mend` and `close` leave

  module _ (old : Store D G) (new : Journal D G)
      (run : (bodies : List (List ℕ)) (failed : Option (List ℕ)) → journals.Stands old.journal bodies failed
      → journals.LeavesEither bodies failed old.journal new) where
    pub mend_leaves : (h : Held) (failed : Option Entry) → Holds old h failed → EitherTo h failed old new
    mend_leaves h failed holds = either_left old new h failed holds.spelled holds.last
        (run (bodies_in (bodies_edition old) h) (option_map (spelling (bodies_edition old)) failed) holds.stands)

    pub mend_recovers : (h : Held) (failed : Option Entry) → Holds old h failed → RecoverTo h failed old new
    mend_recovers h failed holds = all_recover old new h failed holds.named (mend_leaves h failed holds)

  module _ (old new : Store D G)
      (run : (bodies : List (List ℕ)) (failed : Option (List ℕ)) → journals.Stands old.journal bodies failed
      → journals.LeavesEither bodies failed old.journal new.journal)
      (file : file_of new ≡ file_of old) (format : format_of new ≡ format_of old) where
    named_since : (h : Held) (failed : Option Entry) → Holds old h failed
        → AllName (file_of new) (G.sight (disk_of new)).images
    named_since h failed holds = names_stay old new.journal h failed (file_of new) file holds.named
        (mend_leaves old new.journal run h failed holds)

    -- what stands goes on standing
    pub holds_on : ((bodies : List (List ℕ)) (failed : Option (List ℕ)) → journals.Stands old.journal bodies failed
        → journals.Stands new.journal bodies failed)
        → (h : Held) (failed : Option Entry) → Holds old h failed → Holds new h failed
    holds_on stands h failed holds = holds_from old new h failed format
        (stands (bodies_in (bodies_edition old) h) (option_map (spelling (bodies_edition old)) failed) holds.stands)
        holds.spelled holds.last (named_since h failed holds)

    pub holds_sure : ((bodies : List (List ℕ)) (failed : Option (List ℕ)) → journals.Stands old.journal bodies failed
        → journals.Stands new.journal bodies None)
        → (h : Held) (failed : Option Entry) → Holds old h failed → Holds new h None
    holds_sure stands h failed holds = holds_from old new h None format
        (stands (bodies_in (bodies_edition old) h) (option_map (spelling (bodies_edition old)) failed) holds.stands)
        holds.spelled tt (named_since h failed holds)

  -- what a store leaves that is closed
  pub is_idle : (store : Store D G) (disk : D) → disk ≡ disk_of store
      → ((bodies : List (List ℕ)) → journals.Stands store.journal bodies None
      → making.IsIdle (journals.file_of store.journal) (journals.format_of store.journal) bodies (G.sight disk))
      → (h : Held) → Holds store h None → IsIdle h (G.sight disk)
  is_idle store disk same idle h holds = record {
    file = file_of store;
    format = format_of store;
    spelled = holds.spelled;
    idle = subst (λ file. making.IsIdle file (format_of store) (bodies_in (bodies_edition store) h) (G.sight disk))
        store.in_file (idle (bodies_in (bodies_edition store) h) holds.stands);
    named = subst (λ d. AllName (file_of store) (G.sight d).images) (sym same) holds.named;
  }
