-- A store over a base, and what stands on its disk.
use Rattle.std.specs.Prelude.{◌≡◌, ℕ, ◌≤◌, Bool, false, Option, None}
use Rattle.std.specs.Option.{option_map}
use Rattle.sm_base.specs.Faults.{Rose}
use Rattle.sm_disk.specs.declared.disk.Disk.{Ghosts}
use Rattle.sm_journal.specs.Journals as journals
use Rattle.sm_journal.specs.Roots.{AllName}
use Rattle.sm_journal.specs.declared.answers.OpenRefused.{OpenRefused}
use Rattle.sm_journal.specs.declared.answers.OpenRefused.TheVariants as refusals
use Rattle.sm_journal.specs.declared.format.Format.{Format}
use Rattle.sm_model.specs.declared.entry.Entry.{Entry}
use Rattle.sm_record.specs.declared.edition.Edition.{Edition}
use Rattle.sm_record.specs.Spelling.{spelling}
use Rattle.sm_store.specs.Held.{edition_of, Held, bodies_in, IsEntry, IsSpelledIn}
use Rattle.sm_store.specs.declared.store.Store.{Store}

module _ {D : Type 0} {G : Ghosts D} where
  abbrev pub disk_of : Store D G → D
  disk_of store = journals.disk_of store.journal

  abbrev pub file_of : Store D G → ℕ
  file_of store = store.file

  abbrev pub format_of : Store D G → Format
  format_of store = journals.format_of store.journal

  abbrev pub limit_of : Store D G → ℕ
  limit_of store = journals.limit_of store.journal

  -- the last write may have failed in part
  abbrev pub is_unsure : Store D G → Bool
  is_unsure store = journals.is_unsure store.journal

  -- the file's length up to the gate behind its records, with that gate
  abbrev pub length_of : Store D G → ℕ
  length_of store = journals.length_of store.journal

  -- the format of the bodies in its file
  abbrev pub bodies_edition : Store D G → Edition
  bodies_edition store = edition_of (format_of store)

  -- The store has this in the file that each image's root names, and where a further entry is given, its write may have
  -- failed in part.
  pub record Holds (store : Store D G) (h : Held) (failed : Option Entry) : Type 0 where
    pub stands : journals.Stands store.journal (bodies_in (bodies_edition store) h)
        (option_map (spelling (bodies_edition store)) failed)
    pub spelled : IsSpelledIn (bodies_edition store) h
    pub last : IsEntry (bodies_edition store) failed
    pub named : AllName store.file (G.sight (disk_of store)).images

-- each image of its file is these bodies, the closed gate behind them and nothing else
abbrev pub HoldsJust : {D : Type 0} {G : Ghosts D} → Store D G → Held → Type 0
HoldsJust store h = journals.HoldsJust store.journal (bodies_in (bodies_edition store) h)

-- a store that was opened or made under this limit, with this
pub record IsOpened {D : Type 0} {G : Ghosts D} (limit : ℕ) (h : Held) (store : Store D G) : Type 0 where
  pub holds : Holds store h None
  pub sure : is_unsure store ≡ false
  pub under : limit_of store ≡ limit

-- the disk that a refusal hands back
abbrev pub disk_in : {D : Type 0} → OpenRefused D → D
disk_in (refusals.Damaged now damage) = now
disk_in (refusals.Failed now) = now
disk_in (refusals.Memory now) = now

-- Why a base doesn't become what a disk holds: the disk failed; or memory was wanted, and the count of faults stays.
abbrev pub IsStopped : {D : Type 0} → Ghosts D → D → OpenRefused D → Type 0
IsStopped G old (refusals.Damaged now damage) = ⊥
IsStopped G old (refusals.Failed now) = (G.faults old ≤ G.faults now) × Rose (G.faults old) (G.faults now)
IsStopped G old (refusals.Memory now) = G.faults now ≡ G.faults old
