-- What the calls of a store over a base leave.
use Rattle.std.specs.Prelude.{◌≡◌, ℕ, ◌+◌, ◌<◌, ◌≤◌, true, false, List, Option, None, Some}
use Rattle.sm_disk.specs.Sight.{Sight}
use Rattle.sm_disk.specs.OneFile.{Leaves}
use Rattle.sm_disk.specs.AllFiles.{LeavesBy}
use Rattle.sm_disk.specs.declared.disk.Disk.{Ghosts}
use Rattle.sm_journal.specs.Making as making
use Rattle.sm_journal.specs.Records.{record_size}
use Rattle.sm_journal.specs.Roots.{AllName}
use Rattle.sm_journal.specs.declared.answers.Appended.{Appended}
use Rattle.sm_journal.specs.declared.answers.Appended.TheVariants.{Ok, Failed, Full, TooLong}
use Rattle.sm_journal.specs.declared.format.Format.{Format}
use Rattle.sm_model.specs.declared.entry.Entry.{Entry}
use Rattle.sm_record.specs.declared.edition.Edition.TheVariants.{Second}
use Rattle.sm_record.specs.Spelling.{spelling, HasSpelling}
use Rattle.sm_store.specs.Files.{HoldsEither}
use Rattle.sm_store.specs.Stores.{disk_of, file_of, format_of, limit_of, is_unsure, length_of, Holds, HoldsJust}
use Rattle.sm_store.specs.Held.{edition_of, Held, with_entry, bodies_in, IsSpelledIn, RecoveredEither}
use Rattle.sm_store.specs.declared.store.Store.{Store}

-- the entry has a spelling in the second format, and these bytes are it
abbrev pub IsReady : Entry → List ℕ → Type 0
IsReady e bytes = HasSpelling Second e × (spelling Second e ≡ bytes)

module _ {D : Type 0} {G : Ghosts D} where
  -- the file's length with one entry more
  abbrev pub length_with : Store D G → Entry → ℕ
  length_with store e = length_of store + record_size (spelling Second e)

  -- What each answer of `append` says: full exactly where it is; Ok with the entry at the end of the list; and where
  -- the disk failed the list as before and the entry unsure. No spelling that it takes is too long.
  abbrev pub AppendsAs : Store D G → Entry → Store D G → Appended → Type 0
  AppendsAs old e new (TooLong n) = ⊥
  AppendsAs old e new (Full n) = (limit_of old < length_with old e) × (n ≡ length_with old e) × (new ≡ old)
  AppendsAs old e new Ok = (length_with old e ≤ limit_of old) × (is_unsure new ≡ false)
      × (length_of new ≡ length_with old e)
      × ((h : Held) → Holds old h None → Holds new (with_entry h e) None × HoldsJust new (with_entry h e))
  AppendsAs old e new Failed = (length_with old e ≤ limit_of old) × (is_unsure new ≡ true)
      × (length_of new ≡ length_of old)
      × ((h : Held) → Holds old h None → Holds new h (Some e))

  -- the same file, in the same format, under the same limit
  pub record SamePlace (old new : Store D G) : Type 0 where
    pub file : file_of new ≡ file_of old
    pub format : format_of new ≡ format_of old
    pub limit : limit_of new ≡ limit_of old

  -- a crash at any moment since old leaves this, or this and one entry more, if there is one, in the store's file, and
  -- leaves the other files
  abbrev pub LeavesEither : Held → Option Entry → Store D G → Store D G → Type 0
  LeavesEither h failed old new = Leaves (file_of old) (λ _. HoldsEither (format_of old) h failed)
      (λ _. HoldsEither (format_of old) h failed) (G.sight (disk_of old)) (G.sight (disk_of new))

  -- and so each image recovers to the one or the other
  abbrev pub AllRecover : Held → Option Entry → Store D G → Store D G → Type 0
  AllRecover h failed old new = LeavesBy (λ _. RecoveredEither h failed) (λ _. RecoveredEither h failed)
      (G.sight (disk_of old)) (G.sight (disk_of new))

-- Each image has this in the file that its root names, a closed gate behind it and nothing behind that: what a store
-- leaves that is closed, and what one can be opened over.
pub record IsIdle (h : Held) (now : Sight) : Type 0 where
  pub file : ℕ
  pub format : Format
  pub spelled : IsSpelledIn (edition_of format) h
  pub idle : making.IsIdle file format (bodies_in (edition_of format) h) now
  pub named : AllName file now.images
