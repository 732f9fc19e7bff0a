-- What an opening finds on a disk and takes of it, and why there is none.
use Rattle.std.specs.Prelude.{⊤, ◌≡◌, ℕ, ◌≤◌, Some}
use Rattle.sm_base.specs.Faults.{Rose}
use Rattle.sm_encoded_size.specs.Files.{file_size}
use Rattle.sm_disk.specs.Sight.{Sight}
use Rattle.sm_disk.specs.declared.disk.Disk.{Ghosts}
use Rattle.sm_journal.specs.Records.{Short}
use Rattle.sm_journal.specs.declared.answers.OpenRefused.{OpenRefused}
use Rattle.sm_journal.specs.declared.answers.OpenRefused.TheVariants.{Damaged, Failed, Memory}
use Rattle.sm_journal.specs.declared.format.Format.{Format}
use Rattle.sm_journal.specs.declared.format.Format.TheVariants.{Second}
use Rattle.sm_record.specs.declared.base.Base.{Base}
use Rattle.sm_store.specs.Files.{HoldsAs}
use Rattle.sm_store.specs.Openings.{ReadsActive, IsFaultyAt}
use Rattle.sm_store.specs.Stores.{disk_of, format_of, limit_of, length_of, bodies_edition, disk_in, IsOpened, IsStopped}
use Rattle.sm_store.specs.Held.{Held, only}
use Rattle.sm_store.specs.declared.store.Store.{Store}
use Rattle.sm_recovery.specs.Keeping.{StateStays}
use Rattle.sm_recovery.specs.Lawful.{made_of, IsLawful}
use Rattle.sm_recovery.specs.Replacing.{taken_of, lengths_of}
use Rattle.sm_recovery.specs.Unlawful.{IsUnlawful, IsFirstFault}
use Rattle.sm_recovery.specs.declared.opened.Opened.{Opened}

-- A read gives a file that holds this in this format, and it is lawful. A file of at most nine bytes counts as one of
-- the second format, in which it is made new.
pub record IsFound (format : Format) (h : Held) (old : Sight) : Type 0 where
  pub reads : ReadsActive (HoldsAs format h) old
  pub short : ReadsActive (λ bytes. Short bytes → format ≡ Second) old
  pub lawful : IsLawful h

-- What an opening under this limit makes of it: it takes what was found, or the state that this makes as a base, and
-- goes on where its entries end, in a file of the second format.
pub record TakesOver {D : Type 0} {G : Ghosts D} (format : Format) (h : Held) (limit : ℕ)
    (opened : Opened D G) : Type 0 where
  pub taken : opened.taken ≡ taken_of format limit h
  pub replayed : opened.replayed ≡ made_of h
  pub store : IsOpened limit opened.taken opened.store
  pub second : format_of opened.store ≡ Second
  pub replaced : opened.replaced ≡ lengths_of format limit h

-- A base took the place of all that a store held, and what makes it stays.
pub record Replaces {D : Type 0} {G : Ghosts D} (old : Store D G) (replayed base : Base) (opened : Opened D G) :
    Type 0 where
  pub store : IsOpened (limit_of old) (only base) opened.store
  pub second : format_of opened.store ≡ Second
  pub taken : opened.taken ≡ only base
  pub replayed_is : opened.replayed ≡ replayed
  pub replaced : opened.replaced ≡ Some (length_of old, file_size base)

-- what was found on the disk, and what was made of it
pub record Opens {D : Type 0} {G : Ghosts D} (old : D) (limit : ℕ) (opened : Opened D G) : Type 0 where
  pub format : Format
  pub held : Held
  pub found : IsFound format held (G.sight old)
  pub takes : TakesOver format held limit opened

-- Why what a store holds is not taken over: it is not lawful, and the disk is as it was; or the disk failed, or memory
-- was wanted, and each image keeps its state.
abbrev pub IsUntaken : {D : Type 0} {G : Ghosts D} → Store D G → Held → OpenRefused D → Type 0
IsUntaken store h (Damaged now damage) = (now ≡ disk_of store)
    × IsUnlawful (bodies_edition store) h damage.at damage.entry
IsUntaken {D} {G} store h (Failed now) = IsStopped G (disk_of store) (Failed now)
    × StateStays (G.sight (disk_of store)) (G.sight now)
IsUntaken {D} {G} store h (Memory now) = IsStopped G (disk_of store) (Memory now)
    × StateStays (G.sight (disk_of store)) (G.sight now)

-- the file that counts is outside the grammar, or the first fault of its bodies is told, at this place; or the disk
-- failed; or memory was wanted
abbrev pub HasCause : {D : Type 0} → Ghosts D → D → OpenRefused D → Type 0
HasCause G old (Damaged now damage) = IsFaultyAt IsFirstFault damage.at damage.entry (G.sight old) (G.sight now)
HasCause G old (Failed now) = Rose (G.faults old) (G.faults now)
HasCause G old (Memory now) = Unit {0}

-- the count of faults stays where the disk didn't fail
abbrev pub StaysUnlessFailed : {D : Type 0} → Ghosts D → D → OpenRefused D → Type 0
StaysUnlessFailed G old (Damaged now damage) = G.faults now ≡ G.faults old
StaysUnlessFailed G old (Failed now) = ⊤
StaysUnlessFailed G old (Memory now) = G.faults now ≡ G.faults old

-- Why a disk is not opened. It is handed back, and a crash at any moment leaves each image with the state that it had.
pub record IsRefused {D : Type 0} (G : Ghosts D) (old : D) (refused : OpenRefused D) : Type 0 where
  pub cause : HasCause G old refused
  pub stays : StateStays (G.sight old) (G.sight (disk_in refused))
  pub later : G.faults old ≤ G.faults (disk_in refused)
  pub no_other : StaysUnlessFailed G old refused
