-- What opening a store over a base leaves of the disk, and why it is refused.
use Rattle.std.specs.Prelude.{◌≡◌, ◌⊎◌, ℕ, ◌≤◌, ◌<◌, ◌^◌, List, Option, None, Some}
use Rattle.sm_base.specs.Faults.{Rose}
use Rattle.sm_disk.specs.Sight.{Image, Sight}
use Rattle.sm_disk.specs.Steps.{Same, Keeps}
use Rattle.sm_disk.specs.OneFile.{Leaves}
use Rattle.sm_disk.specs.AllFiles.{LeavesBy}
use Rattle.sm_disk.specs.declared.disk.Disk.{Ghosts}
use Rattle.sm_journal.specs.Journals as journals
use Rattle.sm_journal.specs.Openings.{Untouched, ReadsAs}
use Rattle.sm_journal.specs.Records.{place_behind, IsDamaged, Recovers, SameList}
use Rattle.sm_journal.specs.declared.answers.OpenRefused.{OpenRefused}
use Rattle.sm_journal.specs.declared.answers.OpenRefused.TheVariants.{Damaged, Failed, Memory}
use Rattle.sm_journal.specs.declared.journal.Journal.{Journal}
use Rattle.sm_journal.specs.declared.parse.Damage.{Damage}
use Rattle.sm_record.specs.declared.edition.Edition.{Edition}
use Rattle.sm_store.specs.Files.{HasFault, active, KeepsList}
use Rattle.sm_store.specs.Stores.{file_of}
use Rattle.sm_store.specs.Held.{edition_of, Held, base_bodies, bodies_in, IsSpelledIn}
use Rattle.sm_store.specs.Loading.{IsNoBase, IsNoEntry, IsUnheld}
use Rattle.sm_store.specs.declared.store.Store.{Store}
use Rattle.sm_store.specs.declared.loading.Loaded.{Loaded}
use Rattle.sm_store.specs.declared.unopened.Front.{Front}
use Rattle.sm_store.specs.declared.unopened.Unopened.{Unopened}
use Rattle.sm_store.specs.declared.unopened.Unopened.TheVariants.{NoEntry, Refused}

-- what was found
abbrev pub held_of : Loaded → Held
held_of loaded = record { base = loaded.base; entries = loaded.entries }

-- what was found is what these bodies hold, in a file of this number
pub record Loads (edition : Edition) (file : ℕ) (bodies : List (List ℕ)) (loaded : Loaded) : Type 0 where
  pub spelled : IsSpelledIn edition (held_of loaded)
  pub bodies_are : bodies ≡ bodies_in edition (held_of loaded)
  pub file_is : loaded.file ≡ file
  pub gate : loaded.gate ≡ place_behind (base_bodies edition loaded.base)

-- these bodies hold this, or do so before the body that is told, which is no entry's spelling
abbrev pub LoadsUpTo : Edition → ℕ → List (List ℕ) → Loaded → Option Damage → Type 0
LoadsUpTo edition file bodies loaded None = Loads edition file bodies loaded
LoadsUpTo edition file bodies loaded (Some damage) =
    IsNoEntry edition (held_of loaded) bodies damage.at damage.entry
    × (loaded.gate ≡ place_behind (base_bodies edition loaded.base))

-- These bodies hold this before one that is no entry's spelling, which is told.
pub record IsFront (bodies : List (List ℕ)) (front : Front) : Type 0 where
  pub behind : IsNoEntry (edition_of front.format) (held_of front.loaded) bodies front.damage.at front.damage.entry
  pub gate : front.loaded.gate ≡ place_behind (base_bodies (edition_of front.format) front.loaded.base)
  pub short : place_behind bodies < 2 ^ 64

-- a store over a journal of these bodies, and what was found in it
pub record OpensOver {D : Type 0} {G : Ghosts D} (journal : Journal D G) (file : ℕ) (bodies : List (List ℕ))
    (opened : Store D G × Loaded) : Type 0 where
  pub over : opened.0.journal ≡ journal
  pub in_file : file_of opened.0 ≡ file
  pub loads : Loads (edition_of (journals.format_of journal)) file bodies opened.1

-- one of the bodies of a journal is no entry's spelling; or the first are of rows and no base's, or memory was wanted
abbrev pub IsUnloaded : {D : Type 0} {G : Ghosts D} → Journal D G → List (List ℕ) → Unopened D → Type 0
IsUnloaded journal bodies (NoEntry now front) = (now ≡ journals.disk_of journal)
    × (front.format ≡ journals.format_of journal) × IsFront bodies front
IsUnloaded journal bodies (Refused (Damaged now damage)) = (now ≡ journals.disk_of journal)
    × IsNoBase (edition_of (journals.format_of journal)) bodies damage.at damage.entry
IsUnloaded journal bodies (Refused (Failed now)) = ⊥
IsUnloaded journal bodies (Refused (Memory now)) = now ≡ journals.disk_of journal

-- a read gives an image whose active file has P
abbrev pub ReadsActive : (List ℕ → Type 0) → Sight → Type 0
ReadsActive P now = (s : Image) → now.reads s → P (active s)

-- each file stays
pub record AllStay (old now : Sight) : Type 0 where
  pub leaves : LeavesBy Same Same old now
  pub reads : Keeps old now

-- a crash at any moment since old leaves each image with the list of records in the file that its root names, and with
-- the other files
abbrev pub ListsStay : Sight → Sight → Type 0
ListsStay old now = LeavesBy KeepsList KeepsList old now

-- the file that counts is outside the grammar, or its bodies have this fault, at this place
abbrev pub IsFaultyAt : (Edition → List (List ℕ) → ℕ → ℕ → Type 0) → ℕ → ℕ → Sight → Sight → Type 0
IsFaultyAt fault at entry old now = (AllStay old now × ReadsActive (λ bytes. IsDamaged bytes at entry) old)
    ⊎ (ListsStay old now × ReadsActive (λ bytes. HasFault fault bytes at entry) old)

-- Why a store isn't opened: the file that counts is damaged, or its bodies have this fault; or the disk failed, or
-- memory was wanted, and each image keeps its lists. Each hands the disk back, and the count of faults rose only where
-- the disk failed.
abbrev pub IsRefusedBy : (Edition → List (List ℕ) → ℕ → ℕ → Type 0) → {D : Type 0} → Ghosts D → D → OpenRefused D
    → Type 0
IsRefusedBy fault G old (Damaged now damage) =
    IsFaultyAt fault damage.at damage.entry (G.sight old) (G.sight now) × (G.faults now ≡ G.faults old)
IsRefusedBy fault G old (Failed now) = ListsStay (G.sight old) (G.sight now) × (G.faults old ≤ G.faults now)
    × Rose (G.faults old) (G.faults now)
IsRefusedBy fault G old (Memory now) = ListsStay (G.sight old) (G.sight now) × (G.faults now ≡ G.faults old)

-- the same, where the bodies are not those of a base and entries
abbrev pub IsOpenRefused : {D : Type 0} → Ghosts D → D → OpenRefused D → Type 0
IsOpenRefused G old refused = IsRefusedBy IsUnheld G old refused

-- a body is no entry's spelling, and what is before it is handed over; or the store isn't opened for another reason
abbrev pub IsUnopened : {D : Type 0} → Ghosts D → D → Unopened D → Type 0
IsUnopened G old (NoEntry now front) = ListsStay (G.sight old) (G.sight now) × (G.faults now ≡ G.faults old)
    × (bodies : List (List ℕ)) × IsFront bodies front
    × ReadsActive (λ bytes. Recovers bytes front.format bodies) (G.sight old)
IsUnopened G old (Refused refused) = IsRefusedBy IsNoBase G old refused

-- the same of one file, once each root names it
abbrev pub IsDamagedIn : ℕ → ℕ → ℕ → Sight → Sight → Type 0
IsDamagedIn file at entry old now = (Untouched file old now × ReadsAs file (λ bytes. IsDamaged bytes at entry) old)
    ⊎ (Leaves file SameList SameList old now × ReadsAs file (λ bytes. HasFault IsNoBase bytes at entry) old)

abbrev pub IsRefusedIn : {D : Type 0} → Ghosts D → ℕ → D → OpenRefused D → Type 0
IsRefusedIn G file old (Damaged now damage) = IsDamagedIn file damage.at damage.entry (G.sight old) (G.sight now)
    × (G.faults now ≡ G.faults old)
IsRefusedIn G file old (Failed now) = Leaves file SameList SameList (G.sight old) (G.sight now)
    × (G.faults old ≤ G.faults now) × Rose (G.faults old) (G.faults now)
IsRefusedIn G file old (Memory now) = Leaves file SameList SameList (G.sight old) (G.sight now)
    × (G.faults now ≡ G.faults old)

abbrev pub IsUnopenedIn : {D : Type 0} → Ghosts D → ℕ → D → Unopened D → Type 0
IsUnopenedIn G file old (NoEntry now front) = Leaves file SameList SameList (G.sight old) (G.sight now)
    × (G.faults now ≡ G.faults old) × (bodies : List (List ℕ)) × IsFront bodies front
    × ReadsAs file (λ bytes. Recovers bytes front.format bodies) (G.sight old)
IsUnopenedIn G file old (Refused refused) = IsRefusedIn G file old refused
