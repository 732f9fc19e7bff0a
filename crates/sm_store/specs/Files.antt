-- What the file that counts holds, in one format.
use Rattle.std.specs.Prelude.{◌⊎◌, ℕ, List, [], Option, None, Some}
use Rattle.sm_disk.specs.Sight.{Image}
use Rattle.sm_disk.specs.Steps.{OnFile}
use Rattle.sm_journal.specs.Records.{Recovers, SameList}
use Rattle.sm_journal.specs.Roots.{named}
use Rattle.sm_journal.specs.declared.format.Format.{Format}
use Rattle.sm_journal.specs.declared.root.TheConstants.{ROOT}
use Rattle.sm_model.specs.declared.entry.Entry.{Entry}
use Rattle.sm_record.specs.declared.edition.Edition.{Edition}
use Rattle.sm_store.specs.Held.{edition_of, Held, with_entry, bodies_in, IsSpelledIn}
use Rattle.sm_store.specs.Loading.{IsUnheld}

-- neither a base nor entries
abbrev pub nothing_held : Held
nothing_held = record { base = None; entries = [] }

-- The file has this in this format: the bodies of its counted records spell it. It has one proof at most.
abbrev pub HoldsAs : Format → Held → List ℕ → Type 0
HoldsAs f h bytes = Recovers bytes f (bodies_in (edition_of f) h) × IsSpelledIn (edition_of f) h

-- the file has this in this format, or it and one entry more, if there is one
abbrev pub HoldsEither : Format → Held → Option Entry → List ℕ → Type 0
HoldsEither f h None bytes = HoldsAs f h bytes
HoldsEither f h (Some e) bytes = HoldsAs f h bytes ⊎ HoldsAs f (with_entry h e) bytes

-- the file has a list of records, and their bodies have this fault at this place
abbrev pub HasFault : (Edition → List (List ℕ) → ℕ → ℕ → Type 0) → List ℕ → ℕ → ℕ → Type 0
HasFault fault bytes at entry = (f : Format) × (bodies : List (List ℕ)) × Recovers bytes f bodies
    × fault (edition_of f) bodies at entry

-- the file has a list of records, and their bodies are not those of a base and entries
abbrev pub IsForeign : List ℕ → ℕ → ℕ → Type 0
IsForeign bytes at entry = HasFault IsUnheld bytes at entry

-- what stands in the file that the root names
abbrev pub active : Image → List ℕ
active c = c (named (c ROOT))

-- the file that the root names keeps its list of records, and the other files stay
abbrev pub KeepsList : Image → Image → Type 0
KeepsList d c = OnFile (named (d ROOT)) SameList d c
