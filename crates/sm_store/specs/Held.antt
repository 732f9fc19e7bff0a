-- What a disk of two journals and a root holds: a base, or none, and the entries behind it.
use Rattle.std.specs.Prelude.{◌≡◌, ◌⊎◌, ℕ, List, [], ◌∷◌, ◌++◌, map, Option, None, Some}
use Rattle.sm_disk.specs.Sight.{Image}
use Rattle.sm_journal.specs.Records.{Recovers}
use Rattle.sm_journal.specs.Roots.{named}
use Rattle.sm_journal.specs.declared.format.Format.{Format}
use Rattle.sm_journal.specs.declared.format.Format.TheVariants as formats
use Rattle.sm_journal.specs.declared.root.TheConstants.{ROOT}
use Rattle.sm_model.specs.declared.entry.Entry.{Entry}
use Rattle.sm_record.specs.declared.base.Base.{Base}
use Rattle.sm_record.specs.declared.edition.Edition.{Edition}
use Rattle.sm_record.specs.declared.edition.Edition.TheVariants as editions
use Rattle.sm_record.specs.Spelling.{spelling, HasSpelling}
use Rattle.sm_record.specs.Snapshots.{snapshot, HasSnapshot}

-- the format of the bodies in a file of this format
abbrev pub edition_of : Format → Edition
edition_of formats.First = editions.First
edition_of formats.Second = editions.Second

-- no base is another thing than the base of no rows: the two have other files
pub record Held : Type 0 where
  pub base : Option Base
  pub entries : List Entry

-- a base without entries behind it
abbrev pub only : Base → Held
only base = record { base = Some base; entries = [] }

-- one entry more
abbrev pub with_entry : Held → Entry → Held
with_entry h e = record { base = h.base; entries = h.entries ++ e ∷ [] }

abbrev pub base_bodies : Edition → Option Base → List (List ℕ)
base_bodies edition None = []
base_bodies edition (Some base) = snapshot edition base

-- the bodies of the base and of the entries
abbrev pub bodies_in : Edition → Held → List (List ℕ)
bodies_in edition h = base_bodies edition h.base ++ map (spelling edition) h.entries

abbrev pub IsSnapshot : Edition → Option Base → Type 0
IsSnapshot edition None = Unit {0}
IsSnapshot edition (Some base) = HasSnapshot edition base

abbrev pub AreEntries : Edition → List Entry → Type 0
AreEntries edition [] = Unit {0}
AreEntries edition (e ∷ list) = HasSpelling edition e × AreEntries edition list

-- the entry, if there is one, has a spelling
abbrev pub IsEntry : Edition → Option Entry → Type 0
IsEntry edition None = Unit {0}
IsEntry edition (Some e) = HasSpelling edition e

-- the base and the entries have spellings
pub record IsSpelledIn (edition : Edition) (h : Held) : Type 0 where
  pub base : IsSnapshot edition h.base
  pub entries : AreEntries edition h.entries

-- The file has this: the bodies of its counted records spell it, in the file's format.
abbrev pub HoldsFile : Held → List ℕ → Type 0
HoldsFile h bytes = (f : Format) × Recovers bytes f (bodies_in (edition_of f) h) × IsSpelledIn (edition_of f) h

-- the file that the root of an image names has this
abbrev pub Recovered : Held → Image → Type 0
Recovered h c = HoldsFile h (c (named (c ROOT)))

-- this, or it and one entry more, if there is one
abbrev pub RecoveredEither : Held → Option Entry → Image → Type 0
RecoveredEither h None c = Recovered h c
RecoveredEither h (Some e) c = Recovered h c ⊎ Recovered (with_entry h e) c

-- what an image recovers to, the other recovers to
abbrev pub SameHeld : Image → Image → Type 0
SameHeld d c = (h : Held) → Recovered h d → Recovered h c

-- what was held, or the new one
abbrev pub HeldOr : Held → Held → Image → Image → Type 0
HeldOr h new d c = Recovered h c ⊎ Recovered new c

-- the new one
abbrev pub HeldNew : Held → Image → Image → Type 0
HeldNew new d c = Recovered new c

-- the two files of a disk that are journals
abbrev pub AreTwo : ℕ → ℕ → Type 0
AreTwo file other = ((file ≡ 0) × (other ≡ 1)) ⊎ ((file ≡ 1) × (other ≡ 0))
