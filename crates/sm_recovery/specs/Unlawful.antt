-- Why what stands on a disk is not lawful, and where that is told.
use Rattle.std.specs.Prelude.{◌≡◌, ◌⊎◌, ℕ, List, [], length, take}
use Rattle.sm_journal.specs.Records.{place_behind}
use Rattle.sm_record.specs.declared.base.Base.{Base}
use Rattle.sm_record.specs.declared.edition.Edition.{Edition}
use Rattle.sm_recovery.specs.Following.{StopsAfter}
use Rattle.sm_base_check.specs.Bases.{IsSound}
use Rattle.sm_store.specs.Files.{HasFault}
use Rattle.sm_store.specs.Held.{Held, bodies_in, HoldsFile}
use Rattle.sm_store.specs.Loading.{BeginsWith, IsNoBase, IsNoEntry}
use Rattle.sm_recovery.specs.Lawful.{base_under, IsLawful}
use Rattle.sm_recovery.specs.declared.lawful.Unlawful.{Unlawful}
use Rattle.sm_recovery.specs.declared.lawful.Unlawful.TheVariants.{Damaged, Memory}

-- the base and so many of the entries behind it
abbrev pub front_of : Held → ℕ → Held
front_of h count = record { base = h.base; entries = take count h.entries }

-- A base that is not sound is told at the first gate.
pub record IsUnsoundBase (base : Base) (at entry : ℕ) : Type 0 where
  pub not : IsSound base → ⊥
  pub place : at ≡ place_behind []
  pub number : entry ≡ 0

-- An entry is told at its gate, and the number is that of the bodies before it: of the base, and of so many entries.
pub record IsToldBehind (edition : Edition) (h : Held) (count at entry : ℕ) : Type 0 where
  pub place : at ≡ place_behind (bodies_in edition (front_of h count))
  pub number : entry ≡ length (bodies_in edition (front_of h count))

-- The base is sound, and so many of the entries may follow it, and not one more: that one is told.
pub record IsIllegal (edition : Edition) (h : Held) (at entry : ℕ) : Type 0 where
  pub count : ℕ
  pub sound : IsSound (base_under h.base)
  pub stops : StopsAfter (base_under h.base) h.entries count
  pub told : IsToldBehind edition h count at entry

-- what stands in a file is not lawful, and it is told at this place
abbrev pub IsUnlawful : Edition → Held → ℕ → ℕ → Type 0
IsUnlawful edition h at entry = IsUnsoundBase (base_under h.base) at entry ⊎ IsIllegal edition h at entry

-- The first fault of the bodies is told at this place. The first of them are of rows, and no base's spelling; or they
-- begin with what is not lawful; or with what is, and the next one is no entry's spelling.
abbrev pub IsFirstFault : Edition → List (List ℕ) → ℕ → ℕ → Type 0
IsFirstFault edition bodies at entry = IsNoBase edition bodies at entry
    ⊎ ((h : Held) × BeginsWith edition h bodies × IsUnlawful edition h at entry)
    ⊎ ((h : Held) × IsLawful h × IsNoEntry edition h bodies at entry)

-- the bodies have one first fault at most, so that none is told which comes behind another
abbrev pub OneFirstFault : Type 0
OneFirstFault = (edition : Edition) (bodies : List (List ℕ)) (at entry other number : ℕ)
    → IsFirstFault edition bodies at entry → IsFirstFault edition bodies other number → (at ≡ other) × (entry ≡ number)

-- a file of what is lawful has none
abbrev pub LawfulHasNone : Type 0
LawfulHasNone = (bytes : List ℕ) (h : Held) (at entry : ℕ) → HoldsFile h bytes → IsLawful h
    → HasFault IsFirstFault bytes at entry → ⊥

-- a fact of the place and the number that are told
abbrev pub OnDamaged : (ℕ → ℕ → Type 0) → Unlawful → Type 0
OnDamaged P (Damaged damage) = P damage.at damage.entry
OnDamaged P Memory = Unit {0}
