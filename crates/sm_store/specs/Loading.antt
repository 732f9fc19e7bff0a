-- What the bodies of a file hold, or why they hold nothing.
use Rattle.std.specs.Prelude.{◌≡◌, ◌⊎◌, ℕ, ◌+◌, ◌<◌, nat_le, Bool, ◌&&◌, List, [], ◌∷◌, ◌++◌, map, length, take, drop, get_or, Option, None, Some}
use Rattle.std.specs.List.{prefix_len}
use Rattle.sm_journal.specs.Records.{size, place_behind}
use Rattle.sm_journal.specs.declared.parse.Damage.{Damage}
use Rattle.sm_model.specs.declared.entry.Entry.{Entry}
use Rattle.sm_record.specs.declared.base.Base.{Base}
use Rattle.sm_record.specs.declared.edition.Edition.{Edition}
use Rattle.sm_record.specs.Snapshots.{snapshot, HasSnapshot}
use Rattle.sm_record.specs.Spelling.{spelling, HasSpelling}
use Rattle.sm_store.specs.Held.{Held, AreEntries, IsSnapshot, base_bodies, bodies_in, IsSpelledIn}

-- the body begins with one of the three bytes of rows: f1, f2 and f3
abbrev pub is_marked : List ℕ → Bool
is_marked body = nat_le 241 (get_or body 0 0) && nat_le (get_or body 0 0) 243

-- how many of the first bodies are of rows
abbrev pub marked_count : List (List ℕ) → ℕ
marked_count bodies = prefix_len is_marked bodies

-- these bodies
abbrev pub marked : List (List ℕ) → List (List ℕ)
marked bodies = take (marked_count bodies) bodies

-- and those behind them
abbrev pub behind_marked : List (List ℕ) → List (List ℕ)
behind_marked bodies = drop (marked_count bodies) bodies

-- The bodies begin with those of this.
pub record BeginsWith (edition : Edition) (h : Held) (bodies : List (List ℕ)) : Type 0 where
  pub spelled : IsSpelledIn edition h
  pub base : marked bodies ≡ base_bodies edition h.base
  pub rest : List (List ℕ)
  pub split : bodies ≡ bodies_in edition h ++ rest

-- no base's spelling, which is told at the first gate
pub record IsNoSnapshot (edition : Edition) (bodies : List (List ℕ)) (at entry : ℕ) : Type 0 where
  pub none : (base : Base) → HasSnapshot edition base → ¬ (snapshot edition base ≡ bodies)
  pub place : at ≡ place_behind []
  pub number : entry ≡ 0

-- Behind these entries is a body that is no entry's spelling. That is told at its gate, where the first of these bodies
-- has this one, and the number is that of all bodies before it, where so many are before these.
pub record IsNoEntryIn (edition : Edition) (list : List Entry) (bodies : List (List ℕ))
    (gate before at entry : ℕ) : Type 0 where
  pub body : List ℕ
  pub after : List (List ℕ)
  pub spelled : AreEntries edition list
  pub split : bodies ≡ map (spelling edition) list ++ body ∷ after
  pub none : (e : Entry) → HasSpelling edition e → ¬ (spelling edition e ≡ body)
  pub place : at ≡ gate + size (map (spelling edition) list)
  pub number : entry ≡ before + length list

-- the bodies are those of these entries, or those before one that is no entry's spelling are
abbrev pub ReadsUpTo : Edition → List (List ℕ) → ℕ → ℕ → List Entry → Option Damage → Type 0
ReadsUpTo edition bodies gate before list None = AreEntries edition list × (bodies ≡ map (spelling edition) list)
ReadsUpTo edition bodies gate before list (Some damage) =
    IsNoEntryIn edition list bodies gate before damage.at damage.entry

-- the first bodies are of rows, and no base's spelling
abbrev pub IsNoBase : Edition → List (List ℕ) → ℕ → ℕ → Type 0
IsNoBase edition bodies at entry = (0 < marked_count bodies) × IsNoSnapshot edition (marked bodies) at entry

-- The first bodies are those of this base, or none is of rows. The next are those of these entries, and the one behind
-- them is no entry's.
pub record IsNoEntry (edition : Edition) (h : Held) (bodies : List (List ℕ)) (at entry : ℕ) : Type 0 where
  pub spelled : IsSnapshot edition h.base
  pub front : marked bodies ≡ base_bodies edition h.base
  pub behind : IsNoEntryIn edition h.entries (behind_marked bodies) (place_behind (marked bodies))
      (length (marked bodies)) at entry

-- the bodies are not those of a base and entries
abbrev pub IsUnheld : Edition → List (List ℕ) → ℕ → ℕ → Type 0
IsUnheld edition bodies at entry = IsNoBase edition bodies at entry ⊎ ((h : Held) × IsNoEntry edition h bodies at entry)
