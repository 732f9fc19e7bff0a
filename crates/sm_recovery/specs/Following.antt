-- Entries that follow a base, one after the other.
use Rattle.std.specs.Prelude.{⊤, ℕ, ◌+◌, ◌-◌, ◌^◌, ◌<◌, ◌≤◌, List, [], ◌∷◌, length, take, Result, Ok, Err}
use Rattle.sm_model.specs.declared.entry.Entry.{Entry}
use Rattle.sm_record.specs.declared.base.Base.{Base}
use Rattle.sm_core.specs.Effects.{effect}
use Rattle.sm_core.specs.Histories.{no_rows, Legal}
use Rattle.sm_recovery.specs.declared.replay_state.Refusal.{Refusal}
use Rattle.sm_recovery.specs.declared.replay_state.Refusal.TheVariants as refusals
use Rattle.sm_recovery.specs.declared.replay_state.Stopped.{Stopped}
use Rattle.sm_recovery.specs.declared.replay_state.Stopped.TheVariants.{Illegal, Memory}

-- before all entries
abbrev pub origin : Base
origin = record { rows = no_rows; last = record { 0 = 0 }; entries = 0 }

-- what an entry makes of a base
abbrev pub after_entry : Base → Entry → Base
after_entry base entry = record {
  rows = effect base.rows entry;
  last = entry.moment;
  entries = base.entries + 1;
}

-- what entries make of a base
abbrev pub after_all : Base → List Entry → Base
after_all base [] = base
after_all base (entry ∷ entries) = after_all (after_entry base entry) entries

-- how many entries there may be, those before a base among them
abbrev pub entries_limit : ℕ
entries_limit = 2 ^ 64 - 1

-- The entries may follow the base: each is legal at the rows of those before it, none is before the one that it
-- follows, and together with those before the base they are not too many.
pub record MayCome (base : Base) (entries : List Entry) : Type 0 where
  pub legal : Legal base.rows base.last entries
  pub counted : base.entries + length entries ≤ entries_limit

-- so many of the entries may follow the base, and not one more
pub record StopsAfter (base : Base) (entries : List Entry) (count : ℕ) : Type 0 where
  pub within : count < length entries
  pub legal : MayCome base (take count entries)
  pub not : MayCome base (take (count + 1) entries) → ⊥

abbrev pub StopsAt : Base → List Entry → Stopped → Type 0
StopsAt base entries (Illegal count) = StopsAfter base entries count
StopsAt base entries Memory = ⊤

-- a fact where an entry was refused for what it is
abbrev pub OnRefused : Result (Unit {0}) Refusal → Type 0 → Type 0
OnRefused (Ok done) P = ⊤
OnRefused (Err refusals.Illegal) P = P
OnRefused (Err refusals.Memory) P = ⊤
