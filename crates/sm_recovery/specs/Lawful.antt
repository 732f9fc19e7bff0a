-- What a base and the entries behind it make, and when they are lawful.
use Rattle.std.specs.Prelude.{◌≡◌, [], ◌∷◌, Option, Some, None, IfSome}
use Rattle.sm_core.specs.Histories.{InTime}
use Rattle.sm_model.specs.declared.entry.Entry.{Entry}
use Rattle.sm_record.specs.declared.base.Base.{Base}
use Rattle.sm_recovery.specs.Following.{origin, after_entry, after_all, MayCome}
use Rattle.sm_base_check.specs.Bases.{IsSound}
use Rattle.sm_store.specs.Held.{Held, only, with_entry}

-- what entries are counted from: a base, or where there is none what stands before all entries
abbrev pub base_under : Option Base → Base
base_under None = origin
base_under (Some base) = base

-- what the base and the entries make: the rows, the moment of the last entry, and how many entries were made
abbrev pub made_of : Held → Base
made_of h = after_all (base_under h.base) h.entries

-- the entry may be the next one
abbrev pub MayFollow : Held → Entry → Type 0
MayFollow h entry = MayCome (made_of h) (entry ∷ [])

-- the entry, if there is one, may be the next one
abbrev pub MayFollowIf : Held → Option Entry → Type 0
MayFollowIf h entry = IfSome entry (MayFollow h)

-- The base is sound, the entries may follow it one after the other, and a clock can give the moment of each.
pub record IsLawful (h : Held) : Type 0 where
  pub sound : IsSound (base_under h.base)
  pub come : MayCome (base_under h.base) h.entries
  pub timely : InTime h.entries

-- a base without entries behind it makes itself
abbrev pub MadeOnly : Type 0
MadeOnly = (base : Base) → made_of (only base) ≡ base

-- an entry more makes what it makes of that
abbrev pub MakesOneMore : Type 0
MakesOneMore = (h : Held) (entry : Entry) → made_of (with_entry h entry) ≡ after_entry (made_of h) entry

-- What a lawful base and its entries make is sound, so that it is lawful by itself.
abbrev pub StaysLawful : Type 0
StaysLawful = (h : Held) → IsLawful h → IsLawful (only (made_of h))
