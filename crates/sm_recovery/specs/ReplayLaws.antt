-- Laws of entries that follow a base.
use Rattle.std.specs.Prelude.{◌≡◌, ◌+◌, List, length}
use Rattle.sm_model.specs.declared.entry.Entry.{Entry}
use Rattle.sm_record.specs.declared.base.Base.{Base}
use Rattle.sm_core.specs.Histories.{replay, last_moment, InTime}
use Rattle.sm_base_check.specs.Bases.{IsSound}
use Rattle.sm_recovery.specs.Following.{after_all, MayCome}

-- entries that may follow a sound base leave a sound one
abbrev pub KeepsSound : Type 0
KeepsSound = (base : Base) (entries : List Entry) → IsSound base → MayCome base entries → InTime entries
    → IsSound (after_all base entries)

-- the base that entries make has the rows that they make, the moment of the last of them, and all of them counted
pub record AreReplayed (base : Base) (entries : List Entry) : Type 0 where
  pub rows : (after_all base entries).rows ≡ replay base.rows entries
  pub last : (after_all base entries).last ≡ last_moment base.last entries
  pub counted : (after_all base entries).entries ≡ base.entries + length entries

abbrev pub MakesAsReplayed : Type 0
MakesAsReplayed = (base : Base) (entries : List Entry) → AreReplayed base entries
