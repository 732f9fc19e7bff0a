-- What holds at each prefix of a history.
use Rattle.std.specs.Prelude.{List, ◌++◌}
use Rattle.sm_core.specs.Histories.{InTime}
use Rattle.sm_model.specs.declared.entry.Entry.{Entry}
use Rattle.sm_record.specs.declared.base.Base.{Base}
use Rattle.sm_recovery.specs.Following.{after_all, MayCome}
use Rattle.sm_base_check.specs.Bases.{IsSound}

-- where all entries may follow a sound base, and a clock can give the moment of each, those up to any place may follow
-- it, and what they make is sound
abbrev pub PrefixesStand : Type 0
PrefixesStand =
    (base : Base) → (before : List Entry) → (more : List Entry) → IsSound base → MayCome base (before ++ more)
    → InTime (before ++ more) → MayCome base before × IsSound (after_all base before)
