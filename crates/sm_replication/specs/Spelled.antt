-- Frames whose entries or rows have a spelling.
use Rattle.std.specs.Prelude.{⊤, List, [], ◌∷◌}
use Rattle.sm_model.specs.declared.entry.Entry.{Entry}
use Rattle.sm_record.specs.declared.edition.Edition.TheVariants.{Second}
use Rattle.sm_record.specs.Snapshots.{HasSnapshot}
use Rattle.sm_record.specs.Spelling.{HasSpelling}
use Rattle.sm_replication.specs.declared.frame.Frame.{Frame}
use Rattle.sm_replication.specs.declared.frame.Frame.TheVariants.{Entries, Rows}

-- each entry has a spelling in the second format
abbrev pub AreSpelled : List Entry → Type 0
AreSpelled [] = ⊤
AreSpelled (entry ∷ entries) = HasSpelling Second entry × AreSpelled entries

-- the entries or the rows have a spelling in the second format
abbrev pub HasParts : Frame → Type 0
HasParts (Entries at entries) = AreSpelled entries
HasParts (Rows at base) = HasSnapshot Second base
