-- How long the file of a base is.
use Rattle.std.specs.Prelude.{ℕ, ◌+◌}
use Rattle.sm_journal.specs.Records.{size}
use Rattle.sm_record.specs.Snapshots.{snapshot}
use Rattle.sm_record.specs.declared.base.Base.{Base}
use Rattle.sm_record.specs.declared.edition.Edition.TheVariants.{Second}

-- how many bytes the file of a base has that no entries stand behind: the header, the records and the closed gate
abbrev pub file_size : Base → ℕ
file_size base = 9 + size (snapshot Second base)
