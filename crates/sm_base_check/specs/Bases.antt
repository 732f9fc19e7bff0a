-- What a base is that entries may be counted from.
-- AWS Secrets Manager User Guide: "AWS Secrets Manager quotas".
use Rattle.std.specs.Prelude.{◌≤◌}
use Rattle.sm_base.specs.declared.moment.TheConstants.{LAST_READING}
use Rattle.sm_record.specs.declared.base.Base.{Base}
use Rattle.sm_table.specs.Sound.{Sound}

-- The rows are sound, and the last moment is one that a clock reads.
pub record IsSound (base : Base) : Type 0 where
  pub rows : Sound base.rows
  pub last : base.last.0 ≤ LAST_READING
