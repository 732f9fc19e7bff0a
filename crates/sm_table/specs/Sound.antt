-- What holds of all rows between any two changes, all of it.
-- AWS Secrets Manager User Guide: "AWS Secrets Manager quotas".
use Rattle.std.specs.Prelude.{◌<◌, ◌≤◌, List, length, IsTrue}
use Rattle.sm_base.specs.declared.limits.TheConstants.{SECRETS_LIMIT}
use Rattle.sm_model.specs.declared.entry.Change.{Change}
use Rattle.sm_model.specs.declared.entry.Change.TheVariants.{Add, Replace, Drop, Nothing}
use Rattle.sm_model.specs.declared.rows.SecretRow.{SecretRow}
use Rattle.sm_model.specs.declared.rows.Rows.{Rows}
use Rattle.sm_versions.specs.Texts.{once}
use Rattle.sm_versions.specs.Serials.{rises}
use Rattle.sm_versions.specs.Sound.{RowSound}
use Rattle.sm_table.specs.Kept.{row_serials, row_names, Each}

abbrev pub EachSound : List SecretRow → Type 0
EachSound rows = Each RowSound rows

-- Serials rise and are below the next one, no name stands twice, there are not too many secrets, and each is sound.
pub record Sound (rows : Rows) : Type 0 where
  pub serials : IsTrue (rises 0 (row_serials rows.secrets) rows.next)
  pub names : IsTrue (once (row_names rows.secrets))
  pub count : length rows.secrets ≤ SECRETS_LIMIT
  pub each : EachSound rows.secrets

-- An added or a replacing row is sound, and beside these rows there is room for an added one.
abbrev pub ChangeSound : Rows → Change → Type 0
ChangeSound rows (Add row) = RowSound row × (length rows.secrets < SECRETS_LIMIT)
ChangeSound rows (Replace row) = RowSound row
ChangeSound rows (Drop serial) = Unit {0}
ChangeSound rows Nothing = Unit {0}
