-- What an accepted request changes: AWS Secrets Manager API Reference, DescribeSecret (LastChangedDate).
use Rattle.std.specs.Prelude.{◌≡◌, List, map, Option, Some, None}
use Rattle.sm_base.specs.declared.moment.Moment.{Moment}
use Rattle.sm_base.specs.declared.secret_id.SecretId.{SecretId}
use Rattle.sm_model.specs.declared.entry.Change.{Change}
use Rattle.sm_model.specs.declared.rows.Rows.{Rows}
use Rattle.sm_model.specs.declared.rows.SecretRow.{SecretRow}
use Rattle.sm_model.specs.Versions.{When}
use Rattle.sm_versions.specs.Prune.{pruned}
use Rattle.sm_versions.specs.Settle.{settle}
use Rattle.sm_table.specs.Sweep.{sweep}
use Rattle.sm_table.specs.Found.{named_by}
use Rattle.sm_table.specs.Changes.{replaced, changed, CanMake, StandsAt}
use Rattle.sm_table.specs.Sound.{ChangeSound}

-- The rows with one of them changed, its changed moment set, and the versions that need not be kept dropped from it,
-- where they are dropped with the change. (A row that is settled before or after that is the same.)
abbrev pub with_row : List SecretRow → Option SecretRow → When → (SecretRow → SecretRow) → List SecretRow
with_row secrets None when change = secrets
with_row secrets (Some row) when change = replaced secrets (pruned (record (change row) { changed = when.moment }) when)

-- the rows with the one that the SecretId names changed
abbrev pub change_named : Rows → SecretId → When → (SecretRow → SecretRow) → Rows
change_named rows id when change =
    record rows { secrets = with_row rows.secrets (named_by rows.secrets id) when change }

-- every row settled
abbrev pub settled : Rows → Rows
settled rows = record rows { secrets = map settle rows.secrets }

-- all that is asked of a change: it makes these rows, the table can make it at the moment, and it leaves the rows sound
pub record IsChange (rows : Rows) (moment : Moment) (after : Rows) (change : Change) : Type 0 where
  pub makes : changed (sweep rows moment) change ≡ after
  pub can : CanMake rows change
  pub stands : StandsAt rows moment change
  pub sound : ChangeSound (sweep rows moment) change
