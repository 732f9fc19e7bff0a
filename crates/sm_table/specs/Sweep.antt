-- The rows that are still there at a moment.
-- AWS Secrets Manager API Reference: DeleteSecret (DeletionDate).
use Rattle.std.specs.Prelude.{Bool, List, [], ◌∷◌, if◌then◌else◌}
use Rattle.sm_base.specs.declared.moment.Moment.{Moment}
use Rattle.sm_model.specs.declared.rows.SecretRow.{SecretRow}
use Rattle.sm_model.specs.declared.rows.Rows.{Rows}
use Rattle.sm_model.specs.Due.{is_reached}

-- the secret's deletion date is reached
abbrev pub is_gone : SecretRow → Moment → Bool
is_gone row moment = is_reached row.deletion moment

-- the rows that have no deletion date or one above the moment
abbrev pub swept : List SecretRow → Moment → List SecretRow
swept [] moment = []
swept (r ∷ rs) moment = if is_gone r moment then swept rs moment else r ∷ swept rs moment

-- the same of all rows
abbrev pub sweep : Rows → Moment → Rows
sweep rows moment = record rows { secrets = swept rows.secrets moment }
