-- The value of a version by its label.
use Rattle.std.specs.Prelude.{ℕ, List, Option, Some, None}
use Rattle.sm_base.specs.declared.moment.Moment.{Moment}
use Rattle.sm_base.specs.declared.secret_id.SecretId.{SecretId}
use Rattle.sm_model.specs.declared.rows.Rows.{Rows}
use Rattle.sm_model.specs.declared.rows.SecretRow.{SecretRow}
use Rattle.sm_model.specs.declared.rows.VersionRow.{VersionRow}
use Rattle.sm_model.specs.declared.value.Value.{Value}
use Rattle.sm_table.specs.Found.{found}
use Rattle.sm_versions.specs.Find.{version_labelled}

abbrev pub value_in : Option VersionRow → Option Value
value_in None = None
value_in (Some version) = version.value

abbrev pub labelled_in : Option SecretRow → List ℕ → Option Value
labelled_in None label = None
labelled_in (Some row) label = value_in (version_labelled row label)

-- the value of the version that has the label, in the secret that the SecretId names at the moment
abbrev pub value_labelled : Rows → Moment → SecretId → List ℕ → Option Value
value_labelled rows moment id label = labelled_in (found rows moment id) label
