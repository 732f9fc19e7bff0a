-- The secret that a whole ARN names. What is done for a rotation finds its secret so, and never by an ARN without what
-- was drawn for it.
-- AWS Secrets Manager User Guide: "Lambda rotation functions" (SecretId).
use Rattle.std.specs.Prelude.{ℕ, List}
use Rattle.sm_model.specs.declared.rows.Rows.{Rows}
use Rattle.sm_model.specs.declared.rows.SecretRow.{SecretRow}
use Rattle.sm_model.specs.Versions.{When}
use Rattle.sm_table.specs.Found.{row_with_arn}
use Rattle.sm_judge_common.specs.Changes.{with_row}

-- the rows with the one that has exactly this ARN changed
abbrev pub change_with_arn : Rows → List ℕ → When → (SecretRow → SecretRow) → Rows
change_with_arn rows arn when change =
    record rows { secrets = with_row rows.secrets (row_with_arn rows.secrets arn) when change }
