-- The start of a due rotation: when it may be made, and what it changes.
-- AWS Secrets Manager User Guide: "Rotation schedules"; API Reference: RotateSecret (ClientRequestToken).
use Rattle.std.specs.Prelude.{◌≡◌, ℕ, nat_eq, if◌then◌else◌, List, length, Option, Some, None, IsTrue, IsSomeAnd}
use Rattle.sm_base.specs.Drawn.{drawn_token}
use Rattle.sm_model.specs.declared.entry.Change.{Change}
use Rattle.sm_model.specs.declared.entry.Change.TheVariants.{Replace}
use Rattle.sm_model.specs.declared.rows.Rows.{Rows}
use Rattle.sm_model.specs.declared.rows.SecretRow.{SecretRow}
use Rattle.sm_model.specs.Versions.{When}
use Rattle.sm_model.specs.Due.{is_due_for_when}
use Rattle.sm_rotation.specs.Begin.{begin_row}
use Rattle.sm_table.specs.Found.{found_arn}
use Rattle.sm_judge_common.specs.Secrets.{finished_row}
use Rattle.sm_judge_rotations.specs.declared.begun.TheConstants.{TOKEN_BYTES}
use Rattle.sm_judge_rotations.specs.WholeArns.{change_with_arn}

-- the rotation started in the row, where it is due for the token
abbrev pub begun_on : SecretRow → When → List ℕ → Option Change
begun_on row when token =
    if is_due_for_when row when token
    then Some (Replace (finished_row (begin_row row token when.moment) when)) else None

abbrev pub begun_found : Option SecretRow → When → List ℕ → Option Change
begun_found None when token = None
begun_found (Some row) when token = begun_on row when token

-- the change of a start with these random bytes, where it may be made
abbrev pub begun_change : Rows → When → List ℕ → List ℕ → Option Change
begun_change rows when drawn arn =
    if nat_eq (length drawn) TOKEN_BYTES then begun_found (found_arn rows when.moment arn) when (drawn_token drawn)
    else None

-- A start is legal where 16 random bytes were drawn for it, and the secret that has exactly this ARN is due for their
-- token at the moment.
abbrev pub MayBegin : Rows → When → List ℕ → List ℕ → Type 0
MayBegin rows when drawn arn =
    (length drawn ≡ TOKEN_BYTES)
    × IsSomeAnd (found_arn rows when.moment arn) (λ row. IsTrue (is_due_for_when row when (drawn_token drawn)))

-- the secret's row with its rotation started, among those that are still there; its rotation and the next date stay
abbrev pub begun_effect : Rows → When → List ℕ → List ℕ → Rows
begun_effect rows when drawn arn =
    change_with_arn rows arn when (λ row. begin_row row (drawn_token drawn) when.moment)
