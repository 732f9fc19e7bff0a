-- A secret whose rotation is due.
-- AWS Secrets Manager User Guide: "Rotation schedules"; API Reference: RotationRulesType (AutomaticallyAfterDays).
use Rattle.std.specs.Prelude.{ℕ, Bool, false, true, not, ◌&&◌, nat_le, List, Option, Some, None, is_some, is_none}
use Rattle.sm_base.specs.Texts.{same_text}
use Rattle.sm_base.specs.declared.moment.Moment.{Moment}
use Rattle.sm_model.specs.Labels.{aws_current, aws_pending, holder}
use Rattle.sm_model.specs.Versions.{When, has_version, is_full_when}
use Rattle.sm_model.specs.declared.rows.SecretRow.{SecretRow}

-- the date is there, and the moment has reached it
abbrev pub is_reached : Option Moment → Moment → Bool
is_reached None moment = false
is_reached (Some date) moment = nat_le date.0 moment.0

-- nobody holds the first label, or who holds the second holds it
abbrev pub is_free_or_held_by : Option (List ℕ) → Option (List ℕ) → Bool
is_free_or_held_by None current = true
is_free_or_held_by (Some pending) None = false
is_free_or_held_by (Some pending) (Some current) = same_text pending current

-- Rotation is on and its next date is reached, the secret is not scheduled for deletion, some version holds AWSCURRENT,
-- AWSPENDING is held by none or by that version, and a version may be added.
abbrev pub is_due_when : SecretRow → When → Bool
is_due_when row when =
    row.rotation.enabled && is_reached row.rotation.next when.moment && is_none row.deletion
    && is_some (holder row.labels aws_current)
    && is_free_or_held_by (holder row.labels aws_pending) (holder row.labels aws_current)
    && not (is_full_when row when)

-- a due rotation may begin with the token: no version has it as its id
abbrev pub is_due_for_when : SecretRow → When → List ℕ → Bool
is_due_for_when row when token = is_due_when row when && not (has_version row.versions token)
