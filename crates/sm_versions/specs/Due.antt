-- A secret whose rotation is due, where the versions count that are kept.
-- AWS Secrets Manager User Guide: "Rotation schedules"; API Reference: RotationRulesType (AutomaticallyAfterDays).
use Rattle.std.specs.Prelude.{ℕ, Bool, ◌&&◌, List, Option, None, is_none, is_some, if◌then◌else◌}
use Rattle.sm_base.specs.declared.moment.Moment.{Moment}
use Rattle.sm_model.specs.Due.{is_free_or_held_by, is_due_when, is_due_for_when}
use Rattle.sm_model.specs.Labels.{aws_current, aws_pending, holder}
use Rattle.sm_model.specs.declared.rows.SecretRow.{SecretRow}
use Rattle.sm_versions.specs.Prune.{pruning}

-- its rotation is due at the moment
abbrev pub is_due : SecretRow → Moment → Bool
is_due row moment = is_due_when row (pruning moment)

-- a due rotation may begin with the token: no version has it as its id
abbrev pub is_due_for : SecretRow → Moment → List ℕ → Bool
is_due_for row moment token = is_due_for_when row (pruning moment) token

-- Its rotation comes due at its next date, unless a version may not be added then: rotation is on, the secret is not
-- scheduled for deletion, some version holds AWSCURRENT, and AWSPENDING is held by none or by that version.
abbrev pub comes_due : SecretRow → Bool
comes_due row =
    row.rotation.enabled && is_none row.deletion && is_some (holder row.labels aws_current)
    && is_free_or_held_by (holder row.labels aws_pending) (holder row.labels aws_current)

-- the date at which its rotation comes due, or none where it does at no date
abbrev pub due_date : SecretRow → Option Moment
due_date row = if comes_due row then row.rotation.next else None
