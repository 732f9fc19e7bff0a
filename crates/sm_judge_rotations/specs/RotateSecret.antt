-- RotateSecret: its tests on the rows, its reply, what it changes.
-- AWS Secrets Manager API Reference, RotateSecret, RotationRulesType (AutomaticallyAfterDays, ScheduleExpression); User
-- Guide, "Rotation schedules".
use Rattle.std.specs.Prelude.{ℕ, ℤ, pos, negsuc, Bool, true, false, is_none, not, if◌then◌else◌, List, [], ◌∷◌, Option, Some, None}
use Rattle.std.specs.Option.{option_or}
use Rattle.sm_base.specs.declared.moment.Moment.{Moment}
use Rattle.sm_base.specs.SecretId.{secret_id}
use Rattle.sm_model.specs.declared.entry.Change.TheVariants as changes
use Rattle.sm_base.specs.declared.limits.TheConstants.{VERSIONS_LIMIT}
use Rattle.sm_model.specs.declared.reply.Reply.TheVariants as replies
use Rattle.sm_model.specs.declared.reply.VersionedSecret.{VersionedSecret}
use Rattle.sm_model.specs.declared.request.RotateSecret.{RotateSecret}
use Rattle.sm_model.specs.declared.request.Rules.{Rules}
use Rattle.sm_model.specs.declared.rows.Rotation.{Rotation}
use Rattle.sm_model.specs.declared.rows.Rows.{Rows}
use Rattle.sm_model.specs.declared.rows.SecretRow.{SecretRow}
use Rattle.sm_model.specs.declared.why.What.TheVariants.{Versions}
use Rattle.sm_model.specs.declared.why.Why.{Why}
use Rattle.sm_model.specs.declared.why.Why.TheVariants.{NoCurrent, Pending, VersionExists, Limit, Memory}
use Rattle.sm_dates.specs.Days.{rotation_after}
use Rattle.sm_model.specs.Labels.{aws_current, aws_pending, holder}
use Rattle.sm_versions.specs.Versions.{version_of}
use Rattle.sm_model.specs.Versions.{When, has_version, is_full_when}
use Rattle.sm_model.specs.Due.{is_free_or_held_by}
use Rattle.sm_rotation.specs.declared.starting.Began.{Began}
use Rattle.sm_rotation.specs.declared.starting.Began.TheVariants as starts
use Rattle.sm_rotation.specs.Begin.{is_of_rotation, begin_answer, begin_row}
use Rattle.sm_table.specs.Found.{found}
use Rattle.sm_judge_common.specs.declared.judged.Judged.{Judged}
use Rattle.sm_judge_common.specs.declared.judged.Judged.TheVariants.{Accept, Refuse}
use Rattle.sm_judge_common.specs.Changes.{change_named}
use Rattle.sm_judge_common.specs.Members.{token_or_drawn}
use Rattle.sm_judge_common.specs.Refusals.{refuse_if, first_refusal, refusal_at, repeat_at}
use Rattle.sm_judge_common.specs.Secrets.{with_secret, finished_row}
use Rattle.sm_judge_rotations.specs.declared.rotate_secret.KeptRules.{KeptRules}
use Rattle.sm_judge_rotations.specs.declared.rotate_secret.Plan.{Plan}
use Rattle.sm_judge_rotations.specs.declared.rotate_secret.RotateCall.{RotateCall}
use Rattle.sm_judge_rotations.specs.declared.rotate_secret.Start.{Start}
use Rattle.sm_judge_rotations.specs.declared.rotate_secret.Start.TheVariants.{Begun, Repeat, Refused}

-- ---- the members

-- the days that rules name; the forms leave none below zero
abbrev pub days_of : Option ℤ → Option ℕ
days_of None = None
days_of (Some (pos days)) = Some days
days_of (Some (negsuc n)) = Some 0

abbrev pub rules_given : Option Rules → Option KeptRules
rules_given None = None
rules_given (Some rules) = Some (record { days = days_of rules.days; schedule = rules.schedule })

abbrev pub plan_of : RotateSecret → Plan
plan_of rotate = record { lambda = rotate.rotation_lambda_arn; rules = rules_given rotate.rotation_rules }

-- the id of the version to rotate to, where the rotation starts at once; else a token counts for nothing
abbrev pub token_to_start : List ℕ → RotateSecret → Option (List ℕ)
token_to_start drawn rotate =
    if rotate.rotate_immediately then Some (token_or_drawn rotate.client_request_token drawn) else None

abbrev pub rotate_call : List ℕ → RotateSecret → RotateCall
rotate_call drawn rotate = record {
  id = secret_id rotate.secret_id;
  plan = plan_of rotate;
  token = token_to_start drawn rotate;
}

-- ---- the row and the reply

-- the days of the rules that are given, also where they name none; without rules those that are kept
abbrev pub days_or : Option KeptRules → Option ℕ → Option ℕ
days_or None kept = kept
days_or (Some rules) kept = rules.days

-- their schedule likewise, so that given rules replace what was kept of both
abbrev pub schedule_or : Option KeptRules → Option (List ℕ) → Option (List ℕ)
schedule_or None kept = kept
schedule_or (Some rules) kept = rules.schedule

-- rotation is on, with what is given, or else with what is kept
abbrev pub turned_on : Plan → Rotation → Rotation
turned_on plan kept =
    record kept {
      enabled = true;
      lambda = option_or plan.lambda kept.lambda;
      days = days_or plan.rules kept.days;
      schedule = schedule_or plan.rules kept.schedule;
    }

abbrev pub with_rotation : Rotation → SecretRow → SecretRow
with_rotation rotation row = record row { rotation = rotation }

-- the row with its rotation on; its next date is as it was
abbrev pub turned_on_in : Plan → SecretRow → SecretRow
turned_on_in plan row = with_rotation (turned_on plan row.rotation) row

-- the next date is by the kept schedule or days, or there is none
abbrev pub dated : Moment → Rotation → Rotation
dated moment rotation = record rotation { next = rotation_after rotation moment }

-- the row with its rotation on, which waits for its next date
abbrev pub waits : Plan → Moment → SecretRow → SecretRow
waits plan moment row = with_rotation (dated moment (turned_on plan row.rotation)) row

-- the row whose rotation starts at once, to the version of the token
abbrev pub starts_at_once : Plan → List ℕ → Moment → SecretRow → SecretRow
starts_at_once plan token moment row = turned_on_in plan (begin_row row token moment)

abbrev pub rotates : Plan → Option (List ℕ) → Moment → SecretRow → SecretRow
rotates plan None moment row = waits plan moment row
rotates plan (Some token) moment row = starts_at_once plan token moment row

-- the reply names the version where the rotation starts at once
abbrev pub rotated : SecretRow → Option (List ℕ) → VersionedSecret
rotated row version_id = record { arn = row.arn; name = row.name; version_id = version_id }

-- ---- the judgement

-- the row takes the place of the old one
abbrev pub rotate_accepted : SecretRow → Option (List ℕ) → Judged
rotate_accepted row version_id = Accept (replies.RotateSecret (rotated row version_id)) (Some (changes.Replace row))

-- in a repeat the rules and the Lambda ARN count for nothing
abbrev pub rotate_repeated : SecretRow → List ℕ → Judged
rotate_repeated row token = Accept (replies.RotateSecret (rotated row (Some token))) None

-- by what the start answers, which is never lack of memory
abbrev pub started_by : Began → SecretRow → Start
started_by starts.Ok after = Begun after
started_by starts.Same after = Repeat
started_by starts.NoCurrent after = Refused NoCurrent
started_by (starts.Pending id) after = Refused (Pending id)
started_by (starts.Exists id) after = Refused (VersionExists id)
started_by (starts.TooMany limit) after = Refused (Limit limit Versions)
started_by starts.Memory after = Refused Memory

abbrev pub started : SecretRow → List ℕ → When → Start
started row token when = started_by (begin_answer row token when) (begin_row row token when.moment)

-- the judgement by what the start comes to
abbrev pub start_judged : Start → SecretRow → When → Plan → List ℕ → Judged
start_judged (Begun after) row when plan token =
    rotate_accepted (finished_row (turned_on_in plan after) when) (Some token)
start_judged Repeat row when plan token = rotate_repeated row token
start_judged (Refused why) row when plan token = Refuse why

abbrev pub start_on : SecretRow → When → Plan → List ℕ → Judged
start_on row when plan token = start_judged (started row token when) row when plan token

abbrev pub wait_on : SecretRow → When → Plan → Judged
wait_on row when plan = rotate_accepted (finished_row (waits plan when.moment row) when) None

abbrev pub rotate_on : SecretRow → When → Plan → Option (List ℕ) → Judged
rotate_on row when plan None = wait_on row when plan
rotate_on row when plan (Some token) = start_on row when plan token

abbrev pub rotate_judged : Rows → When → RotateCall → Judged
rotate_judged rows when call = with_secret rows when.moment call.id (λ row. rotate_on row when call.plan call.token)

abbrev pub rotate_judgement : Rows → When → List ℕ → RotateSecret → Judged
rotate_judgement rows when drawn rotate = rotate_judged rows when (rotate_call drawn rotate)

-- ---- when it is refused, when it is a repeat, what it does to the rows

-- the version of the token was made by a rotation
abbrev pub starts_again : SecretRow → Option (List ℕ) → Bool
starts_again row None = false
starts_again row (Some token) = is_of_rotation (version_of row.versions token)

-- AWSPENDING is on no other version than the current one
abbrev pub pending_refusal : Option (List ℕ) → Option (List ℕ) → Option Why
pending_refusal None current = None
pending_refusal (Some pending) current = refuse_if (not (is_free_or_held_by (Some pending) current)) (Pending pending)

-- For a start that is no repeat some version is current, AWSPENDING is on no other, none has the token, and one more
-- may be added then.
abbrev pub start_refusal : SecretRow → When → List ℕ → Option Why
start_refusal row when token =
    first_refusal
    (refuse_if (is_none (holder row.labels aws_current)) NoCurrent
    ∷ pending_refusal (holder row.labels aws_pending) (holder row.labels aws_current)
    ∷ refuse_if (has_version row.versions token) (VersionExists token)
    ∷ refuse_if (is_full_when row when) (Limit VERSIONS_LIMIT Versions)
    ∷ [])

abbrev pub rotate_refusal_on : SecretRow → When → Option (List ℕ) → Option Why
rotate_refusal_on row when None = None
rotate_refusal_on row when (Some token) =
    if starts_again row (Some token) then None else start_refusal row when token

abbrev pub rotate_refusal : Rows → When → List ℕ → RotateSecret → Option Why
rotate_refusal rows when drawn rotate =
    refusal_at (found rows when.moment (secret_id rotate.secret_id))
    (λ row. rotate_refusal_on row when (token_to_start drawn rotate))

abbrev pub rotate_repeat : Rows → Moment → List ℕ → RotateSecret → Bool
rotate_repeat rows moment drawn rotate =
    repeat_at (found rows moment (secret_id rotate.secret_id)) (λ row. starts_again row (token_to_start drawn rotate))

-- the secret's row with its rotation on, and started where that is asked for, among those that are still there
abbrev pub rotate_effect : Rows → When → List ℕ → RotateSecret → Rows
rotate_effect rows when drawn rotate =
    change_named rows (secret_id rotate.secret_id) when
    (rotates (plan_of rotate) (token_to_start drawn rotate) when.moment)
