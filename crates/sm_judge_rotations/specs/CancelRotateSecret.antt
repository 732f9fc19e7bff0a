-- CancelRotateSecret: its tests on the rows, its reply, what it changes.
-- AWS Secrets Manager API Reference, CancelRotateSecret.
use Rattle.std.specs.Prelude.{ℕ, false, List, Option, Some, None}
use Rattle.sm_base.specs.declared.moment.Moment.{Moment}
use Rattle.sm_base.specs.SecretId.{secret_id}
use Rattle.sm_model.specs.declared.entry.Change.TheVariants as changes
use Rattle.sm_model.specs.declared.reply.Reply.TheVariants as replies
use Rattle.sm_model.specs.declared.reply.VersionedSecret.{VersionedSecret}
use Rattle.sm_model.specs.declared.request.OfSecret.{OfSecret}
use Rattle.sm_model.specs.declared.rows.Job.{Job}
use Rattle.sm_model.specs.declared.rows.Rotation.{Rotation}
use Rattle.sm_model.specs.declared.rows.Rows.{Rows}
use Rattle.sm_model.specs.declared.rows.SecretRow.{SecretRow}
use Rattle.sm_model.specs.declared.why.Why.{Why}
use Rattle.sm_model.specs.Versions.{When}
use Rattle.sm_table.specs.Found.{found}
use Rattle.sm_judge_common.specs.declared.judged.Judged.{Judged}
use Rattle.sm_judge_common.specs.declared.judged.Judged.TheVariants.{Accept}
use Rattle.sm_judge_common.specs.Changes.{change_named}
use Rattle.sm_judge_common.specs.Refusals.{refusal_at}
use Rattle.sm_judge_common.specs.Secrets.{with_secret, finished_row}

-- ---- the row and the reply

-- rotation is off, and has no next date; the days, the Lambda ARN and the last date stay
abbrev pub turned_off : Rotation → Rotation
turned_off kept = record kept { enabled = false; next = None }

-- the row without a rotation under way; the labels stay, AWSPENDING too
abbrev pub cancelled : SecretRow → SecretRow
cancelled row = record row { rotation = turned_off row.rotation; job = None }

-- the version that the secret was rotated to, where it was
abbrev pub job_token : Option Job → Option (List ℕ)
job_token None = None
job_token (Some job) = Some job.token

-- the reply names the version of the job that is dropped
abbrev pub cancel_reply : SecretRow → VersionedSecret
cancel_reply row = record { arn = row.arn; name = row.name; version_id = job_token row.job }

-- ---- the judgement

abbrev pub cancel_on : SecretRow → When → Judged
cancel_on row when =
    Accept (replies.CancelRotateSecret (cancel_reply row))
    (Some (changes.Replace (finished_row (cancelled row) when)))

abbrev pub cancel_judgement : Rows → When → OfSecret → Judged
cancel_judgement rows when cancel =
    with_secret rows when.moment (secret_id cancel.secret_id) (λ row. cancel_on row when)

-- ---- when it is refused, what it does to the rows

-- the secret has to be there and not scheduled for deletion
abbrev pub cancel_refusal : Rows → Moment → OfSecret → Option Why
cancel_refusal rows moment cancel = refusal_at (found rows moment (secret_id cancel.secret_id)) (λ row. None)

-- the secret's row with its rotation off
abbrev pub cancel_effect : Rows → When → OfSecret → Rows
cancel_effect rows when cancel = change_named rows (secret_id cancel.secret_id) when cancelled
