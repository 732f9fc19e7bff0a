-- DeleteSecret: its tests on the rows, its reply, what it changes.
-- AWS Secrets Manager API Reference, DeleteSecret; User Guide, "Delete an AWS Secrets Manager secret".
use Rattle.std.specs.Prelude.{ℕ, ◌≤◌, ℤ, pos, negsuc, Bool, ◌&&◌, if◌then◌else◌, List, Option, Some, None, is_none, ⊤}
use Rattle.sm_base.specs.declared.moment.Moment.{Moment}
use Rattle.sm_base.specs.declared.secret_id.SecretId.{SecretId}
use Rattle.sm_base.specs.SecretId.{secret_id}
use Rattle.sm_model.specs.declared.entry.Change.TheVariants as changes
use Rattle.sm_model.specs.declared.reply.DeletedSecret.{DeletedSecret}
use Rattle.sm_model.specs.declared.reply.Reply.TheVariants as replies
use Rattle.sm_model.specs.declared.request.DeleteSecret.{DeleteSecret}
use Rattle.sm_model.specs.declared.rows.Rows.{Rows}
use Rattle.sm_model.specs.declared.rows.SecretRow.{SecretRow}
use Rattle.sm_model.specs.declared.why.Why.{Why}
use Rattle.sm_model.specs.declared.why.Why.TheVariants.{NoSecret}
use Rattle.sm_base.specs.declared.limits.TheConstants.{LONGEST_WINDOW, DEFAULT_WINDOW}
use Rattle.sm_model.specs.Versions.{When}
use Rattle.sm_dates.specs.Days.{days_after}
use Rattle.sm_table.specs.Found.{named_by, found}
use Rattle.sm_table.specs.Changes.{dropped}
use Rattle.sm_judge_common.specs.declared.judged.Judged.{Judged}
use Rattle.sm_judge_common.specs.declared.judged.Judged.TheVariants.{Accept, Refuse}
use Rattle.sm_judge_common.specs.Changes.{change_named}
use Rattle.sm_judge_common.specs.Refusals.{refusal_at}
use Rattle.sm_judge_common.specs.Secrets.{unless_scheduled, finished_row}
use Rattle.sm_judge_deletion_and_tags.specs.declared.delete_secret.DeleteCall.{DeleteCall}
use Rattle.sm_judge_deletion_and_tags.specs.declared.delete_secret.Deletion.{Deletion}
use Rattle.sm_judge_deletion_and_tags.specs.declared.delete_secret.Deletion.TheVariants.{Forced, After}

-- ---- the members

-- the days of the window that is given, or 30; the forms leave none below zero
abbrev pub window_days : Option ℤ → ℕ
window_days None = DEFAULT_WINDOW
window_days (Some (pos days)) = days
window_days (Some (negsuc n)) = 0

abbrev pub deletion_of : DeleteSecret → Deletion
deletion_of delete =
    if delete.force_delete_without_recovery then Forced else After (window_days delete.recovery_window_in_days)

-- a window is no longer than the forms allow
abbrev pub HasEnd : Deletion → Type 0
HasEnd Forced = ⊤
HasEnd (After days) = days ≤ LONGEST_WINDOW

abbrev pub delete_call : DeleteSecret → DeleteCall
delete_call delete = record {
  deletion = deletion_of delete;
  id = secret_id delete.secret_id;
  given = delete.secret_id;
}

-- ---- the row and the reply

-- the row of a secret that is scheduled for deletion at a date
abbrev pub scheduled_at : Moment → SecretRow → SecretRow
scheduled_at date row = record row { deletion = Some date }

abbrev pub deleted : SecretRow → Moment → DeletedSecret
deleted row date = record { arn = Some row.arn; deletion_date = date; name = row.name }

-- no secret was there: the name is the SecretId as it was given
abbrev pub deleted_absent : List ℕ → Moment → DeletedSecret
deleted_absent given moment = record { arn = None; deletion_date = moment; name = given }

-- ---- the judgement

-- no secret is there: a deletion that is forced is accepted, and changes nothing
abbrev pub delete_absent : Moment → Deletion → List ℕ → Judged
delete_absent moment Forced given = Accept (replies.DeleteSecret (deleted_absent given moment)) None
delete_absent moment (After days) given = Refuse NoSecret

-- the row is dropped, also one that is scheduled for deletion
abbrev pub delete_at_once : SecretRow → Moment → Judged
delete_at_once row moment = Accept (replies.DeleteSecret (deleted row moment)) (Some (changes.Drop row.serial))

-- the secret is scheduled for deletion at the end of the window
abbrev pub delete_later : SecretRow → When → ℕ → Judged
delete_later row when days =
    Accept (replies.DeleteSecret (deleted row (days_after when.moment days)))
    (Some (changes.Replace (finished_row (scheduled_at (days_after when.moment days) row) when)))

abbrev pub delete_on : SecretRow → When → Deletion → Judged
delete_on row when Forced = delete_at_once row when.moment
delete_on row when (After days) = unless_scheduled row.deletion (delete_later row when days)

abbrev pub delete_found : Option SecretRow → When → Deletion → List ℕ → Judged
delete_found None when deletion given = delete_absent when.moment deletion given
delete_found (Some row) when deletion given = delete_on row when deletion

abbrev pub delete_judged : Rows → When → DeleteCall → Judged
delete_judged rows when call = delete_found (found rows when.moment call.id) when call.deletion call.given

abbrev pub delete_judgement : Rows → When → DeleteSecret → Judged
delete_judgement rows when delete = delete_judged rows when (delete_call delete)

-- ---- when it is refused, when it changes nothing, what it does to the rows

-- a deletion that is forced is never refused; for another the secret has to be there and not scheduled for deletion
abbrev pub delete_refusal : Rows → Moment → DeleteSecret → Option Why
delete_refusal rows moment delete =
    if delete.force_delete_without_recovery then None
    else refusal_at (found rows moment (secret_id delete.secret_id)) (λ row. None)

-- the deletion of a secret that is not there is forced
abbrev pub deletes_nobody : Rows → Moment → DeleteSecret → Bool
deletes_nobody rows moment delete =
    delete.force_delete_without_recovery && is_none (found rows moment (secret_id delete.secret_id))

-- the rows without one of them
abbrev pub without_row : List SecretRow → Option SecretRow → List SecretRow
without_row secrets None = secrets
without_row secrets (Some row) = dropped secrets row.serial

-- the rows without the one that the SecretId names
abbrev pub drop_named : Rows → SecretId → Rows
drop_named rows id = record rows { secrets = without_row rows.secrets (named_by rows.secrets id) }

-- where the deletion is forced the secret's row is gone; else it is gone from the end of the window on
abbrev pub delete_effect : Rows → When → DeleteSecret → Rows
delete_effect rows when delete =
    if delete.force_delete_without_recovery then drop_named rows (secret_id delete.secret_id)
    else change_named rows (secret_id delete.secret_id) when
    (scheduled_at (days_after when.moment (window_days delete.recovery_window_in_days)))
