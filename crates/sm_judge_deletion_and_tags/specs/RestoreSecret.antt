-- RestoreSecret: its test on the rows, its reply, what it changes. It works on a secret that is scheduled for deletion,
-- and is accepted on one that is not.
-- AWS Secrets Manager API Reference, RestoreSecret.
use Rattle.std.specs.Prelude.{Option, Some, None}
use Rattle.sm_base.specs.declared.moment.Moment.{Moment}
use Rattle.sm_base.specs.SecretId.{secret_id}
use Rattle.sm_model.specs.declared.entry.Change.TheVariants as changes
use Rattle.sm_model.specs.declared.reply.NamedSecret.{NamedSecret}
use Rattle.sm_model.specs.declared.reply.Reply.TheVariants as replies
use Rattle.sm_model.specs.declared.request.OfSecret.{OfSecret}
use Rattle.sm_model.specs.declared.rows.Rows.{Rows}
use Rattle.sm_model.specs.declared.rows.SecretRow.{SecretRow}
use Rattle.sm_model.specs.declared.why.Why.{Why}
use Rattle.sm_model.specs.Versions.{When}
use Rattle.sm_table.specs.Found.{found}
use Rattle.sm_judge_common.specs.declared.judged.Judged.{Judged}
use Rattle.sm_judge_common.specs.declared.judged.Judged.TheVariants.{Accept}
use Rattle.sm_judge_common.specs.Changes.{change_named}
use Rattle.sm_judge_common.specs.Refusals.{unless_there}
use Rattle.sm_judge_common.specs.Secrets.{if_there, finished_row}

-- ---- the row and the reply

-- the row without a deletion date
abbrev pub unscheduled : SecretRow → SecretRow
unscheduled row = record row { deletion = None }

abbrev pub restored : SecretRow → NamedSecret
restored row = record { arn = row.arn; name = row.name }

-- ---- the judgement

abbrev pub restore_on : SecretRow → When → Judged
restore_on row when = Accept (replies.RestoreSecret (restored row))
    (Some (changes.Replace (finished_row (unscheduled row) when)))

abbrev pub restore_judgement : Rows → When → OfSecret → Judged
restore_judgement rows when restore =
    if_there (found rows when.moment (secret_id restore.secret_id)) (λ row. restore_on row when)

-- ---- when it is refused, what it does to the rows

-- the secret has to be there
abbrev pub restore_refusal : Rows → Moment → OfSecret → Option Why
restore_refusal rows moment restore = unless_there (found rows moment (secret_id restore.secret_id))

-- the secret's row without a deletion date
abbrev pub restore_effect : Rows → When → OfSecret → Rows
restore_effect rows when restore = change_named rows (secret_id restore.secret_id) when unscheduled
