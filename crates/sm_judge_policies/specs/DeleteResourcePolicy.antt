-- DeleteResourcePolicy: its tests on the rows, its reply, what it changes. It is accepted also where there is no
-- policy.
-- AWS Secrets Manager API Reference, DeleteResourcePolicy.
use Rattle.std.specs.Prelude.{Option, Some, None}
use Rattle.sm_base.specs.declared.moment.Moment.{Moment}
use Rattle.sm_base.specs.SecretId.{secret_id}
use Rattle.sm_model.specs.declared.entry.Change.TheVariants as changes
use Rattle.sm_model.specs.declared.reply.Reply.TheVariants as replies
use Rattle.sm_model.specs.declared.request.OfSecret.{OfSecret}
use Rattle.sm_model.specs.declared.rows.Rows.{Rows}
use Rattle.sm_model.specs.declared.rows.SecretRow.{SecretRow}
use Rattle.sm_model.specs.declared.why.Why.{Why}
use Rattle.sm_model.specs.Versions.{When}
use Rattle.sm_table.specs.Found.{found}
use Rattle.sm_judge_common.specs.declared.judged.Judged.{Judged}
use Rattle.sm_judge_common.specs.declared.judged.Judged.TheVariants.{Accept}
use Rattle.sm_judge_common.specs.Changes.{change_named}
use Rattle.sm_judge_common.specs.Refusals.{refusal_at}
use Rattle.sm_judge_common.specs.Secrets.{with_secret, finished_row}
use Rattle.sm_judge_policies.specs.Kept.{named, with_policy}

-- ---- the judgement

-- the row without a policy takes the place of the old one
abbrev pub delete_policy_on : SecretRow → When → Judged
delete_policy_on row when =
    Accept (replies.DeleteResourcePolicy (named row))
    (Some (changes.Replace (finished_row (with_policy None row) when)))

abbrev pub delete_policy_judgement : Rows → When → OfSecret → Judged
delete_policy_judgement rows when delete =
    with_secret rows when.moment (secret_id delete.secret_id) (λ row. delete_policy_on row when)

-- ---- when it is refused, what it does to the rows

-- the secret has to be there and not scheduled for deletion
abbrev pub delete_policy_refusal : Rows → Moment → OfSecret → Option Why
delete_policy_refusal rows moment delete = refusal_at (found rows moment (secret_id delete.secret_id)) (λ row. None)

-- the secret's row without a policy
abbrev pub delete_policy_effect : Rows → When → OfSecret → Rows
delete_policy_effect rows when delete = change_named rows (secret_id delete.secret_id) when (with_policy None)
