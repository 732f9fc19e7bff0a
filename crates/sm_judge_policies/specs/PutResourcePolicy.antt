-- PutResourcePolicy: its tests on the rows, its reply, what it changes.
-- AWS Secrets Manager API Reference, PutResourcePolicy (BlockPublicPolicy, PublicPolicyException).
use Rattle.std.specs.Prelude.{ℕ, if◌then◌else◌, List, Option, Some, None, option_map}
use Rattle.std.specs.Result.{result_ok}
use Rattle.sm_base.specs.declared.moment.Moment.{Moment}
use Rattle.sm_base.specs.SecretId.{secret_id}
use Rattle.sm_model.specs.declared.entry.Change.TheVariants as changes
use Rattle.sm_model.specs.declared.reply.Reply.TheVariants as replies
use Rattle.sm_model.specs.declared.request.PutResourcePolicy.{PutResourcePolicy}
use Rattle.sm_model.specs.declared.rows.Rows.{Rows}
use Rattle.sm_model.specs.declared.rows.SecretRow.{SecretRow}
use Rattle.sm_model.specs.declared.why.Why.{Why}
use Rattle.sm_model.specs.declared.why.Why.TheVariants.{Public}
use Rattle.sm_model.specs.Versions.{When}
use Rattle.sm_policy_text.specs.declared.policy.Policy.{Policy}
use Rattle.sm_policy.specs.Decisions.{public_number}
use Rattle.sm_policy_text.specs.Documents.{policy_of}
use Rattle.sm_table.specs.Found.{found}
use Rattle.sm_judge_common.specs.declared.judged.Judged.{Judged}
use Rattle.sm_judge_common.specs.declared.judged.Judged.TheVariants.{Accept, Refuse}
use Rattle.sm_judge_common.specs.Changes.{change_named}
use Rattle.sm_judge_common.specs.Refusals.{refusal_at}
use Rattle.sm_judge_common.specs.Secrets.{with_secret, finished_row}
use Rattle.sm_judge_policies.specs.Kept.{named, with_policy}

-- ---- public statements

-- the number of the first public statement; a text that is no policy, which the forms leave none, has none
abbrev pub public_in : Option Policy → Option ℕ
public_in None = None
public_in (Some policy) = public_number policy

abbrev pub public_statement : List ℕ → Option ℕ
public_statement text = public_in (result_ok (policy_of text))

-- where public statements are not wanted
abbrev pub blocked : PutResourcePolicy → Option ℕ
blocked put = if put.block_public_policy then public_statement put.resource_policy else None

-- ---- the judgement

-- the row with the policy, as it was given, takes the place of the old one
abbrev pub put_policy_kept : SecretRow → When → List ℕ → Judged
put_policy_kept row when text =
    Accept (replies.PutResourcePolicy (named row))
    (Some (changes.Replace (finished_row (with_policy (Some text) row) when)))

abbrev pub put_policy_unless : Option ℕ → SecretRow → When → List ℕ → Judged
put_policy_unless (Some statement) row when text = Refuse (Public statement)
put_policy_unless None row when text = put_policy_kept row when text

abbrev pub put_policy_on : SecretRow → When → PutResourcePolicy → Judged
put_policy_on row when put = put_policy_unless (blocked put) row when put.resource_policy

abbrev pub put_policy_judgement : Rows → When → PutResourcePolicy → Judged
put_policy_judgement rows when put =
    with_secret rows when.moment (secret_id put.secret_id) (λ row. put_policy_on row when put)

-- ---- when it is refused, what it does to the rows

-- the secret has to be there and not scheduled for deletion, and the policy not public where that is not wanted
abbrev pub put_policy_refusal : Rows → Moment → PutResourcePolicy → Option Why
put_policy_refusal rows moment put =
    refusal_at (found rows moment (secret_id put.secret_id)) (λ row. option_map Public (blocked put))

-- the secret's row with the policy
abbrev pub put_policy_effect : Rows → When → PutResourcePolicy → Rows
put_policy_effect rows when put =
    change_named rows (secret_id put.secret_id) when (with_policy (Some put.resource_policy))
