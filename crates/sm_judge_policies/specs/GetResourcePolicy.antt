-- GetResourcePolicy: its test on the rows and its reply. It works on a secret that is scheduled for deletion too, and
-- changes nothing.
-- AWS Secrets Manager API Reference, GetResourcePolicy.
use Rattle.std.specs.Prelude.{Option, None}
use Rattle.sm_base.specs.declared.moment.Moment.{Moment}
use Rattle.sm_base.specs.SecretId.{secret_id}
use Rattle.sm_model.specs.declared.reply.PolicyOfSecret.{PolicyOfSecret}
use Rattle.sm_model.specs.declared.reply.Reply.TheVariants as replies
use Rattle.sm_model.specs.declared.request.OfSecret.{OfSecret}
use Rattle.sm_model.specs.declared.rows.Rows.{Rows}
use Rattle.sm_model.specs.declared.rows.SecretRow.{SecretRow}
use Rattle.sm_model.specs.declared.why.Why.{Why}
use Rattle.sm_table.specs.Found.{found}
use Rattle.sm_judge_common.specs.declared.judged.Judged.{Judged}
use Rattle.sm_judge_common.specs.declared.judged.Judged.TheVariants.{Accept}
use Rattle.sm_judge_common.specs.Refusals.{unless_there}
use Rattle.sm_judge_common.specs.Secrets.{if_there}

-- ---- the reply

-- the policy as it was given, where there is one
abbrev pub policy_shown : SecretRow → PolicyOfSecret
policy_shown row = record { arn = row.arn; name = row.name; resource_policy = row.policy }

-- ---- the judgement

abbrev pub get_policy_on : SecretRow → Judged
get_policy_on row = Accept (replies.GetResourcePolicy (policy_shown row)) None

abbrev pub get_policy_judgement : Rows → Moment → OfSecret → Judged
get_policy_judgement rows moment get = if_there (found rows moment (secret_id get.secret_id)) get_policy_on

-- ---- when it is refused

-- the secret has to be there
abbrev pub get_policy_refusal : Rows → Moment → OfSecret → Option Why
get_policy_refusal rows moment get = unless_there (found rows moment (secret_id get.secret_id))
