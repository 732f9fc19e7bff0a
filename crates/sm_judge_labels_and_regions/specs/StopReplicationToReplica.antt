-- StopReplicationToReplica where the secrets are the account's own: it is refused, whatever secret it names.
-- AWS Secrets Manager API Reference, StopReplicationToReplica.
use Rattle.std.specs.Prelude.{Option, Some}
use Rattle.sm_base.specs.declared.moment.Moment.{Moment}
use Rattle.sm_base.specs.SecretId.{secret_id}
use Rattle.sm_model.specs.declared.request.OfSecret.{OfSecret}
use Rattle.sm_model.specs.declared.rows.Rows.{Rows}
use Rattle.sm_model.specs.declared.rows.SecretRow.{SecretRow}
use Rattle.sm_model.specs.declared.why.Why.{Why}
use Rattle.sm_model.specs.declared.why.Why.TheVariants.{NotReplica}
use Rattle.sm_table.specs.Found.{found}
use Rattle.sm_judge_common.specs.declared.judged.Judged.{Judged}
use Rattle.sm_judge_common.specs.declared.judged.Judged.TheVariants.{Refuse}
use Rattle.sm_judge_common.specs.Refusals.{refusal_at}
use Rattle.sm_judge_common.specs.Secrets.{with_secret}

-- no secret of its own account is a replica
abbrev pub stop_on : SecretRow → Judged
stop_on row = Refuse NotReplica

abbrev pub stop_judgement : Rows → Moment → OfSecret → Judged
stop_judgement rows moment stop = with_secret rows moment (secret_id stop.secret_id) stop_on

-- it comes behind the tests that the secret is there and not scheduled for deletion
abbrev pub stop_refusal : Rows → Moment → OfSecret → Option Why
stop_refusal rows moment stop = refusal_at (found rows moment (secret_id stop.secret_id)) (λ row. Some NotReplica)
