-- Judging StopReplicationToReplica: it is always refused.
use Rattle.std.proofs.Common.{◌≡◌, true, Some, is_none, refl}
use Rattle.sm_base.specs.declared.moment.Moment.{Moment}
use Rattle.sm_base.specs.SecretId.{secret_id}
use Rattle.sm_model.specs.declared.entry.Change.{Change}
use Rattle.sm_model.specs.declared.request.OfSecret.{OfSecret}
use Rattle.sm_model.specs.declared.rows.Rows.{Rows}
use Rattle.sm_model.specs.declared.why.Why.TheVariants.{NotReplica}
use Rattle.sm_table.specs.Found.{found}
use Rattle.sm_judge_common.specs.Judged.{refusal_told, IfAccepted, IfChange}
use Rattle.sm_judge_common.proofs.JudgedLemmas.{on_secret_refusal, on_secret_reads}
use Rattle.sm_judge_common.proofs.ChangeLemmas.{on_secret_change}
use Rattle.sm_judge_labels_and_regions.specs.StopReplicationToReplica.{stop_on, stop_judgement, stop_refusal}

pub stop_refuses : (rows : Rows) (moment : Moment) (stop : OfSecret)
    → refusal_told (stop_judgement rows moment stop) ≡ Some (stop_refusal rows moment stop)
stop_refuses rows moment stop =
    on_secret_refusal (found rows moment (secret_id stop.secret_id)) stop_on (λ row. Some NotReplica) (λ row. refl)

-- nothing is accepted, so nothing is accepted with a change
pub stop_reads : (rows : Rows) (moment : Moment) (stop : OfSecret)
    → IfAccepted (stop_judgement rows moment stop) (λ change. is_none change ≡ true)
stop_reads rows moment stop =
    on_secret_reads (found rows moment (secret_id stop.secret_id)) stop_on true (λ row. tt)

-- and nothing is changed
pub stop_change : (rows : Rows) (moment : Moment) (stop : OfSecret) (P : Change → Type 0)
    → IfChange (stop_judgement rows moment stop) P
stop_change rows moment stop P =
    on_secret_change (found rows moment (secret_id stop.secret_id)) stop_on P (λ row e. tt)
