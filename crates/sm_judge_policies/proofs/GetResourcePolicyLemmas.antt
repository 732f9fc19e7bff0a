-- Judging GetResourcePolicy: when it is refused, and that it changes nothing.
use Rattle.std.proofs.Common.{◌≡◌, true, Some, is_none, refl}
use Rattle.sm_base.specs.declared.moment.Moment.{Moment}
use Rattle.sm_base.specs.SecretId.{secret_id}
use Rattle.sm_model.specs.declared.entry.Change.{Change}
use Rattle.sm_model.specs.declared.request.OfSecret.{OfSecret}
use Rattle.sm_model.specs.declared.rows.Rows.{Rows}
use Rattle.sm_table.specs.Found.{found}
use Rattle.sm_judge_common.specs.Judged.{refusal_told, IfAccepted, IfChange}
use Rattle.sm_judge_common.proofs.JudgedLemmas.{if_there_refusal, if_there_accepts, if_there_change}
use Rattle.sm_judge_policies.specs.GetResourcePolicy.{get_policy_on, get_policy_judgement, get_policy_refusal}

pub get_policy_refuses : (rows : Rows) (moment : Moment) (get : OfSecret)
    → refusal_told (get_policy_judgement rows moment get) ≡ Some (get_policy_refusal rows moment get)
get_policy_refuses rows moment get =
    if_there_refusal (found rows moment (secret_id get.secret_id)) get_policy_on (λ row. refl)

pub get_policy_reads : (rows : Rows) (moment : Moment) (get : OfSecret)
    → IfAccepted (get_policy_judgement rows moment get) (λ change. is_none change ≡ true)
get_policy_reads rows moment get =
    if_there_accepts (found rows moment (secret_id get.secret_id)) get_policy_on (λ change. is_none change ≡ true)
    (λ row. refl)

pub get_policy_change : (rows : Rows) (moment : Moment) (get : OfSecret) (P : Change → Type 0)
    → IfChange (get_policy_judgement rows moment get) P
get_policy_change rows moment get P =
    if_there_change (found rows moment (secret_id get.secret_id)) get_policy_on P (λ row e. tt)
