-- Judging ListSecretVersionIds: when it is refused, and that it changes nothing.
use Rattle.std.proofs.Common.{◌≡◌, true, Some, is_none, refl}
use Rattle.sm_base.specs.declared.moment.Moment.{Moment}
use Rattle.sm_base.specs.SecretId.{secret_id}
use Rattle.sm_model.specs.declared.entry.Change.{Change}
use Rattle.sm_model.specs.declared.request.ListSecretVersionIds.{ListSecretVersionIds}
use Rattle.sm_model.specs.declared.rows.Rows.{Rows}
use Rattle.sm_table.specs.Found.{found}
use Rattle.sm_judge_common.specs.Judged.{refusal_told, IfAccepted, IfChange}
use Rattle.sm_judge_common.proofs.JudgedLemmas.{if_there_refusal, if_there_accepts, if_there_change}
use Rattle.sm_judge_lists_and_passwords.specs.ListSecretVersionIds.{versions_call, versions_on, versions_judgement, versions_refusal}

pub versions_refuses : (rows : Rows) (moment : Moment) (list : ListSecretVersionIds)
    → refusal_told (versions_judgement rows moment list) ≡ Some (versions_refusal rows moment list)
versions_refuses rows moment list =
    if_there_refusal (found rows moment (secret_id list.secret_id)) (λ row. versions_on row (versions_call list))
    (λ row. refl)

pub versions_reads : (rows : Rows) (moment : Moment) (list : ListSecretVersionIds)
    → IfAccepted (versions_judgement rows moment list) (λ change. is_none change ≡ true)
versions_reads rows moment list =
    if_there_accepts (found rows moment (secret_id list.secret_id)) (λ row. versions_on row (versions_call list))
    (λ change. is_none change ≡ true) (λ row. refl)

pub versions_change : (rows : Rows) (moment : Moment) (list : ListSecretVersionIds) (P : Change → Type 0)
    → IfChange (versions_judgement rows moment list) P
versions_change rows moment list P =
    if_there_change (found rows moment (secret_id list.secret_id)) (λ row. versions_on row (versions_call list)) P
    (λ row e. tt)
