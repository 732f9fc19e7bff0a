-- Judging ValidateResourcePolicy: when it is refused, and that it changes nothing.
use Rattle.std.proofs.Common.{◌≡◌, ℕ, true, List, Option, Some, None, is_none, refl}
use Rattle.sm_base.specs.declared.moment.Moment.{Moment}
use Rattle.sm_base.specs.SecretId.{secret_id}
use Rattle.sm_model.specs.declared.entry.Change.{Change}
use Rattle.sm_model.specs.declared.request.ValidateResourcePolicy.{ValidateResourcePolicy}
use Rattle.sm_model.specs.declared.rows.Rows.{Rows}
use Rattle.sm_table.specs.Found.{found}
use Rattle.sm_judge_common.specs.Judged.{refusal_told, IfAccepted, IfChange}
use Rattle.sm_judge_common.proofs.JudgedLemmas.{if_there_refusal, if_there_accepts, if_there_change}
use Rattle.sm_judge_policies.specs.ValidateResourcePolicy.{validated, validate_for, validate_judgement, refusal_for, validate_refusal}

-- ---- refusals

for_refuses : (rows : Rows) (moment : Moment) (id : Option (List ℕ)) (text : List ℕ)
    → refusal_told (validate_for rows moment id text) ≡ Some (refusal_for rows moment id)
for_refuses rows moment None text = refl
for_refuses rows moment (Some id) text =
    if_there_refusal (found rows moment (secret_id id)) (λ _. validated text) (λ row. refl)

pub validate_refuses : (rows : Rows) (moment : Moment) (validate : ValidateResourcePolicy)
    → refusal_told (validate_judgement rows moment validate) ≡ Some (validate_refusal rows moment validate)
validate_refuses rows moment validate = for_refuses rows moment validate.secret_id validate.resource_policy

-- ---- it changes nothing

for_reads : (rows : Rows) (moment : Moment) (id : Option (List ℕ)) (text : List ℕ)
    → IfAccepted (validate_for rows moment id text) (λ change. is_none change ≡ true)
for_reads rows moment None text = refl
for_reads rows moment (Some id) text =
    if_there_accepts (found rows moment (secret_id id)) (λ _. validated text) (λ change. is_none change ≡ true)
    (λ row. refl)

pub validate_reads : (rows : Rows) (moment : Moment) (validate : ValidateResourcePolicy)
    → IfAccepted (validate_judgement rows moment validate) (λ change. is_none change ≡ true)
validate_reads rows moment validate = for_reads rows moment validate.secret_id validate.resource_policy

for_change : (rows : Rows) (moment : Moment) (id : Option (List ℕ)) (text : List ℕ) (P : Change → Type 0)
    → IfChange (validate_for rows moment id text) P
for_change rows moment None text P = tt
for_change rows moment (Some id) text P =
    if_there_change (found rows moment (secret_id id)) (λ _. validated text) P (λ row e. tt)

pub validate_change : (rows : Rows) (moment : Moment) (validate : ValidateResourcePolicy) (P : Change → Type 0)
    → IfChange (validate_judgement rows moment validate) P
validate_change rows moment validate P = for_change rows moment validate.secret_id validate.resource_policy P
