-- Judging ListSecrets: it is not refused, and changes nothing.
use Rattle.std.proofs.Common.{◌≡◌, true, Some, is_none, refl}
use Rattle.sm_base.specs.declared.moment.Moment.{Moment}
use Rattle.sm_model.specs.declared.entry.Change.{Change}
use Rattle.sm_model.specs.declared.request.ListSecrets.{ListSecrets}
use Rattle.sm_model.specs.declared.rows.Rows.{Rows}
use Rattle.sm_judge_common.specs.Judged.{refusal_told, IfAccepted, IfChange}
use Rattle.sm_judge_lists_and_passwords.specs.ListSecrets.{list_judgement, list_refusal}

pub list_refuses : (rows : Rows) (moment : Moment) (list : ListSecrets)
    → refusal_told (list_judgement rows moment list) ≡ Some (list_refusal rows moment list)
list_refuses rows moment list = refl

pub list_reads : (rows : Rows) (moment : Moment) (list : ListSecrets)
    → IfAccepted (list_judgement rows moment list) (λ change. is_none change ≡ true)
list_reads rows moment list = refl

pub list_change : (rows : Rows) (moment : Moment) (list : ListSecrets) (P : Change → Type 0)
    → IfChange (list_judgement rows moment list) P
list_change rows moment list P = tt
