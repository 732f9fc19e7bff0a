-- Judging DeleteResourcePolicy: when it is refused, and what it changes.
use Rattle.std.proofs.Common.{◌≡◌, false, Some, None, is_none, IsTrue, refl}
use Rattle.sm_base.specs.SecretId.{secret_id}
use Rattle.sm_model.specs.declared.request.OfSecret.{OfSecret}
use Rattle.sm_model.specs.declared.rows.Rows.{Rows}
use Rattle.sm_model.specs.Bounds.{is_date}
use Rattle.sm_model.specs.Versions.{When}
use Rattle.sm_table.specs.Sweep.{sweep}
use Rattle.sm_table.specs.Found.{found}
use Rattle.sm_table.specs.Sound.{Sound}
use Rattle.sm_judge_common.specs.Changes.{settled, IsChange}
use Rattle.sm_judge_common.specs.Judged.{refusal_told, IfAccepted, IfChange}
use Rattle.sm_judge_common.proofs.JudgedLemmas.{on_secret_refusal, on_secret_reads}
use Rattle.sm_judge_common.proofs.ChangeLemmas.{on_secret_change}
use Rattle.sm_judge_policies.specs.DeleteResourcePolicy.{delete_policy_on, delete_policy_judgement, delete_policy_refusal, delete_policy_effect}
use Rattle.sm_judge_policies.proofs.KeptLemmas.{keeps_policy}

-- ---- refusals

pub delete_policy_refuses : (rows : Rows) (when : When) (delete : OfSecret)
    → refusal_told (delete_policy_judgement rows when delete) ≡ Some (delete_policy_refusal rows when.moment delete)
delete_policy_refuses rows when delete =
    on_secret_refusal (found rows when.moment (secret_id delete.secret_id)) (λ row. delete_policy_on row when)
    (λ row. None) (λ row. refl)

-- ---- it always changes the row

-- no accepted DeleteResourcePolicy is without a change
pub delete_policy_changes : (rows : Rows) (when : When) (delete : OfSecret)
    → IfAccepted (delete_policy_judgement rows when delete) (λ change. is_none change ≡ false)
delete_policy_changes rows when delete =
    on_secret_reads (found rows when.moment (secret_id delete.secret_id)) (λ row. delete_policy_on row when) false
    (λ row. refl)

-- ---- the change

-- a change is the entry's
pub delete_policy_change : (rows : Rows) (when : When) (delete : OfSecret) → Sound rows → IsTrue (is_date when.moment)
    → IfChange (delete_policy_judgement rows when delete) (IsChange rows when.moment
    (settled (delete_policy_effect (sweep rows when.moment) when delete)))
delete_policy_change rows when delete sound date =
    on_secret_change (found rows when.moment (secret_id delete.secret_id)) (λ row. delete_policy_on row when) _
    (λ row e. keeps_policy rows when (secret_id delete.secret_id) None row sound date refl e)
