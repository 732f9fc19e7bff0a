-- Judging PutResourcePolicy: when it is refused, and what it changes.
use Rattle.std.proofs.Common.{◌≡◌, ℕ, false, Option, Some, None, option_map, is_none, IsTrue, refl}
use Rattle.sm_base.specs.declared.secret_id.SecretId.{SecretId}
use Rattle.sm_base.specs.SecretId.{secret_id}
use Rattle.sm_model.specs.declared.request.PutResourcePolicy.{PutResourcePolicy}
use Rattle.sm_model.specs.declared.rows.Rows.{Rows}
use Rattle.sm_model.specs.declared.rows.SecretRow.{SecretRow}
use Rattle.sm_model.specs.declared.why.Why.TheVariants.{Public}
use Rattle.sm_model.specs.Bounds.{is_date}
use Rattle.sm_model.specs.Versions.{When}
use Rattle.sm_policy_text.specs.Documents.{is_resource_policy}
use Rattle.sm_table.specs.Sweep.{sweep}
use Rattle.sm_table.specs.Found.{found}
use Rattle.sm_table.specs.Sound.{Sound}
use Rattle.sm_forms.specs.PutResourcePolicy.{put_policy_forms}
use Rattle.sm_forms.proofs.PutResourcePolicyLemmas.{put_policy_text}
use Rattle.sm_judge_common.specs.Changes.{settled, IsChange}
use Rattle.sm_judge_common.specs.Judged.{refusal_told, IfAccepted, IfChange}
use Rattle.sm_judge_common.proofs.JudgedLemmas.{on_secret_refusal, on_secret_reads}
use Rattle.sm_judge_common.proofs.ChangeLemmas.{OnRow, on_secret_change}
use Rattle.sm_judge_policies.specs.Kept.{with_policy}
use Rattle.sm_judge_policies.specs.PutResourcePolicy.{blocked, put_policy_unless, put_policy_on, put_policy_judgement, put_policy_refusal, put_policy_effect}
use Rattle.sm_judge_policies.proofs.KeptLemmas.{keeps_policy}

-- ---- refusals

unless_refuses : (statement : Option ℕ) (row : SecretRow) (when : When) (put : PutResourcePolicy)
    → refusal_told (put_policy_unless statement row when put.resource_policy) ≡ Some (option_map Public statement)
unless_refuses None row when put = refl
unless_refuses (Some statement) row when put = refl

pub put_policy_refuses : (rows : Rows) (when : When) (put : PutResourcePolicy)
    → refusal_told (put_policy_judgement rows when put) ≡ Some (put_policy_refusal rows when.moment put)
put_policy_refuses rows when put =
    on_secret_refusal (found rows when.moment (secret_id put.secret_id)) (λ row. put_policy_on row when put)
    (λ row. option_map Public (blocked put)) (λ row. unless_refuses (blocked put) row when put)

-- ---- it always changes the row

unless_changes : (statement : Option ℕ) (row : SecretRow) (when : When) (put : PutResourcePolicy)
    → IfAccepted (put_policy_unless statement row when put.resource_policy) (λ change. is_none change ≡ false)
unless_changes None row when put = refl
unless_changes (Some statement) row when put = tt

-- no accepted PutResourcePolicy is without a change
pub put_policy_changes : (rows : Rows) (when : When) (put : PutResourcePolicy)
    → IfAccepted (put_policy_judgement rows when put) (λ change. is_none change ≡ false)
put_policy_changes rows when put =
    on_secret_reads (found rows when.moment (secret_id put.secret_id)) (λ row. put_policy_on row when put) false
    (λ row. unless_changes (blocked put) row when put)

-- ---- the change

unless_change : (statement : Option ℕ) (rows : Rows) (when : When) (id : SecretId) (put : PutResourcePolicy)
    (row : SecretRow) → Sound rows → IsTrue (is_date when.moment) → IsTrue (is_resource_policy put.resource_policy)
    → found rows when.moment id ≡ Some row
    → IfChange (put_policy_unless statement row when put.resource_policy)
    (OnRow rows when id (with_policy (Some put.resource_policy)))
unless_change None rows when id put row sound date is e =
    keeps_policy rows when id (Some put.resource_policy) row sound date is e
unless_change (Some statement) rows when id put row sound date is e = tt

-- a change is the entry's
pub put_policy_change : (rows : Rows) (when : When) (put : PutResourcePolicy) → Sound rows
    → IsTrue (is_date when.moment)
    → put_policy_forms put ≡ None
    → IfChange (put_policy_judgement rows when put) (IsChange rows when.moment
    (settled (put_policy_effect (sweep rows when.moment) when put)))
put_policy_change rows when put sound date forms =
    on_secret_change (found rows when.moment (secret_id put.secret_id)) (λ row. put_policy_on row when put) _
    (λ row e. unless_change (blocked put) rows when (secret_id put.secret_id) put row sound date
    (put_policy_text put forms) e)
