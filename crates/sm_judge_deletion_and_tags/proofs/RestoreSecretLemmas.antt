-- Judging RestoreSecret: when it is refused, and what it changes.
use Rattle.std.proofs.Common.{◌≡◌, false, Some, None, is_none, IsTrue, refl}
use Rattle.sm_base.specs.declared.secret_id.SecretId.{SecretId}
use Rattle.sm_base.specs.SecretId.{secret_id}
use Rattle.sm_model.specs.declared.request.OfSecret.{OfSecret}
use Rattle.sm_model.specs.declared.rows.Rows.{Rows}
use Rattle.sm_model.specs.declared.rows.SecretRow.{SecretRow}
use Rattle.sm_model.specs.Bounds.{is_date}
use Rattle.sm_model.specs.Versions.{When}
use Rattle.sm_versions.specs.Sound.{UnsettledSound}
use Rattle.sm_table.specs.Sweep.{sweep}
use Rattle.sm_table.specs.Found.{found}
use Rattle.sm_table.specs.Sound.{Sound}
use Rattle.sm_judge_common.specs.Changes.{settled, IsChange}
use Rattle.sm_judge_common.specs.Judged.{refusal_told, IfAccepted, IfChange}
use Rattle.sm_judge_common.proofs.JudgedLemmas.{if_there_refusal, if_there_accepts, if_there_change}
use Rattle.sm_judge_common.proofs.ChangeLemmas.{OnRow, found_change_beside}
use Rattle.sm_judge_deletion_and_tags.specs.RestoreSecret.{unscheduled, restore_on, restore_judgement, restore_refusal, restore_effect}
use Rattle.sm_judge_deletion_and_tags.proofs.RevisedLemmas.{tags_of, revised_sound}

-- ---- refusals

pub restore_refuses : (rows : Rows) (when : When) (restore : OfSecret)
    → refusal_told (restore_judgement rows when restore) ≡ Some (restore_refusal rows when.moment restore)
restore_refuses rows when restore =
    if_there_refusal (found rows when.moment (secret_id restore.secret_id)) (λ row. restore_on row when) (λ row. refl)

-- ---- it always changes the row

-- no accepted RestoreSecret is without a change
pub restore_changes : (rows : Rows) (when : When) (restore : OfSecret)
    → IfAccepted (restore_judgement rows when restore) (λ change. is_none change ≡ false)
restore_changes rows when restore =
    if_there_accepts (found rows when.moment (secret_id restore.secret_id)) (λ row. restore_on row when)
    (λ change. is_none change ≡ false) (λ row. refl)

-- ---- the change

unscheduled_sound : (row : SecretRow) → UnsettledSound row → UnsettledSound (unscheduled row)
unscheduled_sound row sound = revised_sound None row.tags row refl (tags_of row sound) sound

on_restored : (rows : Rows) (when : When) (id : SecretId) (row : SecretRow) → Sound rows → IsTrue (is_date when.moment)
    → found rows when.moment id ≡ Some row → IfChange (restore_on row when) (OnRow rows when id unscheduled)
on_restored rows when id row sound date e =
    found_change_beside rows when id unscheduled row sound date e
    (record { serial = refl; name = refl; arn = refl; versions = refl })
    (unscheduled_sound row)

-- a change is the entry's
pub restore_change : (rows : Rows) (when : When) (restore : OfSecret) → Sound rows → IsTrue (is_date when.moment)
    → IfChange (restore_judgement rows when restore) (IsChange rows when.moment
    (settled (restore_effect (sweep rows when.moment) when restore)))
restore_change rows when restore sound date =
    let id : SecretId = secret_id restore.secret_id in
    if_there_change (found rows when.moment id) (λ row. restore_on row when) _
    (λ row e. on_restored rows when id row sound date e)
