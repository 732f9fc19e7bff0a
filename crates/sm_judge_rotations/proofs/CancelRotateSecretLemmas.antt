-- Judging CancelRotateSecret: when it is refused, and what it changes.
use Rattle.std.proofs.Common.{◌≡◌, false, Some, None, is_none, IsTrue, refl}
use Rattle.sm_base.specs.declared.secret_id.SecretId.{SecretId}
use Rattle.sm_base.specs.SecretId.{secret_id}
use Rattle.sm_model.specs.declared.request.OfSecret.{OfSecret}
use Rattle.sm_model.specs.declared.rows.Rotation.{Rotation}
use Rattle.sm_model.specs.declared.rows.Rows.{Rows}
use Rattle.sm_model.specs.declared.rows.SecretRow.{SecretRow}
use Rattle.sm_model.specs.Bounds.{is_date}
use Rattle.sm_model.specs.Versions.{When}
use Rattle.sm_versions.specs.Sound.{UnsettledSound}
use Rattle.sm_table.specs.Sweep.{sweep}
use Rattle.sm_table.specs.Found.{found}
use Rattle.sm_table.specs.Sound.{Sound}
use Rattle.sm_judge_common.specs.Changes.{settled, IsChange}
use Rattle.sm_judge_common.specs.Judged.{refusal_told, IfAccepted, IfChange}
use Rattle.sm_judge_common.proofs.JudgedLemmas.{on_secret_refusal, on_secret_reads}
use Rattle.sm_judge_common.proofs.ChangeLemmas.{OnRow, on_secret_change, found_change_beside}
use Rattle.sm_judge_rotations.specs.CancelRotateSecret.{turned_off, cancelled, cancel_on, cancel_judgement, cancel_refusal, cancel_effect}
use Rattle.sm_judge_rotations.proofs.RotationLemmas.{RotationFits, parts_of, of_parts, rerotated_sound}

-- ---- refusals

pub cancel_refuses : (rows : Rows) (when : When) (cancel : OfSecret)
    → refusal_told (cancel_judgement rows when cancel) ≡ Some (cancel_refusal rows when.moment cancel)
cancel_refuses rows when cancel =
    on_secret_refusal (found rows when.moment (secret_id cancel.secret_id)) (λ row. cancel_on row when) (λ row. None)
    (λ row. refl)

-- ---- it always changes the row

-- no accepted CancelRotateSecret is without a change
pub cancel_changes : (rows : Rows) (when : When) (cancel : OfSecret)
    → IfAccepted (cancel_judgement rows when cancel) (λ change. is_none change ≡ false)
cancel_changes rows when cancel =
    on_secret_reads (found rows when.moment (secret_id cancel.secret_id)) (λ row. cancel_on row when) false
    (λ row. refl)

-- ---- the change

turned_off_fits : (kept : Rotation) → RotationFits kept → RotationFits (turned_off kept)
turned_off_fits kept parts = record {
  lambda = parts.lambda;
  days = parts.days;
  schedule = parts.schedule;
  next = refl;
  last = parts.last;
}

cancelled_sound : (row : SecretRow) → UnsettledSound row → UnsettledSound (cancelled row)
cancelled_sound row sound =
    let parts = turned_off_fits row.rotation (parts_of row.rotation sound.fits.rotation) in
    rerotated_sound (turned_off row.rotation) None row (of_parts (turned_off row.rotation) parts) tt refl sound

on_change : (rows : Rows) (when : When) (id : SecretId) (row : SecretRow) → Sound rows → IsTrue (is_date when.moment)
    → found rows when.moment id ≡ Some row → IfChange (cancel_on row when) (OnRow rows when id cancelled)
on_change rows when id row sound date e =
    found_change_beside rows when id cancelled row sound date e
    (record { serial = refl; name = refl; arn = refl; versions = refl })
    (cancelled_sound row)

-- a change is the entry's
pub cancel_change : (rows : Rows) (when : When) (cancel : OfSecret) → Sound rows → IsTrue (is_date when.moment)
    → IfChange (cancel_judgement rows when cancel) (IsChange rows when.moment
    (settled (cancel_effect (sweep rows when.moment) when cancel)))
cancel_change rows when cancel sound date =
    on_secret_change (found rows when.moment (secret_id cancel.secret_id)) (λ row. cancel_on row when) _
    (λ row e. on_change rows when (secret_id cancel.secret_id) row sound date e)
