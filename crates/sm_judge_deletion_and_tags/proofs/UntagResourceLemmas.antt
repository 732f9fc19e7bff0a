-- Judging UntagResource: when it is refused, and what it changes.
use Rattle.std.proofs.Common.{◌≡◌, ℕ, false, List, Some, None, is_none, IsTrue, refl}
use Rattle.sm_base.specs.declared.secret_id.SecretId.{SecretId}
use Rattle.sm_base.specs.SecretId.{secret_id}
use Rattle.sm_model.specs.declared.request.UntagResource.{UntagResource}
use Rattle.sm_model.specs.declared.rows.Rows.{Rows}
use Rattle.sm_model.specs.declared.rows.SecretRow.{SecretRow}
use Rattle.sm_model.specs.Bounds.{is_date}
use Rattle.sm_model.specs.Versions.{When}
use Rattle.sm_versions.specs.Sound.{UnsettledSound}
use Rattle.sm_table.specs.Sweep.{sweep}
use Rattle.sm_table.specs.Found.{found}
use Rattle.sm_table.specs.Sound.{Sound}
use Rattle.sm_judge_common.specs.Changes.{settled, IsChange}
use Rattle.sm_judge_common.specs.Judged.{refusal_told, IfAccepted, IfChange}
use Rattle.sm_judge_common.proofs.JudgedLemmas.{on_secret_refusal, on_secret_reads}
use Rattle.sm_judge_common.proofs.ChangeLemmas.{OnRow, on_secret_change, found_change_beside}
use Rattle.sm_judge_deletion_and_tags.specs.UntagResource.{without_tags, untagged, untag_on, untag_judgement, untag_refusal, untag_effect}
use Rattle.sm_judge_deletion_and_tags.proofs.RevisedLemmas.{tags_of, revised_sound}
use Rattle.sm_judge_deletion_and_tags.proofs.TagLemmas.{without_are}

-- ---- refusals

pub untag_refuses : (rows : Rows) (when : When) (untag : UntagResource)
    → refusal_told (untag_judgement rows when untag) ≡ Some (untag_refusal rows when.moment untag)
untag_refuses rows when untag =
    on_secret_refusal (found rows when.moment (secret_id untag.secret_id)) (λ row. untag_on row when untag.tag_keys)
    (λ row. None) (λ row. refl)

-- ---- it always changes the row

-- no accepted UntagResource is without a change
pub untag_changes : (rows : Rows) (when : When) (untag : UntagResource)
    → IfAccepted (untag_judgement rows when untag) (λ change. is_none change ≡ false)
untag_changes rows when untag =
    on_secret_reads (found rows when.moment (secret_id untag.secret_id)) (λ row. untag_on row when untag.tag_keys) false
    (λ row. refl)

-- ---- the change

untagged_sound : (row : SecretRow) (keys : List (List ℕ)) → UnsettledSound row → UnsettledSound (untagged keys row)
untagged_sound row keys sound =
    revised_sound row.deletion (without_tags row.tags keys) row sound.fits.deletion
    (without_are row.tags keys (tags_of row sound)) sound

on_change : (rows : Rows) (when : When) (id : SecretId) (keys : List (List ℕ)) (row : SecretRow) → Sound rows
    → IsTrue (is_date when.moment) → found rows when.moment id ≡ Some row
    → IfChange (untag_on row when keys) (OnRow rows when id (untagged keys))
on_change rows when id keys row sound date e =
    found_change_beside rows when id (untagged keys) row sound date e
    (record { serial = refl; name = refl; arn = refl; versions = refl })
    (untagged_sound row keys)

-- a change is the entry's
pub untag_change : (rows : Rows) (when : When) (untag : UntagResource) → Sound rows → IsTrue (is_date when.moment)
    → IfChange (untag_judgement rows when untag) (IsChange rows when.moment
    (settled (untag_effect (sweep rows when.moment) when untag)))
untag_change rows when untag sound date =
    on_secret_change (found rows when.moment (secret_id untag.secret_id)) (λ row. untag_on row when untag.tag_keys) _
    (λ row e. on_change rows when (secret_id untag.secret_id) untag.tag_keys row sound date e)
