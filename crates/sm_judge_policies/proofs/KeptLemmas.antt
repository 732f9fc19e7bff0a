-- A secret with another policy, or without one: it stays sound where the policy may be a secret's.
use Rattle.std.proofs.Common.{◌≡◌, ℕ, List, Option, Some, IsTrue, refl}
use Rattle.std.proofs.lemmas.Option.{IfSome_then}
use Rattle.sm_model.specs.Versions.{When}
use Rattle.sm_base.specs.declared.secret_id.SecretId.{SecretId}
use Rattle.sm_model.specs.declared.entry.Change.TheVariants as changes
use Rattle.sm_model.specs.declared.rows.Rows.{Rows}
use Rattle.sm_model.specs.declared.rows.SecretRow.{SecretRow}
use Rattle.sm_model.specs.Bounds.{fits, is_date}
use Rattle.sm_policy_text.specs.Documents.{is_resource_policy}
use Rattle.sm_versions.specs.Sound.{UnsettledSound}
use Rattle.sm_table.specs.Found.{found}
use Rattle.sm_table.specs.Sound.{Sound}
use Rattle.sm_judge_common.specs.Secrets.{finished_row}
use Rattle.sm_judge_common.proofs.ChangeLemmas.{OnRow, found_change_beside}
use Rattle.sm_judge_policies.specs.Kept.{with_policy}

with_policy_sound : (policy : Option (List ℕ)) (row : SecretRow) → IsTrue (fits is_resource_policy policy)
    → UnsettledSound row → UnsettledSound (with_policy policy row)
with_policy_sound policy row is sound = record {
  kept = record {
    versions = assumption sound.kept.versions;
    job = IfSome_then row.job sound.kept.job (λ job fits. assumption fits);
  };
  fits = assumption (is, sound.fits);
}

-- the row that was found, with this policy in place of its own
pub keeps_policy : (rows : Rows) (when : When) (id : SecretId) (policy : Option (List ℕ)) (row : SecretRow)
    → Sound rows → IsTrue (is_date when.moment) → IsTrue (fits is_resource_policy policy)
    → found rows when.moment id ≡ Some row
    → OnRow rows when id (with_policy policy) (changes.Replace (finished_row (with_policy policy row) when))
keeps_policy rows when id policy row sound date is e =
    found_change_beside rows when id (with_policy policy) row sound date e
    (record { serial = refl; name = refl; arn = refl; versions = refl })
    (with_policy_sound policy row is)
