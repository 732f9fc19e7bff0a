-- A secret with other replica regions: what has to hold of them so that it stays sound.
use Rattle.std.proofs.Common.{ℕ, List, IsTrue}
use Rattle.std.proofs.lemmas.Option.{IfSome_then}
use Rattle.sm_model.specs.declared.rows.SecretRow.{SecretRow}
use Rattle.sm_versions.specs.Regions.{are_regions}
use Rattle.sm_versions.specs.Sound.{UnsettledSound}
use Rattle.sm_judge_labels_and_regions.specs.Regional.{in_regions}

pub regional_sound : (regions : List (List ℕ)) (row : SecretRow) → IsTrue (are_regions regions) → UnsettledSound row
    → UnsettledSound (in_regions regions row)
regional_sound regions row are sound = record {
  kept = record {
    versions = assumption sound.kept.versions;
    job = IfSome_then row.job sound.kept.job (λ job fits. assumption fits);
  };
  fits = assumption (are, sound.fits);
}
