-- Judging RemoveRegionsFromReplication: when it is refused, and what it changes.
use Rattle.std.proofs.Common.{◌≡◌, ℕ, ◌≤◌, Bool, true, false, not, cond, List, [], ◌∷◌, length, Some, None, is_none, IsTrue, refl, ap, arith}
use Rattle.std.specs.List.{filter, list_all}
use Rattle.std.proofs.lemmas.Bool.{and_parts, and_from}
use Rattle.sm_base.specs.declared.limits.TheConstants.{REGIONS_LIMIT}
use Rattle.sm_base.specs.declared.secret_id.SecretId.{SecretId}
use Rattle.sm_base.specs.SecretId.{secret_id}
use Rattle.sm_model.specs.declared.request.RegionsOfSecret.{RegionsOfSecret}
use Rattle.sm_model.specs.declared.rows.Rows.{Rows}
use Rattle.sm_model.specs.declared.rows.SecretRow.{SecretRow}
use Rattle.sm_model.specs.Bounds.{is_date}
use Rattle.sm_model.specs.Versions.{When}
use Rattle.sm_versions.specs.Regions.{is_region, are_regions}
use Rattle.sm_versions.specs.Sound.{UnsettledSound}
use Rattle.sm_versions.specs.Texts.{is_among}
use Rattle.sm_table.specs.Sweep.{sweep}
use Rattle.sm_table.specs.Found.{found}
use Rattle.sm_table.specs.Sound.{Sound}
use Rattle.sm_judge_common.specs.Changes.{settled, IsChange}
use Rattle.sm_judge_common.specs.Judged.{refusal_told, IfAccepted, IfChange}
use Rattle.sm_judge_common.proofs.JudgedLemmas.{on_secret_refusal, on_secret_reads}
use Rattle.sm_judge_common.proofs.ChangeLemmas.{OnRow, on_secret_change, found_change_beside}
use Rattle.sm_judge_common.proofs.RegionLemmas.{few_regions, each_region, regions_from}
use Rattle.sm_judge_labels_and_regions.specs.RemoveRegionsFromReplication.{without_regions, unreplicated, remove_on, remove_judgement, remove_refusal, remove_effect}
use Rattle.sm_judge_labels_and_regions.proofs.RegionalLemmas.{regional_sound}

-- ---- regions fewer

pub without_regions_is_filter : (regions gone : List (List ℕ))
    → filter (λ r. not (is_among gone r)) regions ≡ without_regions regions gone
without_regions_is_filter [] gone = refl
without_regions_is_filter (r ∷ rs) gone = by (is_among gone r) (without_regions_is_filter rs gone)
  where
    by : (b : Bool) → filter (λ s. not (is_among gone s)) rs ≡ without_regions rs gone
        → cond (not b) (r ∷ filter (λ s. not (is_among gone s)) rs) (filter (λ s. not (is_among gone s)) rs)
        ≡ cond b (without_regions rs gone) (r ∷ without_regions rs gone)
    by true e = e
    by false e = ap (λ ss. r ∷ ss) e

without_fewer : (regions gone : List (List ℕ)) → length (without_regions regions gone) ≤ length regions
without_fewer [] gone = omega arith
without_fewer (r ∷ rs) gone = by (is_among gone r) (without_fewer rs gone)
  where
    by : (b : Bool) → length (without_regions rs gone) ≤ length rs
        → length (cond b (without_regions rs gone) (r ∷ without_regions rs gone)) ≤ length (r ∷ rs)
    by true h = omega arith
    by false h = omega arith

without_each : (regions gone : List (List ℕ)) → list_all is_region regions ≡ true
    → list_all is_region (without_regions regions gone) ≡ true
without_each [] gone each = refl
without_each (r ∷ rs) gone each =
    let parts = and_parts (is_region r) (list_all is_region rs) each in
    by (is_among gone r) parts.0 (without_each rs gone parts.1)
  where
    by : (b : Bool) → is_region r ≡ true → list_all is_region (without_regions rs gone) ≡ true
        → list_all is_region (cond b (without_regions rs gone) (r ∷ without_regions rs gone)) ≡ true
    by true here rest = rest
    by false here rest = and_from _ _ here rest

-- the regions that are left are as they have to be
without_are : (regions gone : List (List ℕ)) → IsTrue (are_regions regions)
    → IsTrue (are_regions (without_regions regions gone))
without_are regions gone are =
    let few : length (without_regions regions gone) ≤ REGIONS_LIMIT =
    omega (arith, without_fewer regions gone, few_regions regions are) in
    regions_from (without_regions regions gone) few (without_each regions gone (each_region regions are))

-- ---- refusals

pub remove_refuses : (rows : Rows) (when : When) (remove : RegionsOfSecret)
    → refusal_told (remove_judgement rows when remove) ≡ Some (remove_refusal rows when.moment remove)
remove_refuses rows when remove =
    on_secret_refusal (found rows when.moment (secret_id remove.secret_id))
    (λ row. remove_on row when remove.regions) (λ row. None) (λ row. refl)

-- ---- it always changes the row

-- no accepted RemoveRegionsFromReplication is without a change
pub remove_changes : (rows : Rows) (when : When) (remove : RegionsOfSecret)
    → IfAccepted (remove_judgement rows when remove) (λ change. is_none change ≡ false)
remove_changes rows when remove =
    on_secret_reads (found rows when.moment (secret_id remove.secret_id)) (λ row. remove_on row when remove.regions)
    false (λ row. refl)

-- ---- the change

unreplicated_sound : (row : SecretRow) (gone : List (List ℕ)) → UnsettledSound row
    → UnsettledSound (unreplicated gone row)
unreplicated_sound row gone sound =
    regional_sound (without_regions row.regions gone) row (without_are row.regions gone sound.fits.regions) sound

on_change : (rows : Rows) (when : When) (id : SecretId) (gone : List (List ℕ)) (row : SecretRow) → Sound rows
    → IsTrue (is_date when.moment) → found rows when.moment id ≡ Some row
    → IfChange (remove_on row when gone) (OnRow rows when id (unreplicated gone))
on_change rows when id gone row sound date e =
    found_change_beside rows when id (unreplicated gone) row sound date e
    (record { serial = refl; name = refl; arn = refl; versions = refl })
    (unreplicated_sound row gone)

-- a change is the entry's
pub remove_change : (rows : Rows) (when : When) (remove : RegionsOfSecret) → Sound rows → IsTrue (is_date when.moment)
    → IfChange (remove_judgement rows when remove) (IsChange rows when.moment
    (settled (remove_effect (sweep rows when.moment) when remove)))
remove_change rows when remove sound date =
    on_secret_change (found rows when.moment (secret_id remove.secret_id)) (λ row. remove_on row when remove.regions) _
    (λ row e. on_change rows when (secret_id remove.secret_id) remove.regions row sound date e)
