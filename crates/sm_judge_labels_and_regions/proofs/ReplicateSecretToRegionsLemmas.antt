-- Judging ReplicateSecretToRegions: when it is refused, and what it changes.
use Rattle.std.proofs.Common.{◌≡◌, ℕ, ◌≤◌, Bool, true, false, cond, List, length, Some, None, is_none, IsTrue, refl, arith}
use Rattle.std.specs.List.{list_all}
use Rattle.std.proofs.lemmas.Bool.Decides.{nat_tests}
use Rattle.sm_base.specs.declared.limits.TheConstants.{REGIONS_LIMIT}
use Rattle.sm_base.specs.declared.secret_id.SecretId.{SecretId}
use Rattle.sm_base.specs.SecretId.{secret_id}
use Rattle.sm_model.specs.declared.entry.Change.{Change}
use Rattle.sm_model.specs.declared.request.RegionsOfSecret.{RegionsOfSecret}
use Rattle.sm_model.specs.declared.rows.Rows.{Rows}
use Rattle.sm_model.specs.declared.rows.SecretRow.{SecretRow}
use Rattle.sm_model.specs.declared.why.What.TheVariants.{Regions}
use Rattle.sm_model.specs.declared.why.Why.{Why}
use Rattle.sm_model.specs.declared.why.Why.TheVariants.{Limit}
use Rattle.sm_model.specs.Bounds.{is_date}
use Rattle.sm_model.specs.Versions.{When}
use Rattle.sm_forms.specs.RegionsOfSecret.{replicate_forms}
use Rattle.sm_forms.proofs.RegionsOfSecretLemmas.{replicate_regions}
use Rattle.sm_versions.specs.Regions.{is_region}
use Rattle.sm_versions.specs.Sound.{UnsettledSound}
use Rattle.sm_table.specs.Sweep.{sweep}
use Rattle.sm_table.specs.Found.{found}
use Rattle.sm_table.specs.Sound.{Sound}
use Rattle.sm_judge_common.specs.declared.judged.Judged.{Judged}
use Rattle.sm_judge_common.specs.declared.judged.Judged.TheVariants.{Refuse}
use Rattle.sm_judge_common.specs.Changes.{settled, IsChange}
use Rattle.sm_judge_common.specs.Judged.{refusal_told, IfAccepted, IfChange}
use Rattle.sm_judge_common.specs.Refusals.{refuse_if}
use Rattle.sm_judge_common.specs.Regions.{with_regions}
use Rattle.sm_judge_common.proofs.JudgedLemmas.{on_secret_refusal, on_secret_reads}
use Rattle.sm_judge_common.proofs.ChangeLemmas.{OnRow, on_secret_change, found_change_beside}
use Rattle.sm_judge_common.proofs.RegionLemmas.{with_regions_each, each_region, regions_from}
use Rattle.sm_judge_labels_and_regions.specs.ReplicateSecretToRegions.{replicated, has_too_many_regions, replicate_within_limit, replicate_on, replicate_judgement, replicate_refusal_on, replicate_refusal, replicate_effect}
use Rattle.sm_judge_labels_and_regions.proofs.RegionalLemmas.{regional_sound}

-- ---- refusals

limit_refuses : (many : Bool) (row : SecretRow) (when : When) (regions : List (List ℕ))
    → refusal_told (cond many (Refuse (Limit REGIONS_LIMIT Regions)) (replicate_within_limit row when regions))
    ≡ Some (refuse_if many (Limit REGIONS_LIMIT Regions))
limit_refuses true row when regions = refl
limit_refuses false row when regions = refl

on_refuses : (row : SecretRow) (when : When) (regions : List (List ℕ))
    → refusal_told (replicate_on row when regions) ≡ Some (replicate_refusal_on row regions)
on_refuses row when regions =
    limit_refuses (has_too_many_regions (with_regions row.regions regions)) row when
    (with_regions row.regions regions)

pub replicate_refuses : (rows : Rows) (when : When) (replicate : RegionsOfSecret)
    → refusal_told (replicate_judgement rows when replicate) ≡ Some (replicate_refusal rows when.moment replicate)
replicate_refuses rows when replicate =
    on_secret_refusal (found rows when.moment (secret_id replicate.secret_id))
    (λ row. replicate_on row when replicate.regions) (λ row. replicate_refusal_on row replicate.regions)
    (λ row. on_refuses row when replicate.regions)

-- ---- it always changes the row

limit_changes : (many : Bool) (why : Why) (row : SecretRow) (when : When) (regions : List (List ℕ))
    → IfAccepted (cond many (Refuse why) (replicate_within_limit row when regions)) (λ change. is_none change ≡ false)
limit_changes true why row when regions = tt
limit_changes false why row when regions = refl

-- no accepted ReplicateSecretToRegions is without a change
pub replicate_changes : (rows : Rows) (when : When) (replicate : RegionsOfSecret)
    → IfAccepted (replicate_judgement rows when replicate) (λ change. is_none change ≡ false)
replicate_changes rows when replicate =
    on_secret_reads (found rows when.moment (secret_id replicate.secret_id))
    (λ row. replicate_on row when replicate.regions) false
    (λ row. limit_changes (has_too_many_regions (with_regions row.regions replicate.regions))
    (Limit REGIONS_LIMIT Regions) row when (with_regions row.regions replicate.regions))

-- ---- the change

-- what is asked of the change is asked where there are few enough regions
limit_change : (many : Bool) (why : Why) (judged : Judged) (P : Change → Type 0) → (many ≡ false → IfChange judged P)
    → IfChange (cond many (Refuse why) judged) P
limit_change true why judged P h = tt
limit_change false why judged P h = h refl

few_enough : (regions : List (List ℕ)) → has_too_many_regions regions ≡ false → length regions ≤ REGIONS_LIMIT
few_enough regions few = grind (arith, nat_tests, few)

replicated_sound : (row : SecretRow) (given : List (List ℕ))
    → has_too_many_regions (with_regions row.regions given) ≡ false → list_all is_region given ≡ true
    → UnsettledSound row → UnsettledSound (replicated given row)
replicated_sound row given few each sound =
    regional_sound (with_regions row.regions given) row
    (regions_from (with_regions row.regions given) (few_enough (with_regions row.regions given) few)
    (with_regions_each row.regions given (each_region row.regions sound.fits.regions) each))
    sound

on_change : (rows : Rows) (when : When) (id : SecretId) (given : List (List ℕ)) (row : SecretRow) → Sound rows
    → IsTrue (is_date when.moment) → list_all is_region given ≡ true → found rows when.moment id ≡ Some row
    → IfChange (replicate_on row when given) (OnRow rows when id (replicated given))
on_change rows when id given row sound date each e =
    limit_change (has_too_many_regions (with_regions row.regions given)) (Limit REGIONS_LIMIT Regions)
    (replicate_within_limit row when (with_regions row.regions given)) (OnRow rows when id (replicated given))
    (λ few. found_change_beside rows when id (replicated given) row sound date e
    (record { serial = refl; name = refl; arn = refl; versions = refl })
    (replicated_sound row given few each))

-- a change is the entry's
pub replicate_change : (rows : Rows) (when : When) (replicate : RegionsOfSecret) → Sound rows
    → IsTrue (is_date when.moment) → replicate_forms replicate ≡ None
    → IfChange (replicate_judgement rows when replicate) (IsChange rows when.moment
    (settled (replicate_effect (sweep rows when.moment) when replicate)))
replicate_change rows when replicate sound date forms =
    on_secret_change (found rows when.moment (secret_id replicate.secret_id))
    (λ row. replicate_on row when replicate.regions) _
    (λ row e. on_change rows when (secret_id replicate.secret_id) replicate.regions row sound date
    (each_region replicate.regions (replicate_regions replicate forms)) e)
