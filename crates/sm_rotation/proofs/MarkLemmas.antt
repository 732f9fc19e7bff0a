-- What remembering an attempt in a version leaves: ids, serials and values.
use Rattle.std.proofs.Common.{◌≡◌, ℕ, suc, Bool, true, false, ◌||◌, cond, List, [], ◌∷◌, length, Option, Some, refl, ap, arith}
use Rattle.std.proofs.lemmas.Grind.{common_steps}
use Rattle.sm_model.specs.declared.value.Value.{Value}
use Rattle.sm_model.specs.declared.rows.VersionRow.{VersionRow}
use Rattle.sm_base.specs.Texts.{same_text}
use Rattle.sm_versions.specs.Versions.{value_of, filled}
use Rattle.sm_model.specs.Versions.{has_version}
use Rattle.sm_versions.specs.Serials.{version_serials}
use Rattle.sm_versions.specs.Kept.{ids_once, has_none}
use Rattle.sm_rotation.specs.Step.{marked}

pub has_version_marked : (vs : List VersionRow) (id : List ℕ) (tested : Option ℕ) (x : List ℕ)
    → has_version (marked vs id tested) x ≡ has_version vs x
has_version_marked [] id tested x = refl
has_version_marked (v ∷ vs) id tested x = by (same_text v.id id) (has_version_marked vs id tested x)
  where
    by : (b : Bool) → has_version (marked vs id tested) x ≡ has_version vs x
        → has_version (cond b (record v { rotated = tested } ∷ vs) (v ∷ marked vs id tested)) x ≡ has_version (v ∷ vs) x
    by true rest = refl
    by false rest = ap (λ b. same_text v.id x || b) rest

pub value_of_marked : (vs : List VersionRow) (id : List ℕ) (tested : Option ℕ) (x : List ℕ)
    → value_of (marked vs id tested) x ≡ value_of vs x
value_of_marked [] id tested x = refl
value_of_marked (v ∷ vs) id tested x = by (same_text v.id id) (value_of_marked vs id tested x)
  where
    by : (b : Bool) → value_of (marked vs id tested) x ≡ value_of vs x
        → value_of (cond b (record v { rotated = tested } ∷ vs) (v ∷ marked vs id tested)) x ≡ value_of (v ∷ vs) x
    by true rest = refl
    by false rest = ap (λ o. cond (same_text v.id x) v.value o) rest

pub serials_marked : (vs : List VersionRow) (id : List ℕ) (tested : Option ℕ)
    → version_serials (marked vs id tested) ≡ version_serials vs
serials_marked [] id tested = refl
serials_marked (v ∷ vs) id tested = by (same_text v.id id) (serials_marked vs id tested)
  where
    by : (b : Bool) → version_serials (marked vs id tested) ≡ version_serials vs
        → version_serials (cond b (record v { rotated = tested } ∷ vs) (v ∷ marked vs id tested))
        ≡ version_serials (v ∷ vs)
    by true rest = refl
    by false rest = ap (λ ns. v.serial ∷ ns) rest

pub ids_marked : (vs : List VersionRow) (id : List ℕ) (tested : Option ℕ)
    → ids_once (marked vs id tested) ≡ ids_once vs
ids_marked [] id tested = refl
ids_marked (v ∷ vs) id tested =
    grind (arith, common_steps, ids_marked vs id tested, has_version_marked vs id tested v.id)

pub length_marked : (vs : List VersionRow) (id : List ℕ) (tested : Option ℕ)
    → length (marked vs id tested) ≡ length vs
length_marked [] id tested = refl
length_marked (v ∷ vs) id tested = by (same_text v.id id) (length_marked vs id tested)
  where
    by : (b : Bool) → length (marked vs id tested) ≡ length vs
        → length (cond b (record v { rotated = tested } ∷ vs) (v ∷ marked vs id tested)) ≡ length (v ∷ vs)
    by true rest = refl
    by false rest = ap (λ n. suc n) rest

pub none_filled : (vs : List VersionRow) (id : List ℕ) (value : Value) → has_none (filled vs id value) ≡ has_none vs
none_filled [] id value = refl
none_filled (v ∷ vs) id value = by (same_text v.id id)
  where
    by : (b : Bool) → has_none (cond b (record v { value = Some value } ∷ vs) (v ∷ filled vs id value)) ≡ false
    by true = refl
    by false = refl
