-- The versions of a secret.
use Rattle.std.proofs.Common.{◌≡◌, ℕ, zero, suc, ◌+◌, ◌<◌, Bool, true, false, not, ◌&&◌, ◌||◌, List, [], ◌∷◌, ◌++◌, take, length, slice_get, Some, IfSome, refl, sym, ap, subst, ◌∙◌, arith}
use Rattle.sm_base.specs.Texts.{same_text}
use Rattle.sm_model.specs.Versions.{has_version}
use Rattle.sm_model.specs.declared.rows.VersionRow.{VersionRow}
use Rattle.sm_versions.specs.Kept.{ids_once}
use Rattle.sm_versions.specs.Sound.{is_version, each_version}
use Rattle.sm_versions.specs.Texts.{is_among, once}
use Rattle.sm_base_check.specs.Tests.{version_ids}
use Rattle.sm_base_check.proofs.DifferLemmas.{more}

has_among : (versions : List VersionRow) (id : List ℕ) → has_version versions id ≡ is_among (version_ids versions) id
has_among [] id = refl
has_among (v ∷ vs) id = ap (λ b. same_text v.id id || b) (has_among vs id)

pub ids_once_is : (versions : List VersionRow) → once (version_ids versions) ≡ ids_once versions
ids_once_is [] = refl
ids_once_is (v ∷ vs) = rw (has_among vs v.id)
    (ap (λ b. not (is_among (version_ids vs) v.id) && b) (ids_once_is vs))

each_push : (versions : List VersionRow) (v : VersionRow)
    → each_version (versions ++ v ∷ []) ≡ (each_version versions && is_version v)
each_push [] v = by (is_version v)
  where
    by : (b : Bool) → (b && true) ≡ (true && b)
    by true = refl
    by false = refl
each_push (u ∷ us) v = by (is_version u) (each_push us v)
  where
    by : (b : Bool) → each_version (us ++ v ∷ []) ≡ (each_version us && is_version v)
        → (b && each_version (us ++ v ∷ [])) ≡ ((b && each_version us) && is_version v)
    by true rest = rest
    by false rest = refl

-- a version that is there
at_place : (versions : List VersionRow) (i : ℕ) → i < length versions
    → (v : VersionRow) × (slice_get versions i ≡ Some v)
at_place [] i lt = absurd (omega (arith, lt))
at_place (v ∷ vs) zero lt = (v, refl)
at_place (v ∷ vs) (suc i) lt = at_place vs i (omega (arith, lt))

-- one version more, as at a step of a loop
pub each_more : (versions : List VersionRow) (i : ℕ) (fits : Bool) → i < length versions
    → IfSome (slice_get versions i) (λ v. fits ≡ is_version v) → fits ≡ true → each_version (take i versions) ≡ true
    → each_version (take (i + 1) versions) ≡ true
each_more versions i fits lt h so each =
    let at = at_place versions i lt in
    let is : is_version at.0 ≡ true = sym (subst (λ o. IfSome o (λ v. fits ≡ is_version v)) at.1 h) ∙ so in
    ap each_version (more versions i at.0 at.1) ∙ each_push (take i versions) at.0 ∙ rw (each, is) refl

one_not : (versions : List VersionRow) (i : ℕ) (v : VersionRow) → slice_get versions i ≡ Some v
    → is_version v ≡ false → each_version versions ≡ false
one_not [] i v here e = absurd (cc)
one_not (u ∷ us) zero v here e = let same : u ≡ v = cc in rw (same, e) refl
one_not (u ∷ us) (suc i) v here e = rw (one_not us i v here e) (by (is_version u))
  where
    by : (b : Bool) → (b && false) ≡ false
    by true = refl
    by false = refl

-- one that doesn't fit
pub each_not : (versions : List VersionRow) (i : ℕ) (fits : Bool) → i < length versions
    → IfSome (slice_get versions i) (λ v. fits ≡ is_version v) → fits ≡ false → false ≡ each_version versions
each_not versions i fits lt h unfit =
    let at = at_place versions i lt in
    let is : is_version at.0 ≡ false = sym (subst (λ o. IfSome o (λ v. fits ≡ is_version v)) at.1 h) ∙ unfit in
    sym (one_not versions i at.0 at.1 is)
