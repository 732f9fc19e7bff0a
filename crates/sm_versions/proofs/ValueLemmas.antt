-- What filling and adding a version does to ids, serials and values.
use Rattle.std.proofs.Common.{◌≡◌, ℕ, ◌+◌, true, false, ◌||◌, cond, List, [], ◌∷◌, ◌++◌, Some, None, refl, sym, ap, arith}
use Rattle.std.proofs.lemmas.Grind.{common_steps}
use Rattle.std.proofs.lemmas.Bool.Decides.{nat_tests}
use Rattle.sm_model.specs.declared.value.Value.{Value}
use Rattle.sm_model.specs.declared.rows.Pair.{Pair}
use Rattle.sm_model.specs.declared.rows.VersionRow.{VersionRow}
use Rattle.sm_base.specs.Texts.{same_text}
use Rattle.sm_versions.specs.Versions.{has_value, value_of, version_of, filled}
use Rattle.sm_model.specs.Versions.{has_version}
use Rattle.sm_versions.specs.Serials.{rises, version_serials}
use Rattle.sm_versions.specs.Kept.{ids_once, pairs_named, has_none}
use Rattle.sm_versions.proofs.TextLemmas.{same_text_tells}

-- ---- a version filled

pub has_version_filled : (vs : List VersionRow) (id : List ℕ) (value : Value) (x : List ℕ)
    → has_version (filled vs id value) x ≡ has_version vs x
has_version_filled [] id value x = refl
has_version_filled (v ∷ vs) id value x = grind (arith, common_steps, has_version_filled vs id value x)

pub ids_filled : (vs : List VersionRow) (id : List ℕ) (value : Value) → ids_once (filled vs id value) ≡ ids_once vs
ids_filled [] id value = refl
ids_filled (v ∷ vs) id value = grind (arith, common_steps, ids_filled vs id value, has_version_filled vs id value v.id)

pub serials_filled : (vs : List VersionRow) (id : List ℕ) (value : Value)
    → version_serials (filled vs id value) ≡ version_serials vs
serials_filled [] id value = refl
serials_filled (v ∷ vs) id value = grind (arith, common_steps, serials_filled vs id value)

-- who had a value has one
pub has_value_filled : (vs : List VersionRow) (id : List ℕ) (value : Value) (x : List ℕ) → has_value vs x ≡ true
    → has_value (filled vs id value) x ≡ true
has_value_filled [] id value x h = h
has_value_filled (v ∷ vs) id value x h = grind (arith, common_steps, has_value_filled vs id value x)

-- and so has the version that was filled
pub has_value_there : (vs : List VersionRow) (id : List ℕ) (value : Value) → has_version vs id ≡ true
    → has_value (filled vs id value) id ≡ true
has_value_there [] id value h = absurd (cc)
has_value_there (v ∷ vs) id value h = grind (arith, common_steps, has_value_there vs id value)

-- ---- a version added

pub has_version_push : (vs : List VersionRow) (w : VersionRow) (x : List ℕ)
    → has_version (vs ++ w ∷ []) x ≡ (has_version vs x || same_text w.id x)
has_version_push [] w x = grind (arith, common_steps)
has_version_push (v ∷ vs) w x = grind (arith, common_steps, has_version_push vs w x)

pub ids_push : (vs : List VersionRow) (w : VersionRow) → ids_once vs ≡ true → has_version vs w.id ≡ false
    → ids_once (vs ++ w ∷ []) ≡ true
ids_push [] w h none = refl
ids_push (v ∷ vs) w h none =
    grind (
      arith,
      common_steps,
      ids_push vs w,
      has_version_push vs w v.id,
      same_text_tells v.id w.id,
      same_text_tells
          w.id v.id,
    )

pub value_of_push : (vs : List VersionRow) (w : VersionRow) (x : List ℕ)
    → value_of (vs ++ w ∷ []) x ≡ cond (has_version vs x) (value_of vs x) (cond (same_text w.id x) w.value None)
value_of_push [] w x = refl
value_of_push (v ∷ vs) w x = grind (arith, common_steps, value_of_push vs w x)

-- who has a value is there
pub has_value_named : (vs : List VersionRow) (x : List ℕ) → has_value vs x ≡ true → has_version vs x ≡ true
has_value_named [] x h = h
has_value_named (v ∷ vs) x h = grind (arith, common_steps, has_value_named vs x)

serials_push : (vs : List VersionRow) (w : VersionRow) → version_serials (vs ++ w ∷ []) ≡ version_serials vs
    ++ w.serial ∷ []
serials_push [] w = refl
serials_push (v ∷ vs) w = ap (λ ns. v.serial ∷ ns) (serials_push vs w)

-- the next serial may be given
pub rises_push : (low : ℕ) (ns : List ℕ) (next : ℕ) → rises low ns next ≡ true
    → rises low (ns ++ next ∷ []) (next + 1) ≡ true
rises_push low [] next h = grind (arith, nat_tests)
rises_push low (n ∷ ns) next h = grind (arith, nat_tests, rises_push (n + 1) ns next)

pub serials_added : (vs : List VersionRow) (w : VersionRow) (next : ℕ) → w.serial ≡ next
    → rises 0 (version_serials vs) next ≡ true → rises 0 (version_serials (vs ++ w ∷ [])) (next + 1) ≡ true
serials_added vs w next e h = rw (serials_push vs w) (rw e (rises_push 0 (version_serials vs) next h))

-- ---- pairs name versions of a longer list too

pub named_more : (vs ws : List VersionRow) (ps : List Pair)
    → ((x : List ℕ) → has_version vs x ≡ true → has_version ws x ≡ true) → pairs_named vs ps ≡ true
    → pairs_named ws ps ≡ true
named_more vs ws [] more h = refl
named_more vs ws (p ∷ ps) more h = grind (arith, common_steps, named_more vs ws ps more, more p.id)

pub version_of_none : (vs : List VersionRow) (id : List ℕ) → version_of vs id ≡ None → has_version vs id ≡ false
version_of_none [] id h = refl
version_of_none (v ∷ vs) id h = grind (arith, common_steps, version_of_none vs id)

pub version_of_some : (vs : List VersionRow) (id : List ℕ) (v : VersionRow) → version_of vs id ≡ Some v
    → (has_version vs id ≡ true) × (value_of vs id ≡ v.value)
version_of_some [] id v h = absurd (cc)
version_of_some (w ∷ vs) id v h = grind (arith, common_steps, version_of_some vs id v)

-- a list in which some id is found is not empty
pub not_none : (vs : List VersionRow) (id : List ℕ) → has_version vs id ≡ true → has_none vs ≡ false
not_none [] id h = sym h
not_none (v ∷ vs) id h = refl
