-- Versions of one secret.
use Rattle.std.proofs.Common.{◌≡◌, ◌↔◌, ℕ, zero, suc, ◌+◌, ◌<◌, ◌≤◌, Bool, true, false, not, cond, List, [], ◌∷◌, length, get_or, set, slice_get, slice_set, nat_eq, Option, Some, None, is_some, IsTrue, Decides, refl, sym, ap, ◌∙◌, arith}
use Rattle.std.specs.List.{find, position, position_or_len}
use Rattle.std.specs.Cmp.Lexicographic.{pointwise}
use Rattle.std.specs.Option.{option_and_then}
use Rattle.std.proofs.lemmas.Bool.{false≢true}
use Rattle.std.proofs.lemmas.Bool.Decides.{same_from_decides, nat_tests}
use Rattle.std.proofs.lemmas.List.Quantifiers.{position-Some}
use Rattle.std.proofs.lemmas.Option.{slice_get-get_or, get_or_from_slice_get}
use Rattle.sm_model.specs.declared.value.Value.{Value}
use Rattle.sm_model.specs.declared.value.Value.TheVariants.{Text, Bytes}
use Rattle.sm_model.specs.declared.rows.VersionRow.{VersionRow}
use Rattle.sm_base.specs.Texts.{same_text}
use Rattle.sm_model.specs.declared.rows.SecretRow.{SecretRow}
use Rattle.sm_versions.specs.declared.values.PutDone.TheVariants.{Same}
use Rattle.sm_versions.specs.Labels.{labels_on}
use Rattle.sm_versions.specs.Versions.{same_value, version_of, value_of, is_value, same, filled}
use Rattle.sm_model.specs.Versions.{When, has_version}
use Rattle.sm_versions.specs.Put.{put_held, put_answer_on, put_answer}
use Rattle.sm_versions.proofs.TextLemmas.{same_text_decides}

pub same_value_decides : (a b : Value) → Decides (same_value a b) (a ≡ b)
same_value_decides (Text a) (Text b) =
    ((λ h. ap Text ((same_text_decides a b).0 h)), (λ e. (same_text_decides a b).1 (cc)))
same_value_decides (Text a) (Bytes b) = ((λ h. cc), (λ e. cc))
same_value_decides (Bytes a) (Text b) = ((λ h. cc), (λ e. cc))
same_value_decides (Bytes a) (Bytes b) =
    ((λ h. ap Bytes ((same_text_decides a b).0 h)), (λ e. (same_text_decides a b).1 (cc)))

-- a test that says whether two values are equal
pub same_value_from_equals : (a b : Value) (r : Bool) → (IsTrue r ↔ (a ≡ b)) → r ≡ same_value a b
same_value_from_equals a b r h = same_from_decides r (same_value a b) h (same_value_decides a b)

-- the version with an id is the first that has it
pub version_of_is_find : (versions : List VersionRow) (id : List ℕ)
    → version_of versions id ≡ find (λ v. pointwise nat_eq v.id id) versions
unfolding same_text
version_of_is_find [] id = refl
version_of_is_find (v ∷ vs) id = grind (arith, version_of_is_find vs id)

pub has_version_is_some : (versions : List VersionRow) (id : List ℕ)
    → has_version versions id ≡ is_some (version_of versions id)
has_version_is_some [] id = refl
has_version_is_some (v ∷ vs) id = grind (arith, has_version_is_some vs id)

-- its value is the value of the version
pub value_of_is : (versions : List VersionRow) (id : List ℕ)
    → value_of versions id ≡ option_and_then (λ v. v.value) (version_of versions id)
value_of_is [] id = refl
value_of_is (v ∷ vs) id = grind (arith, value_of_is vs id)

-- the version at a place given the value, where no version before it has the id
pub filled_at : (vs : List VersionRow) (i : ℕ) (d : VersionRow) (id : List ℕ) (value : Value) → i < length vs
    → ((k : ℕ) → k < i → same_text (get_or vs k d).id id ≡ false) → same_text (get_or vs i d).id id ≡ true
    → filled vs id value ≡ set vs i (record (get_or vs i d) { value = Some value })
filled_at [] i d id value h before here = absurd (omega arith)
filled_at (v ∷ vs) zero d id value h before here = rw here
filled_at (v ∷ vs) (suc i) d id value h before here =
    rw (before 0 (omega arith))
    (ap (λ ws. v ∷ ws) (filled_at vs i d id value (omega arith) (λ k g. before (suc k) (omega arith)) here))

filled_past : (vs : List VersionRow) (id : List ℕ) (value : Value)
    → length vs ≤ position_or_len (λ v. same_text v.id id) vs → filled vs id value ≡ vs
filled_past [] id value h = refl
filled_past (v ∷ vs) id value h = by (same_text v.id id) (filled_past vs id value) h
  where
    by : (b : Bool) → (length vs ≤ position_or_len (λ w. same_text w.id id) vs → filled vs id value ≡ vs)
        → length (v ∷ vs) ≤ cond (not b) (1 + position_or_len (λ w. same_text w.id id) vs) 0
        → cond b (record v { value = Some value } ∷ vs) (v ∷ filled vs id value) ≡ v ∷ vs
    by true rest g = absurd (omega arith)
    by false rest g = ap (λ ws. v ∷ ws) (rest (omega arith))

-- at the place that was found
pub filled_found : (vs : List VersionRow) (i : ℕ) (v : VersionRow) (id : List ℕ) (value : Value)
    → position (λ w. same_text w.id id) vs ≡ Some i → v ≡ get_or vs i v
    → set vs i (record v { value = Some value }) ≡ filled vs id value
filled_found vs i v id value found e =
    let p = position-Some (λ w. same_text w.id id) vs i v found in
    ap (λ w. set vs i (record w { value = Some value })) e ∙ sym (filled_at vs i v id value p.0 p.2 p.1)

pub filled_there : (vs : List VersionRow) (i : ℕ) (v : VersionRow) (id : List ℕ) (value : Value)
    → position (λ w. same_text w.id id) vs ≡ Some i → slice_get vs i ≡ Some v
    → slice_set vs i (record v { value = Some value }) ≡ filled vs id value
filled_there vs i v id value found there =
    filled_found vs i v id value found (sym (get_or_from_slice_get vs i v v there))

pub filled_by : (vs all after : List VersionRow) (i : ℕ) (v made : VersionRow) (id : List ℕ) (value : Value)
    → all ≡ vs → position (λ w. same_text w.id id) vs ≡ Some i → slice_get vs i ≡ Some v
    → made ≡ record v { value = Some value } → after ≡ slice_set all i made → after ≡ filled vs id value
filled_by vs all after i v made id value same found there is e =
    e ∙ ap (λ ws. slice_set ws i made) same ∙ ap (λ w. slice_set vs i w) is
    ∙ filled_there vs i v id value found there

-- at the place that was found there is a version
pub found_there : (vs : List VersionRow) (i : ℕ) (id : List ℕ) → position (λ w. same_text w.id id) vs ≡ Some i
    → slice_get vs i ≡ None → ⊥
found_there [] i id found none = cc
found_there (v ∷ vs) i id found none =
    let p = position-Some (λ w. same_text w.id id) (v ∷ vs) i v found in
    let there = slice_get-get_or (v ∷ vs) i v p.0 in cc

-- where no place was found
pub filled_not_found : (vs : List VersionRow) (id : List ℕ) (value : Value)
    → position (λ w. same_text w.id id) vs ≡ None → vs ≡ filled vs id value
filled_not_found vs id value none =
    let past : length vs ≤ position_or_len (λ w. same_text w.id id) vs = grind (arith, nat_tests) in
    sym (filled_past vs id value past)

held_repeats : (row : SecretRow) (token : List ℕ) (value : Value) (labels : List (List ℕ)) (kept : Option Value)
    → is_value kept value ≡ true → put_held row token value labels kept ≡ Same (labels_on row.labels token)
held_repeats row token value labels None h = absurd (false≢true h)
held_repeats row token value labels (Some kept) h = rw h

-- a put of exactly the value that the version has is a repeat, and answers the labels
pub put_repeats : (row : SecretRow) (token : List ℕ) (value : Value) (labels : List (List ℕ)) (when : When)
    → same row token value ≡ true → put_answer row token value labels when ≡ Same (labels_on row.labels token)
put_repeats row token value labels when h = by (version_of row.versions token) (sym (value_of_is row.versions token))
  where
    by : (found : Option VersionRow) → option_and_then (λ v. v.value) found ≡ value_of row.versions token
        → put_answer_on row token value labels when found ≡ Same (labels_on row.labels token)
    by None e = absurd (false≢true (ap (λ o. is_value o value) e ∙ h))
    by (Some v) e = held_repeats row token value labels v.value (ap (λ o. is_value o value) e ∙ h)
