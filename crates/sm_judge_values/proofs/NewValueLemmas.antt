-- A new value for a secret: what is drawn for it, when it is refused, when it is a repeat, and what it changes.
use Rattle.std.proofs.Common.{◌≡◌, ℕ, ◌≤◌, Bool, true, false, not, ◌||◌, ◌&&◌, cond, List, [], ◌∷◌, Option, Some, None, is_some, is_none, IfNone, IfSome, IsTrue, refl, sym, ap, subst, ◌∙◌}
use Rattle.std.specs.Option.{option_and_then}
use Rattle.sm_model.specs.Versions.{When, is_full_when}
use Rattle.sm_model.specs.declared.entry.Change.{Change}
use Rattle.sm_base.specs.declared.limits.TheConstants.{VERSIONS_LIMIT, LABELS_LIMIT}
use Rattle.sm_model.specs.declared.rows.SecretRow.{SecretRow}
use Rattle.sm_model.specs.declared.rows.VersionRow.{VersionRow}
use Rattle.sm_model.specs.declared.value.Value.{Value}
use Rattle.sm_model.specs.declared.why.Why.{Why}
use Rattle.sm_model.specs.declared.why.Why.TheVariants.{OtherValue, Limit}
use Rattle.sm_model.specs.declared.why.What.TheVariants.{Versions, Labels}
use Rattle.sm_model.specs.Bounds.{is_small}
use Rattle.sm_model.specs.Needed.{token_bytes_if}
use Rattle.sm_forms.specs.Members.{is_value as is_value_form}
use Rattle.sm_versions.specs.declared.values.PutDone.{PutDone}
use Rattle.sm_versions.specs.declared.values.PutDone.TheVariants as puts
use Rattle.sm_versions.specs.Labels.{place_all}
use Rattle.sm_versions.specs.Versions.{version_of, same_value, is_value, same}
use Rattle.sm_versions.specs.Put.{has_too_many, put_held, put_answer_on, put_answer, put_row}
use Rattle.sm_versions.proofs.VersionLemmas.{value_of_is}
use Rattle.sm_judge_common.specs.declared.judged.Judged.{Judged}
use Rattle.sm_judge_common.specs.Judged.{refusal_told, IfAccepted, IfChange}
use Rattle.sm_judge_common.specs.Members.{value_of}
use Rattle.sm_judge_common.specs.Refusals.{refuse_if, first_refusal}
use Rattle.sm_judge_values.specs.declared.new_value.NewValue.{NewValue}
use Rattle.sm_judge_values.specs.declared.new_value.Placed.{Placed}
use Rattle.sm_judge_values.specs.declared.new_value.Placed.TheVariants.{Added, Repeat, Refused}
use Rattle.sm_judge_values.specs.NewValue.{under_token, placed_by, placed, judged_by, is_other, has_other_value, value_refusal}

-- ---- the members

-- a value is the text or the bytes
given : (text binary : Option (List ℕ)) (value : Value) → Some value ≡ value_of text binary
    → (is_some text || is_some binary) ≡ true
given (Some text) binary value h = refl
given None (Some bytes) value h = refl
given None None value h = absurd (cc)

-- where a value has no token, there are 16 bytes for one
pub room_for_token : (token text binary : Option (List ℕ)) (value : Value) (n : ℕ) → Some value ≡ value_of text binary
    → token_bytes_if (is_some text || is_some binary) token ≤ n → IfNone token (16 ≤ n)
room_for_token token text binary value n valued room =
    by token (subst (λ b. token_bytes_if b token ≤ n) (given text binary value valued) room)
  where
    by : (t : Option (List ℕ)) → token_bytes_if true t ≤ n → IfNone t (16 ≤ n)
    by None h = h
    by (Some t) h = tt

-- a value whose member passes its form is not too large
pub value_small : (text binary : Option (List ℕ)) → IfSome text (λ t. IsTrue (is_value_form t))
    → IfSome binary (λ bytes. IsTrue (is_value_form bytes)) → IfSome (value_of text binary) (λ v. IsTrue (is_small v))
value_small (Some text) binary t b = t
value_small None (Some bytes) t b = b
value_small None None t b = tt

pub new_small : (token : List ℕ) (value : Option Value) → IfSome value (λ v. IsTrue (is_small v))
    → IfSome (under_token token value) (λ new. IsTrue (is_small new.value))
new_small token None small = tt
new_small token (Some value) small = small

-- ---- refusals

-- the refusal, where putting a value comes to one
abbrev pub refused_in : Placed → Option Why
refused_in (Added after) = None
refused_in Repeat = None
refused_in (Refused why) = Some why

new_refuses : (full many : Bool) (after : SecretRow) (token : List ℕ)
    → refused_in (placed_by (cond full (puts.TooMany VERSIONS_LIMIT)
    (cond many (puts.TooManyLabels LABELS_LIMIT) puts.Added)) after token)
    ≡ first_refusal
    (refuse_if false (OtherValue token) ∷ refuse_if full (Limit VERSIONS_LIMIT Versions)
    ∷ refuse_if many (Limit LABELS_LIMIT Labels) ∷ [])
new_refuses true many after token = refl
new_refuses false true after token = refl
new_refuses false false after token = refl

held_refuses : (same many : Bool) (after : SecretRow) (token : List ℕ) (shown : List (List ℕ))
    → refused_in (placed_by (cond same (puts.Same shown) puts.Exists) after token)
    ≡ first_refusal
    (refuse_if (not same) (OtherValue token) ∷ refuse_if false (Limit VERSIONS_LIMIT Versions)
    ∷ refuse_if (not same && many) (Limit LABELS_LIMIT Labels) ∷ [])
held_refuses true many after token shown = refl
held_refuses false many after token shown = refl

-- the tests on a row by the version of the token, and by its value
by_version : (row after : SecretRow) (new : NewValue) (labels : List (List ℕ)) (when : When)
    (version : Option VersionRow)
    → refused_in (placed_by (put_answer_on row new.token new.value labels when version) after new.token)
    ≡ first_refusal
    (refuse_if (has_other_value version new.value) (OtherValue new.token)
    ∷ refuse_if (is_none version && is_full_when row when) (Limit VERSIONS_LIMIT Versions)
    ∷ refuse_if (not (is_value (option_and_then (λ v. v.value) version) new.value)
    && has_too_many (place_all row.labels labels new.token))
    (Limit LABELS_LIMIT Labels)
    ∷ [])
by_version row after new labels when None =
    new_refuses (is_full_when row when) (has_too_many (place_all row.labels labels new.token)) after new.token
by_version row after new labels when (Some version) = by_value version.value
  where
    by_value : (kept : Option Value)
        → refused_in (placed_by (put_held row new.token new.value labels kept) after new.token)
        ≡ first_refusal
        (refuse_if (is_other kept new.value) (OtherValue new.token)
        ∷ refuse_if false (Limit VERSIONS_LIMIT Versions)
        ∷ refuse_if (not (is_value kept new.value) && has_too_many (place_all row.labels labels new.token))
        (Limit LABELS_LIMIT Labels)
        ∷ [])
    by_value None = new_refuses false (has_too_many (place_all row.labels labels new.token)) after new.token
    by_value (Some kept) =
        held_refuses (same_value kept new.value) (has_too_many (place_all row.labels labels new.token)) after new.token
        _

pub value_refuses : (row : SecretRow) (new : NewValue) (labels : List (List ℕ)) (when : When)
    → refused_in (placed row new labels when) ≡ value_refusal row new labels when
value_refuses row new labels when =
    by_version row (put_row row new.token new.value labels when.moment) new labels when
    (version_of row.versions new.token)
    ∙ ap (λ (kept : Option Value). first_refusal
    (refuse_if (has_other_value (version_of row.versions new.token) new.value) (OtherValue new.token)
    ∷ refuse_if (is_none (version_of row.versions new.token) && is_full_when row when) (Limit VERSIONS_LIMIT Versions)
    ∷ refuse_if (not (is_value kept new.value) && has_too_many (place_all row.labels labels new.token))
    (Limit LABELS_LIMIT Labels)
    ∷ []))
    (sym (value_of_is row.versions new.token))

-- a judgement is refused as putting the value is
pub judged_refuses : (done : Placed) (accept : SecretRow → Judged) (repeat : Judged)
    → ((after : SecretRow) → refusal_told (accept after) ≡ Some None) → refusal_told repeat ≡ Some None
    → refusal_told (judged_by done accept repeat) ≡ Some (refused_in done)
judged_refuses (Added after) accept repeat accepts repeats = accepts after
judged_refuses Repeat accept repeat accepts repeats = repeats
judged_refuses (Refused why) accept repeat accepts repeats = refl

-- ---- repeats

-- a fact of whether it is a repeat, where it is not refused
abbrev pub IfPlaced : Placed → (Bool → Type 0) → Type 0
IfPlaced (Added after) P = P false
IfPlaced Repeat P = P true
IfPlaced (Refused why) P = Unit {0}

new_repeats : (full many : Bool) (after : SecretRow) (token : List ℕ)
    → IfPlaced (placed_by (cond full (puts.TooMany VERSIONS_LIMIT)
    (cond many (puts.TooManyLabels LABELS_LIMIT) puts.Added)) after token)
    (λ repeats. repeats ≡ false)
new_repeats true many after token = tt
new_repeats false true after token = tt
new_repeats false false after token = refl

held_repeats : (same : Bool) (after : SecretRow) (token : List ℕ) (shown : List (List ℕ))
    → IfPlaced (placed_by (cond same (puts.Same shown) puts.Exists) after token) (λ repeats. repeats ≡ same)
held_repeats true after token shown = refl
held_repeats false after token shown = tt

repeats_by : (row after : SecretRow) (new : NewValue) (labels : List (List ℕ)) (when : When)
    (version : Option VersionRow)
    → IfPlaced (placed_by (put_answer_on row new.token new.value labels when version) after new.token)
    (λ repeats. repeats ≡ is_value (option_and_then (λ v. v.value) version) new.value)
repeats_by row after new labels when None =
    new_repeats (is_full_when row when) (has_too_many (place_all row.labels labels new.token)) after new.token
repeats_by row after new labels when (Some version) = by_value version.value
  where
    by_value : (kept : Option Value)
        → IfPlaced (placed_by (put_held row new.token new.value labels kept) after new.token)
        (λ repeats. repeats ≡ is_value kept new.value)
    by_value None = new_repeats false (has_too_many (place_all row.labels labels new.token)) after new.token
    by_value (Some kept) = held_repeats (same_value kept new.value) after new.token _

pub value_repeats : (row : SecretRow) (new : NewValue) (labels : List (List ℕ)) (when : When)
    → IfPlaced (placed row new labels when) (λ repeats. repeats ≡ same row new.token new.value)
value_repeats row new labels when =
    subst (λ (kept : Option Value). IfPlaced (placed row new labels when)
    (λ repeats. repeats ≡ is_value kept new.value))
    (sym (value_of_is row.versions new.token))
    (repeats_by row (put_row row new.token new.value labels when.moment) new labels when
    (version_of row.versions new.token))

-- nothing is changed exactly where putting the value is a repeat
pub judged_repeats : (done : Placed) (accept : SecretRow → Judged) (repeat : Judged) (wanted : Bool)
    → ((after : SecretRow) → IfAccepted (accept after) (λ change. is_none change ≡ false))
    → IfAccepted repeat (λ change. is_none change ≡ true) → IfPlaced done (λ repeats. repeats ≡ wanted)
    → IfAccepted (judged_by done accept repeat) (λ change. is_none change ≡ wanted)
judged_repeats (Added after) accept repeat wanted accepts repeats e =
    subst (λ b. IfAccepted (accept after) (λ change. is_none change ≡ b)) e (accepts after)
judged_repeats Repeat accept repeat wanted accepts repeats e =
    subst (λ b. IfAccepted repeat (λ change. is_none change ≡ b)) e repeats
judged_repeats (Refused why) accept repeat wanted accepts repeats e = tt

-- ---- the change

by_done : (done : PutDone) (row after : SecretRow) (token : List ℕ) (accept : SecretRow → Judged) (repeat : Judged)
    (P : Change → Type 0) → (done ≡ puts.Added → IfChange (accept after) P) → IfChange repeat P
    → IfChange (judged_by (placed_by done after token) accept repeat) P
by_done puts.Added row after token accept repeat P accepts repeats = accepts refl
by_done (puts.Same labels) row after token accept repeat P accepts repeats = repeats
by_done puts.Exists row after token accept repeat P accepts repeats = tt
by_done (puts.TooMany limit) row after token accept repeat P accepts repeats = tt
by_done (puts.TooManyLabels limit) row after token accept repeat P accepts repeats = tt
by_done puts.Memory row after token accept repeat P accepts repeats = tt

-- a change is of the row with the value
pub judged_change : (row : SecretRow) (new : NewValue) (labels : List (List ℕ)) (when : When)
    (accept : SecretRow → Judged) (repeat : Judged) (P : Change → Type 0)
    → (put_answer row new.token new.value labels when ≡ puts.Added
    → IfChange (accept (put_row row new.token new.value labels when.moment)) P)
    → IfChange repeat P → IfChange (judged_by (placed row new labels when) accept repeat) P
judged_change row new labels when accept repeat P accepts repeats =
    by_done (put_answer row new.token new.value labels when) row
    (put_row row new.token new.value labels when.moment) new.token
    accept repeat P accepts repeats
