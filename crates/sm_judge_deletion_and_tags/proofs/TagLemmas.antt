-- Lists of tags: a tag more, and tags fewer.
use Rattle.std.proofs.Common.{◌≡◌, ◌≢◌, ◌⊎◌, inl, inr, ℕ, zero, suc, ◌+◌, ◌<◌, ◌≤◌, Bool, true, false, not, ◌&&◌, ◌||◌, cond, List, [], ◌∷◌, ◌++◌, length, take, get_or, set, Some, None, refl, sym, ap, ◌∙◌, arith}
use Rattle.std.specs.List.{filter, position, position_or_len}
use Rattle.std.proofs.lemmas.Bool.{and_parts, and_from, false≢true}
use Rattle.std.proofs.lemmas.Bool.Decides.{nat_tests}
use Rattle.std.proofs.lemmas.List.{take_more}
use Rattle.std.proofs.lemmas.List.Quantifiers.{position-Some}
use Rattle.sm_model.specs.declared.value.Tag.{Tag}
use Rattle.sm_model.specs.Bounds.{is_tag}
use Rattle.sm_versions.specs.Texts.{is_among, once}
use Rattle.sm_base.specs.Texts.{same_text}
use Rattle.sm_versions.specs.Sound.{tag_keys, each_tag}
use Rattle.sm_versions.proofs.TextLemmas.{same_text_tells}
use Rattle.sm_judge_deletion_and_tags.specs.TagResource.{with_tag, with_tags}
use Rattle.sm_judge_deletion_and_tags.specs.UntagResource.{without_tags}
use Rattle.sm_judge_deletion_and_tags.proofs.RevisedLemmas.{AreTags}

-- what the test of two texts tells
abbrev pub Tells : List ℕ → List ℕ → Type 0
Tells a b = ((same_text a b ≡ true) × (a ≡ b)) ⊎ ((same_text a b ≡ false) × (a ≢ b))

-- ---- a tag more: as the loop makes it

-- the tag at the place of its key
with_tag_at : (ts : List Tag) (i : ℕ) (d tag : Tag) → i < length ts
    → ((k : ℕ) → k < i → same_text (get_or ts k d).key tag.key ≡ false) → same_text (get_or ts i d).key tag.key ≡ true
    → with_tag ts tag ≡ set ts i (record (get_or ts i d) { value = tag.value })
with_tag_at [] i d tag h before here = absurd (omega arith)
with_tag_at (t ∷ ts) zero d tag h before here = rw here
with_tag_at (t ∷ ts) (suc i) d tag h before here =
    rw (before 0 (omega arith))
    (ap (λ us. t ∷ us) (with_tag_at ts i d tag (omega arith) (λ k g. before (suc k) (omega arith)) here))

with_tag_past : (ts : List Tag) (tag : Tag) → length ts ≤ position_or_len (λ t. same_text t.key tag.key) ts
    → with_tag ts tag ≡ ts ++ tag ∷ []
with_tag_past [] tag h = refl
with_tag_past (t ∷ ts) tag h = by (same_text t.key tag.key) (with_tag_past ts tag) h
  where
    by : (b : Bool) → (length ts ≤ position_or_len (λ u. same_text u.key tag.key) ts → with_tag ts tag ≡ ts ++ tag ∷ [])
        → length (t ∷ ts) ≤ cond (not b) (1 + position_or_len (λ u. same_text u.key tag.key) ts) 0
        → cond b (record t { value = tag.value } ∷ ts) (t ∷ with_tag ts tag) ≡ (t ∷ ts) ++ tag ∷ []
    by true rest g = absurd (omega arith)
    by false rest g = ap (λ us. t ∷ us) (rest (omega arith))

-- at the place that was found
pub with_tag_found : (ts : List Tag) (i : ℕ) (t tag : Tag) → position (λ u. same_text u.key tag.key) ts ≡ Some i
    → t ≡ get_or ts i t → set ts i (record t { value = tag.value }) ≡ with_tag ts tag
with_tag_found ts i t tag found e =
    let p = position-Some (λ u. same_text u.key tag.key) ts i t found in
    ap (λ u. set ts i (record u { value = tag.value })) e ∙ sym (with_tag_at ts i t tag p.0 p.2 p.1)

-- where no place was found
pub with_tag_not_found : (ts : List Tag) (tag : Tag) → position (λ u. same_text u.key tag.key) ts ≡ None
    → ts ++ tag ∷ [] ≡ with_tag ts tag
with_tag_not_found ts tag none =
    let past : length ts ≤ position_or_len (λ u. same_text u.key tag.key) ts = grind (arith, nat_tests) in
    sym (with_tag_past ts tag past)

with_tags-append : (kept us vs : List Tag) → with_tags kept (us ++ vs) ≡ with_tags (with_tags kept us) vs
with_tags-append kept [] vs = refl
with_tags-append kept (u ∷ us) vs = with_tags-append (with_tag kept u) us vs

-- one tag more, as at a step of the loop
pub with_tags_more : (kept tags : List Tag) (i : ℕ) (tag : Tag) → i < length tags → tag ≡ get_or tags i tag
    → with_tags kept (take (i + 1) tags) ≡ with_tag (with_tags kept (take i tags)) tag
with_tags_more kept tags i tag h e =
    let t : take (i + 1) tags ≡ take i tags ++ tag ∷ [] = grind (arith, take_more tags i tag h) in
    rw t (with_tags-append kept (take i tags) (tag ∷ []))

-- ---- a tag more: what it keeps

with_tag_each : (ts : List Tag) (tag : Tag) → each_tag ts ≡ true → is_tag tag ≡ true → each_tag (with_tag ts tag) ≡ true
with_tag_each [] tag each new = and_from _ _ new refl
with_tag_each (t ∷ ts) tag each new =
    let parts = and_parts (is_tag t) (each_tag ts) each in
    by (same_text_tells t.key tag.key) parts.0 parts.1 (with_tag_each ts tag parts.1 new)
  where
    by : Tells t.key tag.key
        → is_tag t ≡ true → each_tag ts ≡ true → each_tag (with_tag ts tag) ≡ true
        → each_tag (with_tag (t ∷ ts) tag) ≡ true
    by (inl same) here later more =
        let valued : is_tag (record t { value = tag.value }) ≡ true = rw same.1 new in
        rw same.0 (and_from (is_tag (record t { value = tag.value })) (each_tag ts) valued later)
    by (inr other) here later more = rw other.0 (and_from _ _ here more)

-- a key more
or_last : (a : Bool) → (a || false) ≡ (false || a)
or_last true = refl
or_last false = refl

or_again : (a b : Bool) → (a || b) ≡ ((a || b) || a)
or_again true b = refl
or_again false b = sym (or_last b)

or_behind : (a b c d : Bool) → b ≡ (c || d) → (a || b) ≡ ((a || c) || d)
or_behind true b c d e = refl
or_behind false b c d e = e

-- the keys are those that were there, and the new one
pub with_tag_among : (ts : List Tag) (tag : Tag) (key : List ℕ)
    → is_among (tag_keys (with_tag ts tag)) key ≡ (is_among (tag_keys ts) key || same_text tag.key key)
with_tag_among [] tag key = or_last (same_text tag.key key)
with_tag_among (t ∷ ts) tag key = by (same_text_tells t.key tag.key) (with_tag_among ts tag key)
  where
    by : Tells t.key tag.key
        → is_among (tag_keys (with_tag ts tag)) key ≡ (is_among (tag_keys ts) key || same_text tag.key key)
        → is_among (tag_keys (with_tag (t ∷ ts) tag)) key
        ≡ ((same_text t.key key || is_among (tag_keys ts) key) || same_text tag.key key)
    by (inl same) more =
        rw same.0
        (or_again (same_text t.key key) (is_among (tag_keys ts) key)
        ∙ ap (λ k. (same_text t.key key || is_among (tag_keys ts) key) || same_text k key) same.1)
    by (inr other) more =
        rw other.0 (or_behind (same_text t.key key) (is_among (tag_keys (with_tag ts tag)) key)
        (is_among (tag_keys ts) key) (same_text tag.key key) more)

-- another text is not the same
pub not_same : (a b : List ℕ) → a ≢ b → same_text b a ≡ false
not_same a b differ = by (same_text_tells b a)
  where
    by : Tells b a → same_text b a ≡ false
    by (inl same) = absurd (differ (sym same.1))
    by (inr other) = other.0

behind_others : (there new : Bool) (rest more : Bool) → (not there && rest) ≡ true → new ≡ false → more ≡ true
    → (not (there || new) && more) ≡ true
behind_others true new rest more h e m = absurd (false≢true h)
behind_others false new rest more h e m = rw (e, m) refl

pub with_tag_once : (ts : List Tag) (tag : Tag) → once (tag_keys ts) ≡ true → once (tag_keys (with_tag ts tag)) ≡ true
with_tag_once [] tag h = refl
with_tag_once (t ∷ ts) tag h =
    by (same_text_tells t.key tag.key)
    (with_tag_once ts tag (and_parts (not (is_among (tag_keys ts) t.key)) (once (tag_keys ts)) h).1)
  where
    by : Tells t.key tag.key
        → once (tag_keys (with_tag ts tag)) ≡ true → once (tag_keys (with_tag (t ∷ ts) tag)) ≡ true
    by (inl same) more = rw same.0 h
    by (inr other) more =
        rw (other.0, with_tag_among ts tag t.key)
        (behind_others (is_among (tag_keys ts) t.key) (same_text tag.key t.key) (once (tag_keys ts))
        (once (tag_keys (with_tag ts tag))) h (not_same t.key tag.key other.1) more)

-- tags that are given keep what is asked of each tag and of the keys
pub with_tags_each : (kept tags : List Tag) → each_tag kept ≡ true → each_tag tags ≡ true
    → each_tag (with_tags kept tags) ≡ true
with_tags_each kept [] each new = each
with_tags_each kept (tag ∷ tags) each new =
    let parts = and_parts (is_tag tag) (each_tag tags) new in
    with_tags_each (with_tag kept tag) tags (with_tag_each kept tag each parts.0) parts.1

pub with_tags_once : (kept tags : List Tag) → once (tag_keys kept) ≡ true
    → once (tag_keys (with_tags kept tags)) ≡ true
with_tags_once kept [] h = h
with_tags_once kept (tag ∷ tags) h = with_tags_once (with_tag kept tag) tags (with_tag_once kept tag h)

-- ---- tags fewer

pub without_tags_is_filter : (tags : List Tag) (keys : List (List ℕ))
    → filter (λ t. not (is_among keys t.key)) tags ≡ without_tags tags keys
without_tags_is_filter [] keys = refl
without_tags_is_filter (t ∷ ts) keys = by (is_among keys t.key) (without_tags_is_filter ts keys)
  where
    by : (b : Bool) → filter (λ u. not (is_among keys u.key)) ts ≡ without_tags ts keys
        → cond (not b) (t ∷ filter (λ u. not (is_among keys u.key)) ts) (filter (λ u. not (is_among keys u.key)) ts)
        ≡ cond b (without_tags ts keys) (t ∷ without_tags ts keys)
    by true e = e
    by false e = ap (λ us. t ∷ us) e

without_fewer : (tags : List Tag) (keys : List (List ℕ)) → length (without_tags tags keys) ≤ length tags
without_fewer [] keys = omega arith
without_fewer (t ∷ ts) keys = by (is_among keys t.key) (without_fewer ts keys)
  where
    by : (b : Bool) → length (without_tags ts keys) ≤ length ts
        → length (cond b (without_tags ts keys) (t ∷ without_tags ts keys)) ≤ length (t ∷ ts)
    by true h = omega arith
    by false h = omega arith

without_each : (tags : List Tag) (keys : List (List ℕ)) → each_tag tags ≡ true
    → each_tag (without_tags tags keys) ≡ true
without_each [] keys each = refl
without_each (t ∷ ts) keys each =
    let parts = and_parts (is_tag t) (each_tag ts) each in
    by (is_among keys t.key) parts.0 (without_each ts keys parts.1)
  where
    by : (b : Bool) → is_tag t ≡ true → each_tag (without_tags ts keys) ≡ true
        → each_tag (cond b (without_tags ts keys) (t ∷ without_tags ts keys)) ≡ true
    by true here rest = rest
    by false here rest = and_from _ _ here rest

neither : (a b : Bool) → not (a || b) ≡ true → (a ≡ false) × (not b ≡ true)
neither true b h = absurd (false≢true h)
neither false b h = (refl, h)

-- a key that was not there is not there either
without_among : (tags : List Tag) (keys : List (List ℕ)) (key : List ℕ) → not (is_among (tag_keys tags) key) ≡ true
    → not (is_among (tag_keys (without_tags tags keys)) key) ≡ true
without_among [] keys key h = refl
without_among (t ∷ ts) keys key h =
    let parts = neither (same_text t.key key) (is_among (tag_keys ts) key) h in
    by (is_among keys t.key) parts.0 (without_among ts keys key parts.1)
  where
    by : (b : Bool) → same_text t.key key ≡ false
        → not (is_among (tag_keys (without_tags ts keys)) key) ≡ true
        → not (is_among (tag_keys (cond b (without_tags ts keys) (t ∷ without_tags ts keys))) key) ≡ true
    by true other rest = rest
    by false other rest = rw other rest

without_once : (tags : List Tag) (keys : List (List ℕ)) → once (tag_keys tags) ≡ true
    → once (tag_keys (without_tags tags keys)) ≡ true
without_once [] keys h = refl
without_once (t ∷ ts) keys h =
    let parts = and_parts (not (is_among (tag_keys ts) t.key)) (once (tag_keys ts)) h in
    by (is_among keys t.key) (without_among ts keys t.key parts.0) (without_once ts keys parts.1)
  where
    by : (b : Bool) → not (is_among (tag_keys (without_tags ts keys)) t.key) ≡ true
        → once (tag_keys (without_tags ts keys)) ≡ true
        → once (tag_keys (cond b (without_tags ts keys) (t ∷ without_tags ts keys))) ≡ true
    by true here rest = rest
    by false here rest = and_from _ _ here rest

-- the tags that are left are as they have to be
pub without_are : (tags : List Tag) (keys : List (List ℕ)) → AreTags tags → AreTags (without_tags tags keys)
without_are tags keys are = record {
  count = omega (arith, without_fewer tags keys, are.count);
  each = without_each tags keys are.each;
  once = without_once tags keys are.once;
}
