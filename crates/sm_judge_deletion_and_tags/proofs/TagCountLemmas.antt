-- How many tags there are: of tags that are given, each key once, none is lost.
use Rattle.std.proofs.Common.{◌≡◌, ◌≢◌, inl, inr, ℕ, suc, ◌+◌, ◌≤◌, Bool, true, false, not, ◌&&◌, ◌||◌, cond, List, [], ◌∷◌, length, refl, sym, ap, ◌∙◌, arith}
use Rattle.std.proofs.lemmas.Bool.{and_parts, and_from, or_right, false≢true}
use Rattle.sm_model.specs.declared.value.Tag.{Tag}
use Rattle.sm_versions.specs.Labels.{others}
use Rattle.sm_versions.specs.Texts.{is_among, once}
use Rattle.sm_base.specs.Texts.{same_text}
use Rattle.sm_versions.specs.Sound.{tag_keys}
use Rattle.sm_versions.proofs.TextLemmas.{same_text_decides, same_text_itself, same_text_tells}
use Rattle.sm_judge_deletion_and_tags.specs.TagResource.{with_tag, with_tags}
use Rattle.sm_judge_deletion_and_tags.proofs.TagLemmas.{Tells, with_tag_among, not_same}

-- each of some texts is among the others
abbrev each_among : List (List ℕ) → List (List ℕ) → Bool
each_among texts [] = true
each_among texts (k ∷ ks) = is_among texts k && each_among texts ks

others_fewer : (ts : List (List ℕ)) (k : List ℕ) → length (others ts k) ≤ length ts
others_fewer [] k = omega arith
others_fewer (t ∷ ts) k = by (same_text t k) (others_fewer ts k)
  where
    by : (b : Bool) → length (others ts k) ≤ length ts
        → length (cond b (others ts k) (t ∷ others ts k)) ≤ length (t ∷ ts)
    by true h = omega arith
    by false h = omega arith

others_shorter : (ts : List (List ℕ)) (k : List ℕ) → is_among ts k ≡ true → length (others ts k) + 1 ≤ length ts
others_shorter [] k h = absurd (false≢true h)
others_shorter (t ∷ ts) k h = by (same_text t k) h (others_shorter ts k)
  where
    by : (b : Bool) → (b || is_among ts k) ≡ true → (is_among ts k ≡ true → length (others ts k) + 1 ≤ length ts)
        → length (cond b (others ts k) (t ∷ others ts k)) + 1 ≤ length (t ∷ ts)
    by true g more = omega (arith, others_fewer ts k)
    by false g more = let rest = more g in omega arith

-- another text is still among them
others_among : (ts : List (List ℕ)) (k key : List ℕ) → k ≢ key → is_among ts key ≡ true
    → is_among (others ts k) key ≡ true
others_among [] k key differ h = absurd (false≢true h)
others_among (t ∷ ts) k key differ h = by (same_text_tells t k) (others_among ts k key differ) h
  where
    here : (b c d : Bool) → (c ≡ true → d ≡ true) → (b || c) ≡ true → (b || d) ≡ true
    here true c d f g = refl
    here false c d f g = f g

    by : Tells t k
        → (is_among ts key ≡ true → is_among (others ts k) key ≡ true)
        → (same_text t key || is_among ts key) ≡ true
        → is_among (others (t ∷ ts) k) key ≡ true
    by (inl same) more g =
        rw same.0 (more (ap (λ b. b || is_among ts key) (sym (ap (λ u. same_text u key) same.1
        ∙ not_same key k (λ e. differ (sym e)))) ∙ g))
    by (inr other) more g = rw other.0 (here (same_text t key) (is_among ts key) (is_among (others ts k) key) more g)

neither_is : (a b : Bool) → not (a || b) ≡ true → (a ≡ false) × (not b ≡ true)
neither_is true b h = absurd (false≢true h)
neither_is false b h = (refl, h)

other_text : (x k : List ℕ) → same_text x k ≡ false → k ≢ x
other_text x k h = λ e. false≢true (sym h ∙ (same_text_decides x k).1 (sym e))

each_others : (ts ks : List (List ℕ)) (k : List ℕ) → not (is_among ks k) ≡ true → each_among ts ks ≡ true
    → each_among (others ts k) ks ≡ true
each_others ts [] k h each = refl
each_others ts (x ∷ ks) k h each =
    let parts = neither_is (same_text x k) (is_among ks k) h in
    let among = and_parts (is_among ts x) (each_among ts ks) each in
    and_from _ _ (others_among ts k x (other_text x k parts.0) among.0) (each_others ts ks k parts.1 among.1)

-- texts of which none stands twice, each among others, are no more than those
no_more : (ks ts : List (List ℕ)) → once ks ≡ true → each_among ts ks ≡ true → length ks ≤ length ts
no_more [] ts h each = omega arith
no_more (k ∷ ks) ts h each =
    let parts = and_parts (not (is_among ks k)) (once ks) h in
    let among = and_parts (is_among ts k) (each_among ts ks) each in
    let rest = no_more ks (others ts k) parts.1 (each_others ts ks k parts.0 among.1) in
    let shorter = others_shorter ts k among.0 in omega arith

each_from : (ts ks : List (List ℕ)) → ((key : List ℕ) → is_among ks key ≡ true → is_among ts key ≡ true)
    → each_among ts ks ≡ true
each_from ts [] f = refl
each_from ts (k ∷ ks) f =
    and_from _ _ (f k (ap (λ b. b || is_among ks k) (same_text_itself k)))
    (each_from ts ks (λ key h. f key (or_right (same_text k key) (is_among ks key) h)))

or_none : (a : Bool) → a ≡ (a || false)
or_none true = refl
or_none false = refl

or_grouped : (a b c : Bool) → ((a || b) || c) ≡ (a || (b || c))
or_grouped true b c = refl
or_grouped false b c = refl

with_tags_among : (kept tags : List Tag) (key : List ℕ)
    → is_among (tag_keys (with_tags kept tags)) key ≡ (is_among (tag_keys kept) key || is_among (tag_keys tags) key)
with_tags_among kept [] key = or_none (is_among (tag_keys kept) key)
with_tags_among kept (tag ∷ tags) key =
    with_tags_among (with_tag kept tag) tags key
    ∙ ap (λ b. b || is_among (tag_keys tags) key) (with_tag_among kept tag key)
    ∙ or_grouped (is_among (tag_keys kept) key) (same_text tag.key key) (is_among (tag_keys tags) key)

keys_length : (tags : List Tag) → length (tag_keys tags) ≡ length tags
keys_length [] = refl
keys_length (tag ∷ tags) = ap (λ n. suc n) (keys_length tags)

-- tags that are given, each key once, are no more than the tags with them
pub given_no_more : (kept tags : List Tag) → once (tag_keys tags) ≡ true → length tags ≤ length (with_tags kept tags)
given_no_more kept tags h =
    let all = with_tags kept tags in
    let few = no_more (tag_keys tags) (tag_keys all) h (each_from (tag_keys all) (tag_keys tags)
    (λ key g. with_tags_among kept tags key ∙ or_right (is_among (tag_keys kept) key) (is_among (tag_keys tags) key) g))
    in omega (arith, few, keys_length tags, keys_length all)
