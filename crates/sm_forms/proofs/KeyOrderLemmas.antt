-- Keys in order: no key stands twice exactly where each one comes before the next.
use Rattle.std.proofs.Common.{◌≡◌, ℕ, zero, suc, ◌+◌, ◌<◌, ◌≤◌, ◌==◌, Bool, true, false, not, ◌&&◌, ◌||◌, List, [], ◌∷◌, length, map, get_or, Ordering, Less, Equal, Greater, refl, ap, sym, ◌∙◌, arith}
use Rattle.std.specs.Prelude.{slice_index, MatchBool}
use Rattle.std.specs.Cmp.Lexicographic.{pointwise, slice_cmp, lists_ties, lists_total}
use Rattle.std.specs.Cmp.{unsigned_ties, nat_cmp_total, IsTotalOrder, IsStrictWeakOrder}
use Rattle.std.specs.List.{list_any, IsDistinct, AllByRecursion, AllAdjacentBelow, IsAllAdjacentAnswer}
use Rattle.std.specs.List.Sorted.{IsPermutation, IsSortedBy, IsStrictlySortedBy}
use Rattle.std.specs.Ordering.{nat_cmp, is_lt, is_eq, eq_by_cmp, ordering_reverse}
use Rattle.std.proofs.lemmas.List.Sorted.{ranks_by, IsPermutation-map, IsPermutation-sym}
use Rattle.std.proofs.lemmas.List.{same_lists, get_or-map, get_or_default, length-map}
use Rattle.std.proofs.lemmas.Map.Keys.{sorted_from_all_adjacent, IsDistinct-from_sorted, IsDistinct-IsPermutation, IsDistinct-head, IsDistinct-tail, IsDistinct-cons, apart_from_distinct}
use Rattle.sm_base.specs.Texts.{same_text}
use Rattle.sm_model.specs.declared.value.Tag.{Tag}
use Rattle.sm_versions.specs.Sound.{tag_keys}
use Rattle.sm_versions.specs.Texts.{is_among, once}
use Rattle.sm_forms.specs.KeyOrder.{key_of, by_bytes, comes_before}

pub key_here : (tags : List Tag) (place : ℕ) (tag : Tag) → place < length tags → tag ≡ get_or tags place tag
    → tag.key ≡ key_of tags place
key_here [] place tag under is = absurd (omega arith)
key_here (t ∷ tags) zero tag under is = ap (λ x. x.key) is
key_here (t ∷ tags) (suc place) tag under is = key_here tags place tag (omega arith) is

pub key_past : (tags : List Tag) (place : ℕ) → length tags ≤ place → [] ≡ key_of tags place
key_past [] place past = refl
key_past (t ∷ tags) zero past = absurd (omega arith)
key_past (t ∷ tags) (suc place) past = key_past tags place (omega arith)

pub is_order : (tags : List Tag) → IsStrictWeakOrder (comes_before tags)
is_order tags = ranks_by (lists_total nat_cmp_total) (key_of tags)

-- a text is another's exactly where neither comes before the other
same_tied : (one other : List ℕ) → same_text one other ≡ eq_by_cmp by_bytes one other
unfolding same_text
same_tied one other = lists_ties nat_cmp unsigned_ties one other

tied_alike : (one other : List ℕ) → eq_by_cmp by_bytes one other ≡ eq_by_cmp by_bytes other one
tied_alike one other = ap is_eq ((lists_total nat_cmp_total).antisymm one other) ∙ reversed (by_bytes other one)
  where
    reversed : (o : Ordering) → is_eq (ordering_reverse o) ≡ is_eq o
    reversed Less = refl
    reversed Equal = refl
    reversed Greater = refl

abbrev AllDiffer : List (List ℕ) → Type 0
AllDiffer = IsDistinct (eq_by_cmp by_bytes)

not_among : (text : List ℕ) (texts : List (List ℕ)) → AllByRecursion (λ t. eq_by_cmp by_bytes text t ≡ false) texts
    → is_among texts text ≡ false
not_among text [] differ = refl
not_among text (t ∷ texts) differ =
    ap (λ b. b || is_among texts text) (same_tied t text ∙ tied_alike t text ∙ differ.0) ∙ not_among text texts differ.1

none_tied : (text : List ℕ) (texts : List (List ℕ)) → is_among texts text ≡ false
    → AllByRecursion (λ t. eq_by_cmp by_bytes text t ≡ false) texts
none_tied text [] h = tt
none_tied text (t ∷ texts) h =
    let both = neither (same_text t text) (is_among texts text) h in
    (tied_alike text t ∙ sym (same_tied t text) ∙ both.0, none_tied text texts both.1)
  where
    neither : (a b : Bool) → (a || b) ≡ false → (a ≡ false) × (b ≡ false)
    neither true b h = absurd (cc)
    neither false b h = (refl, h)

once_from_differ : (texts : List (List ℕ)) → AllDiffer texts → once texts ≡ true
once_from_differ [] differ = refl
once_from_differ (t ∷ texts) differ =
    ap (λ b. not b && once texts) (not_among t texts (IsDistinct-head _ t texts differ))
    ∙ once_from_differ texts (IsDistinct-tail _ t texts differ)

none_at_all : AllDiffer []
unfolding IsDistinct
none_at_all = tt

differ_from_once : (texts : List (List ℕ)) → once texts ≡ true → AllDiffer texts
differ_from_once [] h = none_at_all
differ_from_once (t ∷ texts) h =
    let both = parts (is_among texts t) (once texts) h in
    IsDistinct-cons _ t texts (none_tied t texts both.0) (differ_from_once texts both.1)
  where
    parts : (a b : Bool) → (not a && b) ≡ true → (a ≡ false) × (b ≡ true)
    parts true b h = absurd (cc)
    parts false b h = (refl, h)

-- ---- the keys at places

abbrev keys_at : List Tag → List ℕ → List (List ℕ)
keys_at tags places = map (key_of tags) places

length_keys : (tags : List Tag) → length (tag_keys tags) ≡ length tags
length_keys [] = refl
length_keys (tag ∷ tags) = ap suc (length_keys tags)

-- at all places, each in its order, stand the keys
all_keys : (tags : List Tag) (places : List ℕ) → length places ≡ length tags
    → ((k : ℕ) → k < length places → slice_index places k ≡ k) → keys_at tags places ≡ tag_keys tags
all_keys tags places as_long numbered =
    same_lists (keys_at tags places) (tag_keys tags)
    (length-map places (key_of tags) ∙ as_long ∙ sym (length_keys tags))
    (λ k d under.
    let small : k < length places = omega (arith, length-map places (key_of tags)) in
    get_or-map (key_of tags) places k 0 d small ∙ ap (key_of tags) (numbered k small)
    ∙ get_or_default (tag_keys tags) k [] d (omega (arith, length_keys tags)))

key_there : (tags : List Tag) (places : List ℕ) (k : ℕ) → k < length places
    → get_or (keys_at tags places) k [] ≡ key_of tags (get_or places k 0)
key_there tags places k under = get_or-map (key_of tags) places k 0 [] under

less : (o : Ordering) → true ≡ is_lt o → o ≡ Less
less Less h = refl
less Equal h = absurd (cc)
less Greater h = absurd (cc)

-- where each key comes before the next, all differ
rising : (tags : List Tag) (places : List ℕ)
    → AllAdjacentBelow (λ one other. true ≡ comes_before tags one other) places (length places)
    → AllDiffer (keys_at tags places)
rising tags places up =
    IsDistinct-from_sorted by_bytes (keys_at tags places)
    (sorted_from_all_adjacent (lists_total nat_cmp_total) (keys_at tags places) [] (λ k under.
    let small : k + 1 < length places = omega (arith, length-map places (key_of tags)) in
    ap (by_bytes (get_or (keys_at tags places) k [])) (key_there tags places (k + 1) small)
    ∙ ap (λ (key : List ℕ). by_bytes key (key_of tags (get_or places (k + 1) 0)))
    (key_there tags places k (omega arith))
    ∙ less _ (up k 0 small)))

tied : (o back : Ordering) → o ≡ ordering_reverse back → false ≡ is_lt o → is_lt back ≡ false → is_eq o ≡ true
tied Less back e h k = absurd (cc)
tied Equal back e h k = refl
tied Greater Less e h k = absurd (cc)
tied Greater Equal e h k = absurd (let f : is_eq Greater ≡ true = ap is_eq e in cc)
tied Greater Greater e h k = absurd (let f : is_lt Greater ≡ true = ap is_lt e in cc)

-- where one doesn't come before the next, which doesn't come before it, two are the same
standing : (tags : List Tag) (places : List ℕ) (k : ℕ) → k + 1 < length places
    → false ≡ comes_before tags (get_or places k 0) (get_or places (k + 1) 0)
    → comes_before tags (get_or places (k + 1) 0) (get_or places k 0) ≡ false
    → AllDiffer (keys_at tags places) → true ≡ false
standing tags places k under ahead behind differ =
    let apart = apart_from_distinct (eq_by_cmp by_bytes) (keys_at tags places) k (k + 1) [] differ (omega arith)
    (omega (arith, length-map places (key_of tags))) in
    let same : eq_by_cmp by_bytes (get_or (keys_at tags places) k []) (get_or (keys_at tags places) (k + 1) []) ≡ true
    = ap (eq_by_cmp by_bytes (get_or (keys_at tags places) k [])) (key_there tags places (k + 1) under)
    ∙ ap (λ (key : List ℕ). eq_by_cmp by_bytes key (key_of tags (get_or places (k + 1) 0)))
    (key_there tags places k (omega arith))
    ∙ tied (by_bytes (key_of tags (get_or places k 0)) (key_of tags (get_or places (k + 1) 0)))
    (by_bytes (key_of tags (get_or places (k + 1) 0)) (key_of tags (get_or places k 0)))
    ((lists_total nat_cmp_total).antisymm (key_of tags (get_or places k 0)) (key_of tags (get_or places (k + 1) 0)))
    ahead behind in
    sym same ∙ apart

never : (b : Bool) → (b ≡ true → true ≡ false) → false ≡ b
never true h = sym (h refl)
never false h = refl

pub once_in_order : (tags : List Tag) (places sorted : List ℕ) (b : Bool) → length places ≡ length tags
    → ((k : ℕ) → k < length places → slice_index places k ≡ k) → IsPermutation places sorted
    → IsSortedBy (comes_before tags) sorted
    → IsAllAdjacentAnswer (λ one other c. c ≡ comes_before tags one other) sorted b → b ≡ once (tag_keys tags)
once_in_order tags places sorted true as_long numbered moved up answer =
    sym (ap once (sym (all_keys tags places as_long numbered)) ∙ once_from_differ (keys_at tags places)
    (IsDistinct-IsPermutation (eq_by_cmp by_bytes) tied_alike (keys_at tags sorted) (keys_at tags places)
    (IsPermutation-sym _ _ (IsPermutation-map (key_of tags) places sorted moved)) (rising tags sorted answer)))
once_in_order tags places sorted false as_long numbered moved up (k, under, h) =
    never (once (tag_keys tags)) (λ is.
    standing tags sorted k under (h 0) (up k 0 (omega arith) under)
    (IsDistinct-IsPermutation (eq_by_cmp by_bytes) tied_alike (keys_at tags places) (keys_at tags sorted)
    (IsPermutation-map (key_of tags) places sorted moved)
    (differ_from_once (keys_at tags places) (ap once (all_keys tags places as_long numbered) ∙ is))))
