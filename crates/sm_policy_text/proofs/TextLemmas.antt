-- Keys of conditions that are those of tags.
use Rattle.std.proofs.Common.{◌≡◌, ◌≢◌, ℕ, ◌&&◌, Bool, true, false, List, [], ◌∷◌, ◌++◌, ◌≤◌, cond, length, take, drop, nat_eq, nat_le, codes, Some, None, refl, ap, sym, ◌∙◌, arith, length-drop}
use Rattle.std.specs.Cmp.Lexicographic.{pointwise}
use Rattle.std.specs.List.{starts_with}
use Rattle.std.proofs.lemmas.Bool.Decides.{nat_tests}
use Rattle.sm_policy_text.specs.declared.policy.Key.TheVariants as keys
use Rattle.sm_policy_text.specs.Kinds.{tag_key_named}

-- a key that is a tag's
pub tag_key_is : (name key : List ℕ) → starts_with nat_eq name (codes "secretsmanager:ResourceTag/") ≡ true
    → key ≡ drop 27 name → 1 ≤ length key → tag_key_named name ≡ Some (keys.ResourceTag key)
tag_key_is name key begins e h =
    ap (λ b. cond (b && nat_le 28 (length name)) (Some (keys.ResourceTag (drop 27 name))) None) begins
    ∙ ap (λ b. cond b (Some (keys.ResourceTag (drop 27 name))) None)
    (enough name (omega (arith, ap length e, length-drop 27 name)))
    ∙ ap (λ (k : List ℕ). Some (keys.ResourceTag k)) (sym e)
  where
    enough : (name : List ℕ) → 28 ≤ length name → nat_le 28 (length name) ≡ true
    enough name h = grind (arith, nat_tests)

same_number : (a b : ℕ) → nat_eq a b ≡ true → a ≡ b
same_number a b h = grind (arith, nat_tests)

and_left : (a b : Bool) → (a && b) ≡ true → a ≡ true
and_left true b h = refl
and_left false b h = h

and_right : (a b : Bool) → (a && b) ≡ true → b ≡ true
and_right true b h = h
and_right false b h = absurd (cc)

-- a text that begins with a front is the front and more
begins : (front text : List ℕ) → pointwise nat_eq front (take (length front) text) ≡ true
    → text ≡ front ++ drop (length front) text
begins [] text h = refl
begins (c ∷ front) [] h = absurd (cc)
begins (c ∷ front) (d ∷ text) h =
    ap (λ x. x ∷ text) (sym (same_number c d (and_left _ _ h)))
    ∙ ap (λ t. c ∷ t) (begins front text (and_right _ _ h))

by_test : (b : Bool) → (b ≡ true → ⊥) → b ≡ false
by_test true h = absurd (h refl)
by_test false h = refl

pub no_tag_key : (name : List ℕ) → ((rest : List ℕ) → name ≢ codes "secretsmanager:ResourceTag/" ++ rest)
    → tag_key_named name ≡ None
no_tag_key name other =
    ap (λ b. cond (b && nat_le 28 (length name)) (Some (keys.ResourceTag (drop 27 name))) None)
    (by_test (starts_with nat_eq name (codes "secretsmanager:ResourceTag/"))
    (λ h. other _ (begins (codes "secretsmanager:ResourceTag/") name h)))
