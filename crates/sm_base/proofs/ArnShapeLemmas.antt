-- The test of ARNs answers the sentence on their shape.
use Rattle.std.proofs.Common.{◌≡◌, ℕ, ◌+◌, true, false, inl, inr, List, [], ◌∷◌, ◌++◌, length, take, drop, nat_eq, codes, refl, sym, ap, ◌∙◌, suc-add}
use Rattle.std.proofs.lemmas.List.{take-append-drop, take_at}
use Rattle.std.proofs.lemmas.Bool.{and_parts, and_from, eqb-true, eq-eqb, false≢true}
use Rattle.std.specs.Char.{is_ascii_digit}
use Rattle.std.specs.List.{list_all, starts_with, before_first, after_first, position_or_len}
use Rattle.sm_base.specs.declared.parts.Alphabet.{Alphabet}
use Rattle.sm_base.specs.declared.parts.Alphabet.TheVariants.{RegionBytes, Digits}
use Rattle.sm_base.specs.Parts.{is_in}
use Rattle.sm_base.specs.Spelling.{is_run, is_name_byte, is_region_byte, is_arn, is_colon, is_region_on, is_account_on, is_resource, IsArnOf}
use Rattle.sm_base.proofs.ArnLemmas.{at_colon, colon_place}

starts_whole : (xs text : List ℕ) → starts_with nat_eq text xs ≡ true → text ≡ xs ++ drop (length xs) text
starts_whole [] text starts = refl
starts_whole (x ∷ xs) [] starts = absurd (false≢true starts)
starts_whole (x ∷ xs) (b ∷ text) starts =
    let both = and_parts (nat_eq x b) (starts_with nat_eq text xs) starts in
    ap (λ c. c ∷ text) (sym (eqb-true x b both.0)) ∙ ap (λ t. x ∷ t) (starts_whole xs text both.1)

starts_append : (xs text : List ℕ) → starts_with nat_eq (xs ++ text) xs ≡ true
starts_append [] text = refl
starts_append (x ∷ xs) text = and_from (nat_eq x x) (starts_with nat_eq (xs ++ text) xs) (eq-eqb x x refl)
    (starts_append xs text)

-- a text about its first colon
around_colon : (text : List ℕ) → drop (position_or_len is_colon text) text ≡ 58 ∷ after_first is_colon text
    → text ≡ before_first is_colon text ++ 58 ∷ after_first is_colon text
around_colon text colon = sym (take-append-drop (position_or_len is_colon text) text)
    ∙ ap (λ t. before_first is_colon text ++ t) colon

account_needed : (text : List ℕ) → is_account_on (after_first is_colon text) ≡ true
    → text ≡ before_first is_colon text ++ 58 ∷ after_first is_colon text
account_needed text on = elim (at_colon text) [
  | inl none ↦ absurd (false≢true (ap is_account_on (sym none.1) ∙ on))
  | inr colon ↦ around_colon text colon
]

resource_needed : (text : List ℕ) → is_resource (after_first is_colon text) ≡ true
    → text ≡ before_first is_colon text ++ 58 ∷ after_first is_colon text
resource_needed text on = elim (at_colon text) [
  | inl none ↦ absurd (false≢true (ap is_resource (sym none.1) ∙ on))
  | inr colon ↦ around_colon text colon
]

pub arn_has_shape : (text : List ℕ) → is_arn text ≡ true → (region account rest : List ℕ)
    × IsArnOf text region account rest
unfolding is_arn
arn_has_shape text is =
    let start = and_parts (starts_with nat_eq text (codes "arn:aws:secretsmanager:")) (is_region_on (drop 23 text)) is
    in
    let t : List ℕ = drop 23 text in
    let region = and_parts (is_run is_region_byte 1 32 (before_first is_colon t))
    (is_account_on (after_first is_colon t)) start.1 in
    let u : List ℕ = after_first is_colon t in
    let account = and_parts (is_run is_ascii_digit 12 12 (before_first is_colon u))
    (is_resource (after_first is_colon u)) region.1 in
    let v : List ℕ = after_first is_colon u in
    let resource = and_parts (starts_with nat_eq v (codes "secret:")) (is_run is_name_byte 1 519 (drop 7 v)) account.1
    in (
      before_first is_colon t,
      before_first is_colon u,
      drop 7 v,
      record {
        whole = starts_whole (codes "arn:aws:secretsmanager:") text start.0
            ∙ ap (λ x. codes "arn:aws:secretsmanager:" ++ x) (account_needed t region.1)
            ∙ ap (λ x. codes "arn:aws:secretsmanager:" ++ (before_first is_colon t ++ (codes ":" ++ x)))
            (resource_needed u account.1)
            ∙ ap (λ x. codes "arn:aws:secretsmanager:"
            ++ (before_first is_colon t ++ (codes ":" ++ (before_first is_colon u ++ (codes ":" ++ x)))))
            (starts_whole (codes "secret:") v resource.0);
        region_spelled = region.0;
        account_spelled = account.0;
        rest_spelled = resource.1;
      },
    )

before_colon : (alphabet : Alphabet) (front after : List ℕ) → is_in alphabet 58 ≡ false
    → list_all (is_in alphabet) front ≡ true
    → before_first is_colon (front ++ 58 ∷ after) ≡ front
before_colon alphabet front after other all =
    ap (λ n. take n (front ++ 58 ∷ after)) (colon_place alphabet front after other all)
    ∙ take_at front (58 ∷ after) (length front) refl

after_colon : (alphabet : Alphabet) (front after : List ℕ) → is_in alphabet 58 ≡ false
    → list_all (is_in alphabet) front ≡ true
    → after_first is_colon (front ++ 58 ∷ after) ≡ after
after_colon alphabet front after other all =
    ap (λ n. drop (n + 1) (front ++ 58 ∷ after)) (colon_place alphabet front after other all) ∙ past front
  where
    past : (xs : List ℕ) → drop (length xs + 1) (xs ++ 58 ∷ after) ≡ after
    past [] = refl
    past (x ∷ xs) = rw suc-add (past xs)

pub shape_is_arn : (text region account rest : List ℕ) → IsArnOf text region account rest → is_arn text ≡ true
unfolding is_arn is_region_byte
shape_is_arn text region account rest shape =
    let in_region = (and_parts _ (list_all is_region_byte region) shape.region_spelled).1 in
    let in_account = (and_parts _ (list_all is_ascii_digit account) shape.account_spelled).1 in
    let v : List ℕ = codes "secret:" ++ rest in
    let u : List ℕ = account ++ 58 ∷ v in
    let resource : is_resource v ≡ true = shape.rest_spelled in
    let on_account : is_account_on u ≡ true =
    rw (before_colon Digits account v refl in_account, after_colon Digits account v refl in_account)
    (and_from _ _ shape.account_spelled resource) in
    let on_region : is_region_on (region ++ 58 ∷ u) ≡ true =
    rw (before_colon RegionBytes region u refl in_region, after_colon RegionBytes region u refl in_region)
    (and_from _ _ shape.region_spelled on_account) in
    ap is_arn shape.whole ∙ and_from _ _ (starts_append (codes "arn:aws:secretsmanager:") (region ++ 58 ∷ u)) on_region
