-- The laws of patterns and decisions.
use Rattle.std.proofs.Common.{◌≡◌, ◌≢◌, ℕ, ◌+◌, ◌==◌, ◌&&◌, ◌||◌, not, cond, Bool, true, false, List, [], ◌∷◌, ◌++◌, Option, Some, None, is_some, ◌⊎◌, inl, inr, refl, ap, sym, ◌∙◌, arith}
use Rattle.std.specs.List.{list_any}
use Rattle.std.proofs.lemmas.Bool.Decides.{nat_tests}
use Rattle.sm_policy_text.specs.declared.policy.Statement.{Statement}
use Rattle.sm_policy.specs.Patterns.{Wild, some_end, is_empty, wild}
use Rattle.sm_policy.specs.Decisions.{denies, allows, first_number, decided}
use Rattle.sm_policy.specs.Laws.{MatchesAsWild, StarMatchesAll, DenyWins, AllowIsUndenied, DecisionAdmits, is_denial, is_allowance, may_go}
use Rattle.sm_policy.proofs.MatchLemmas.{one_is, star_is}
use Rattle.sm_policy.proofs.StepLemmas.{nothing_left}

or_left : (a b : Bool) → a ≡ true → (a || b) ≡ true
or_left true b h = refl
or_left false b h = absurd (cc)

or_right : (a b : Bool) → b ≡ true → (a || b) ≡ true
or_right true b h = refl
or_right false b h = h

either : (a b : Bool) → (a || b) ≡ true → (a ≡ true) ⊎ (b ≡ true)
either true b h = inl refl
either false b h = inr h

both : (a b : Bool) → (a && b) ≡ true → (a ≡ true) × (b ≡ true)
both true b h = (refl, h)
both false b h = absurd (cc)

and_true : (a b : Bool) → a ≡ true → b ≡ true → (a && b) ≡ true
and_true true b h k = k
and_true false b h k = absurd (cc)

-- an end that passes, and the front before it
abbrev Ends : (List ℕ → Bool) → List ℕ → Type 0
Ends test text = (front : List ℕ) × ((back : List ℕ) × ((text ≡ front ++ back) × (test back ≡ true)))

further : (test : List ℕ → Bool) (c : ℕ) (text : List ℕ) → Ends test text → Ends test (c ∷ text)
further test c text (front, (back, (is, h))) = (c ∷ front, (back, (ap (λ t. c ∷ t) is, h)))

end_of : (test : List ℕ → Bool) (text : List ℕ) → some_end test text ≡ true → Ends test text
end_of test [] h = ([], ([], (refl, h)))
end_of test (c ∷ text) h =
    elim (either (test (c ∷ text)) (some_end test text) h)
    [ inl here ↦ ([], (c ∷ text, (refl, here))) | inr there ↦ further test c text (end_of test text there) ]

whole_passes : (test : List ℕ → Bool) (text : List ℕ) → test text ≡ true → some_end test text ≡ true
whole_passes test [] h = h
whole_passes test (c ∷ text) h = or_left (test (c ∷ text)) (some_end test text) h

end_from : (test : List ℕ → Bool) (front back : List ℕ) → test back ≡ true → some_end test (front ++ back) ≡ true
end_from test [] back h = whole_passes test back h
end_from test (c ∷ front) back h = or_right (test (c ∷ (front ++ back))) _ (end_from test front back h)

is_star : (p : ℕ) → (p == 42) ≡ true → p ≡ 42
is_star p h = grind (arith, nat_tests)

no_star : (p : ℕ) → (p == 42) ≡ false → p ≢ 42
no_star p h e = absurd (let f : (p == 42) ≡ true = ap (λ q. q == 42) e in cc)

is_any : (p : ℕ) → (p == 63) ≡ true → p ≡ 63
is_any p h = grind (arith, nat_tests)

no_any : (p : ℕ) → (p == 63) ≡ false → p ≢ 63
no_any p h e = absurd (let f : (p == 63) ≡ true = ap (λ q. q == 63) e in cc)

is_same : (p c : ℕ) → (p == c) ≡ true → c ≡ p
is_same p c h = grind (arith, nat_tests)

same_is : (p : ℕ) → (p == p) ≡ true
same_is p = grind (arith, nat_tests)

nothing : (text : List ℕ) → is_empty text ≡ true → text ≡ []
nothing [] h = refl
nothing (c ∷ text) h = absurd (cc)

empty_is : (text : List ℕ) → wild [] text ≡ is_empty text
unfolding wild
empty_is text = refl

-- the relation of a pattern whose first character is p, from that of the rest
module _ (p : ℕ) (rest : List ℕ) (known : (text : List ℕ) → wild rest text ≡ true → Wild rest text) where
  of_star : p ≡ 42 → (text : List ℕ) → wild (p ∷ rest) text ≡ true → Wild (p ∷ rest) text
  of_star star text h =
      let found = end_of (wild rest) text
      (sym (ap (λ q. wild (q ∷ rest) text) star ∙ star_is rest text) ∙ h) in
      inl (star, (found.0, (found.1.0, (found.1.1.0, known found.1.0 found.1.1.1))))

  of_other : p ≢ 42 → (b : Bool) → (p == 63) ≡ b → (text : List ℕ) → wild (p ∷ rest) text ≡ true → Wild (p ∷ rest) text
  of_other other b any [] h = absurd (let e = sym (one_is p rest [] other) ∙ h in cc)
  of_other other true any (c ∷ text) h =
      let e = both _ _ (sym (one_is p rest (c ∷ text) other) ∙ h) in
      inr (inl (is_any p any, (c, (text, (refl, known text e.1)))))
  of_other other false any (c ∷ text) h =
      let e = both _ _ (sym (one_is p rest (c ∷ text) other) ∙ h) in
      let same : (p == c) ≡ true = sym (ap (λ b. b || (p == c)) any) ∙ e.0 in
      inr (inr (other, (no_any p any, (text, (ap (λ x. x ∷ text) (is_same p c same), known text e.1)))))

relation_of : (pattern text : List ℕ) → wild pattern text ≡ true → Wild pattern text
relation_of [] text h = nothing text (sym (empty_is text) ∙ h)
relation_of (p ∷ rest) text h =
    elim (p == 42) as (λ b. (p == 42) ≡ b → Wild (p ∷ rest) text) [
      | true ↦ λ e. of_star p rest (relation_of rest) (is_star p e) text h
      | false ↦ λ e. of_other p rest (relation_of rest) (no_star p e) (p == 63) refl text h
    ] refl

test_of : (pattern text : List ℕ) → Wild pattern text → wild pattern text ≡ true
test_of [] text e = empty_is text ∙ ap is_empty e
test_of (p ∷ rest) text (inl many) =
    ap (λ q. wild (q ∷ rest) text) many.0 ∙ star_is rest text ∙ ap (some_end (wild rest)) many.1.1.1.0
    ∙ end_from (wild rest) many.1.0 many.1.1.0 (test_of rest many.1.1.0 many.1.1.1.1)
test_of (p ∷ rest) text (inr (inl one)) =
    ap (wild (p ∷ rest)) one.1.1.1.0 ∙ one_is p rest (one.1.0 ∷ one.1.1.0) (λ e. absurd (omega (arith, one.0, e)))
    ∙ and_true _ _ (or_left (p == 63) (p == one.1.0) (ap (λ q. q == 63) one.0)) (test_of rest one.1.1.0 one.1.1.1.1)
test_of (p ∷ rest) text (inr (inr same)) =
    ap (wild (p ∷ rest)) same.1.1.1.0 ∙ one_is p rest (p ∷ same.1.1.0) same.0
    ∙ and_true _ _ (or_right (p == 63) (p == p) (same_is p)) (test_of rest same.1.1.0 same.1.1.1.1)

pub matches_as_wild : MatchesAsWild
matches_as_wild pattern text = (relation_of pattern text, test_of pattern text)

pub star_matches_all : StarMatchesAll
star_matches_all text = star_is [] text ∙ nothing_left text

-- decisions
there : (b : Bool) (x : ℕ) (r : Option ℕ) (l : Bool) → is_some r ≡ l → is_some (cond b (Some x) r) ≡ (b || l)
there true x r l h = refl
there false x r l h = h

number_is : (test : Statement → Bool) (place : ℕ) (ss : List Statement)
    → is_some (first_number test place ss) ≡ list_any test ss
number_is test place [] = refl
number_is test place (s ∷ ss) =
    there (test s) _ (first_number test (place + 1) ss) (list_any test ss) (number_is test (place + 1) ss)

denial : (d a : Option ℕ) → is_denial (decided d a) ≡ is_some d
denial (Some n) a = refl
denial None (Some n) = refl
denial None None = refl

allowance : (d a : Option ℕ) → is_allowance (decided d a) ≡ true → (is_some d ≡ false) × (is_some a ≡ true)
allowance (Some n) a h = absurd (cc)
allowance None (Some n) h = (refl, refl)
allowance None None h = absurd (cc)

or_true : (b : Bool) → (b || true) ≡ true
or_true true = refl
or_true false = refl

or_false : (b : Bool) → (b || false) ≡ b
or_false true = refl
or_false false = refl

goes : (d a : Option ℕ) (full : Bool) → (not (is_some d) && (full || is_some a)) ≡ may_go (decided d a) full
goes (Some n) a full = refl
goes None (Some n) full = or_true full
goes None None full = or_false full

pub deny_wins : DenyWins
deny_wins policy question =
    denial (first_number (denies question) 0 policy.statements) (first_number (allows question) 0 policy.statements)
    ∙ number_is (denies question) 0 policy.statements

pub allow_is_undenied : AllowIsUndenied
allow_is_undenied policy question h =
    let found = allowance (first_number (denies question) 0 policy.statements)
    (first_number (allows question) 0 policy.statements) h in (
      sym (number_is (denies question) 0 policy.statements) ∙ found.0,
      sym (number_is (allows question) 0 policy.statements) ∙ found.1,
    )

pub decision_admits : DecisionAdmits
decision_admits policy question =
    sym (ap (λ b. not b && (question.person.full || list_any (allows question) policy.statements))
    (number_is (denies question) 0 policy.statements))
    ∙ sym (ap
    (λ b. not (is_some (first_number (denies question) 0 policy.statements)) && (question.person.full || b))
    (number_is (allows question) 0 policy.statements))
    ∙ goes (first_number (denies question) 0 policy.statements) (first_number (allows question) 0 policy.statements)
    question.person.full
