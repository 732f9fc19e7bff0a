-- Texts that were seen.
use Rattle.std.proofs.Common.{◌≡◌, ℕ, Bool, true, false, not, ◌||◌, cond, nat_eq, List, [], ◌∷◌, Bor, refl, sym, ap, ◌∙◌, arith}
use Rattle.std.specs.Ordering.{is_eq, nat_cmp}
use Rattle.std.specs.Cmp.{partial_equiv_from_equiv, nat_eq_equiv}
use Rattle.std.specs.Cmp.Lexicographic.{slice_cmp, pointwise, lists_per}
use Rattle.std.specs.List.{list_any}
use Rattle.std.proofs.lemmas.Bool.Decides.{nat_tests}
use Rattle.std.proofs.lemmas.Cmp.{same_from_slice_cmp}
use Rattle.sm_base.specs.Texts.{same_text}
use Rattle.sm_versions.specs.Texts.{is_among}
use Rattle.sm_base_check.specs.Seen.{texts_of}

-- two texts are the same where their order says so
ordered_same : (a b : List ℕ) → is_eq (slice_cmp nat_cmp a b) ≡ same_text a b
unfolding same_text
ordered_same a b =
    same_from_slice_cmp nat_cmp is_eq (pointwise nat_eq) refl (λ _ _. refl) (λ _ _. refl)
    (λ x y xs ys o h. grind (arith, nat_tests)) a b (slice_cmp nat_cmp a b) refl

pub flipped : (a b : List ℕ) → same_text a b ≡ same_text b a
unfolding same_text
flipped a b = (lists_per (partial_equiv_from_equiv nat_eq_equiv)).symm a b

-- a text is among those of a set where the set contains it
among_keys : (keys : List (Bor (List ℕ))) (text : Bor (List ℕ))
    → list_any (λ (k : Bor (List ℕ)). is_eq (slice_cmp nat_cmp text.now k.now)) keys
    ≡ is_among (texts_of keys) text.now
among_keys [] text = refl
among_keys (k ∷ keys) text =
    rw (ordered_same text.now k.now, flipped text.now k.now)
    (ap (λ b. same_text k.now text.now || b) (among_keys keys text))

pub is_first : (old : List (Bor (List ℕ))) (text : Bor (List ℕ)) (added : Bool)
    → added ≡ not (list_any (λ (k : Bor (List ℕ)). is_eq (slice_cmp nat_cmp text.now k.now)) old)
    → added ≡ not (is_among (texts_of old) text.now)
is_first old text added e = e ∙ ap not (among_keys old text)

either : (b c : Bool) → cond b true c ≡ (b || c)
either true c = refl
either false c = refl

pub is_with : (old new : List (Bor (List ℕ))) (text : Bor (List ℕ))
    → ((q : Bor (List ℕ)) → list_any (λ (k : Bor (List ℕ)). is_eq (slice_cmp nat_cmp q.now k.now)) new
    ≡ cond (is_eq (slice_cmp nat_cmp text.now q.now)) true
    (list_any (λ (k : Bor (List ℕ)). is_eq (slice_cmp nat_cmp q.now k.now)) old))
    → (other : List ℕ)
    → is_among (texts_of new) other ≡ (same_text text.now other || is_among (texts_of old) other)
is_with old new text h other =
    let q : Bor (List ℕ) = record text { now = other } in
    sym (among_keys new q) ∙ h q
    ∙ ap (cond (is_eq (slice_cmp nat_cmp text.now other)) true) (among_keys old q)
    ∙ ap (λ b. cond b true (is_among (texts_of old) other)) (ordered_same text.now other)
    ∙ either (same_text text.now other) (is_among (texts_of old) other)
