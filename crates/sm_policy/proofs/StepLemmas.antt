-- One step of the matcher.
use Rattle.std.proofs.Common.{◌≡◌, ◌≢◌, ℕ, ◌==◌, ◌||◌, ◌&&◌, Bool, true, false, List, [], ◌∷◌, length, map, refl, ap, ◌∙◌, arith}
use Rattle.std.specs.Str.{chars}
use Rattle.std.proofs.lemmas.Str.{chars-nil}
use Rattle.sm_policy.specs.declared.pattern.Case.{Case}
use Rattle.sm_policy.specs.declared.pattern.Places.{Places}
use Rattle.sm_policy.specs.Characters.{Begins, BeginsAs}
use Rattle.sm_policy.specs.Patterns.{letter, letters, some_end, wild}
use Rattle.sm_policy.specs.Steps.{PastStar, PastBoth}
use Rattle.sm_policy.proofs.MatchLemmas.{star_is, one_is}

pub no_letter : (case : Case) (text : List ℕ) → chars text ≡ [] → letters case text ≡ []
no_letter case text e = ap (map (letter case)) e

pub first_letter : (case : Case) (text : List ℕ) (c : ℕ) (rest : List ℕ) → Begins text c rest
    → BeginsAs case text (letter case c) rest
first_letter case text c rest first = record { front = ap (map (letter case)) first.front; shorter = first.shorter }

pub at_star : (case : Case) (here next : Places) (p : ℕ) → BeginsAs case here.pattern.now p next.pattern.now → p ≡ 42
    → next.text.now ≡ here.text.now → PastStar case here next
at_star case here next p first star same = record {
  star = first.front ∙ ap (λ c. c ∷ letters case next.pattern.now) star;
  same = same;
  shorter = first.shorter;
}

empty_nothing : wild [] [] ≡ true
unfolding wild
empty_nothing = refl

pub at_end : (pattern text : List ℕ) → pattern ≡ [] → text ≡ [] → wild pattern text ≡ true
at_end pattern text e f = ap (λ p. wild p text) e ∙ ap (wild []) f ∙ empty_nothing

or_right : (a b : Bool) → b ≡ true → (a || b) ≡ true
or_right true b h = refl
or_right false b h = h

-- nothing is left of a pattern behind a `*`, and some end of the text is empty
pub nothing_left : (text : List ℕ) → some_end (wild []) text ≡ true
nothing_left [] = empty_nothing
nothing_left (c ∷ text) = or_right (wild [] (c ∷ text)) (some_end (wild []) text) (nothing_left text)

none : (text : List ℕ) → length text ≡ 0 → text ≡ []
none [] e = refl
none (c ∷ text) e = absurd (omega arith)

pub at_last_star : (case : Case) (pattern text : List ℕ) (p : ℕ) (rest : List ℕ) → BeginsAs case pattern p rest → p ≡ 42
    → length rest ≡ 0 → wild (letters case pattern) (letters case text) ≡ true
at_last_star case pattern text p rest first star e =
    ap (λ q. wild q (letters case text)) (first.front ∙ ap (λ c. c ∷ letters case rest) star
    ∙ ap (λ (t : List ℕ). 42 ∷ letters case t) (none rest e)
    ∙ ap (λ t. 42 ∷ t) (no_letter case [] chars-nil))
    ∙ star_is [] (letters case text) ∙ nothing_left (letters case text)

empty_something : (c : ℕ) (text : List ℕ) → wild [] (c ∷ text) ≡ false
unfolding wild
empty_something c text = refl

pub text_is_longer : (case : Case) (pattern text : List ℕ) (c : ℕ) (rest : List ℕ) → letters case pattern ≡ []
    → BeginsAs case text c rest → wild (letters case pattern) (letters case text) ≡ false
text_is_longer case pattern text c rest e first =
    ap (λ p. wild p (letters case text)) e ∙ ap (wild []) first.front ∙ empty_something c (letters case rest)

pub text_is_shorter : (case : Case) (pattern text : List ℕ) (p : ℕ) (rest : List ℕ)
    → BeginsAs case pattern p rest → p ≢ 42 → letters case text ≡ []
    → wild (letters case pattern) (letters case text) ≡ false
text_is_shorter case pattern text p rest first star e =
    ap (λ q. wild q (letters case text)) first.front ∙ ap (wild (p ∷ letters case rest)) e
    ∙ one_is p (letters case rest) [] star

both_are : (case : Case) (pattern text : List ℕ) (p c : ℕ) (more rest : List ℕ) → BeginsAs case pattern p more
    → BeginsAs case text c rest → p ≢ 42 → wild (letters case pattern) (letters case text)
    ≡ ((p == 63 || p == c) && wild (letters case more) (letters case rest))
both_are case pattern text p c more rest first front star =
    ap (λ q. wild q (letters case text)) first.front ∙ ap (wild (p ∷ letters case more)) front.front
    ∙ one_is p (letters case more) (c ∷ letters case rest) star

same : (p c : ℕ) → (p == 63 || p == c) ≡ true → (more : Bool) → ((p == 63 || p == c) && more) ≡ more
same p c h more = ap (λ b. b && more) h

pub at_both : (case : Case) (here next : Places) (p c : ℕ) → BeginsAs case here.pattern.now p next.pattern.now
    → BeginsAs case here.text.now c next.text.now → p ≢ 42 → (p == 63 || p == c) ≡ true → PastBoth case here next
at_both case here next p c first front star one = record {
  p = p;
  c = c;
  no_star = star;
  pattern_on = first.front;
  text_on = front.front;
  match = both_are case here.pattern.now here.text.now p c next.pattern.now next.text.now first front star
      ∙ same p c one (wild (letters case next.pattern.now) (letters case next.text.now));
  shorter = first.shorter;
  text_shorter = front.shorter;
}

pub apart : (case : Case) (pattern text : List ℕ) (p c : ℕ) (more rest : List ℕ) → BeginsAs case pattern p more
    → BeginsAs case text c rest → p ≢ 42 → (p == 63 || p == c) ≡ false
    → wild (letters case pattern) (letters case text) ≡ false
apart case pattern text p c more rest first front star differ =
    both_are case pattern text p c more rest first front star
    ∙ ap (λ b. b && wild (letters case more) (letters case rest)) differ
