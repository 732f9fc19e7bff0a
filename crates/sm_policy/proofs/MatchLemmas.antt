-- What the matcher knows, and why only the last `*` goes back: if `*`, characters without `*`, and a `*` again match
-- a text, then the second `*` matches what follows the first place at which those characters match.
use Rattle.std.proofs.Common.{◌≡◌, ◌≢◌, ℕ, zero, suc, ◌≤◌, ◌==◌, ◌&&◌, ◌||◌, cond, Bool, true, false, List, [], ◌∷◌, ◌++◌, length, drop, Option, Some, None, refl, ap, sym, ◌∙◌, arith, append_assoc}
use Rattle.std.proofs.Math.Seq.{drop-nil}
use Rattle.std.proofs.lemmas.Bool.Decides.{nat_tests}
use Rattle.sm_policy.specs.declared.pattern.Case.{Case}
use Rattle.sm_policy.specs.declared.pattern.Places.{Places}
use Rattle.sm_policy.specs.Characters.{BeginsAs}
use Rattle.sm_policy.specs.Steps.{PastStar, PastBoth}
use Rattle.sm_policy.specs.Patterns.{letters, some_end, first_then, wild}

-- some end behind the first character passes
abbrev pub later : List ℕ → List ℕ → Bool
later rest [] = false
later rest (c ∷ text) = some_end (wild rest) text

-- no `*` among the characters
abbrev pub NoStar : List ℕ → Type 0
NoStar [] = Unit {0}
NoStar (c ∷ cs) = (c ≢ 42) × NoStar cs

some_end_is : (rest text : List ℕ) → some_end (wild rest) text ≡ (wild rest text || later rest text)
some_end_is rest [] = or_false (wild rest [])
  where
    or_false : (b : Bool) → b ≡ (b || false)
    or_false true = refl
    or_false false = refl
some_end_is rest (c ∷ text) = refl

pub star_is : (rest text : List ℕ) → wild (42 ∷ rest) text ≡ some_end (wild rest) text
unfolding wild
star_is rest text = refl

not_star : (p : ℕ) → p ≢ 42 → (p == 42) ≡ false
not_star p h = grind (arith, nat_tests)

pub one_is : (p : ℕ) (rest text : List ℕ) → p ≢ 42 → wild (p ∷ rest) text ≡ first_then p (wild rest) text
unfolding wild
one_is p rest text h = ap (λ b. cond b (some_end (wild rest) text) (first_then p (wild rest) text)) (not_star p h)

and_right : (a b : Bool) → (a && b) ≡ true → b ≡ true
and_right true b h = h
and_right false b h = absurd (cc)

-- what matches characters and then a `*` and the rest has an end behind those characters that the rest matches
behind : (q rest text : List ℕ) → NoStar q → wild (q ++ 42 ∷ rest) text ≡ true
    → some_end (wild rest) (drop (length q) text) ≡ true
behind [] rest text none h = sym (star_is rest text) ∙ h
behind (p ∷ q) rest [] none h = absurd (let e = sym (one_is p (q ++ 42 ∷ rest) [] none.0) ∙ h in cc)
behind (p ∷ q) rest (c ∷ text) none h =
    behind q rest text none.1 (and_right _ _ (sym (one_is p (q ++ 42 ∷ rest) (c ∷ text) none.0) ∙ h))

or_right : (a b : Bool) → b ≡ true → (a || b) ≡ true
or_right true b h = refl
or_right false b h = h

-- an end of what follows the first character is an end
drop_one : (rest text : List ℕ) → some_end (wild rest) (drop 1 text) ≡ true → some_end (wild rest) text ≡ true
drop_one rest [] h = h
drop_one rest (c ∷ text) h = or_right (wild rest (c ∷ text)) (some_end (wild rest) text) h

drop_less : (q : ℕ) (c : ℕ) (text : List ℕ) → drop q text ≡ drop 1 (drop q (c ∷ text))
drop_less zero c text = refl
drop_less (suc q) c [] = sym (ap (drop 1) (drop-nil q))
drop_less (suc q) c (d ∷ text) = drop_less q d text

-- the same of an end of a text
behind_cons : (q rest : List ℕ) (c : ℕ) (text : List ℕ) → NoStar q
    → (some_end (wild (q ++ 42 ∷ rest)) text ≡ true → some_end (wild rest) (drop (length q) text) ≡ true)
    → (b : Bool) → wild (q ++ 42 ∷ rest) (c ∷ text) ≡ b → (b || some_end (wild (q ++ 42 ∷ rest)) text) ≡ true
    → some_end (wild rest) (drop (length q) (c ∷ text)) ≡ true
behind_cons q rest c text none further true is h = behind q rest (c ∷ text) none is
behind_cons q rest c text none further false is h = drop_one rest (drop (length q) (c ∷ text))
    (ap (some_end (wild rest)) (sym (drop_less (length q) c text)) ∙ further h)

behind_end : (q rest text : List ℕ) → NoStar q → some_end (wild (q ++ 42 ∷ rest)) text ≡ true
    → some_end (wild rest) (drop (length q) text) ≡ true
behind_end q rest [] none h = behind q rest [] none h
behind_end q rest (c ∷ text) none h =
    behind_cons q rest c text none (behind_end q rest text none) (wild (q ++ 42 ∷ rest) (c ∷ text)) refl h

-- and of an end of what follows the first character
behind_later : (q rest text : List ℕ) → NoStar q → later (q ++ 42 ∷ rest) text ≡ true
    → some_end (wild rest) (drop (length q) text) ≡ true
behind_later q rest [] none h = absurd (cc)
behind_later q rest (c ∷ text) none h = drop_one rest (drop (length q) (c ∷ text))
    (ap (some_end (wild rest)) (sym (drop_less (length q) c text)) ∙ behind_end q rest text none h)

-- between the place behind the last `*` and here no `*` stands, and all matches
pub record Passed (case : Case) (last here : Places) : Type 0 where
  pub q : List ℕ
  pub none : NoStar q
  pub pattern_is : letters case last.pattern.now ≡ q ++ letters case here.pattern.now
  pub text_is : letters case here.text.now ≡ drop (length q) (letters case last.text.now)

abbrev pub wild_at : Case → Places → Bool
wild_at case here = wild (letters case here.pattern.now) (letters case here.text.now)

abbrev pub later_at : Case → Places → Bool
later_at case last = later (letters case last.pattern.now) (letters case last.text.now)

-- what is still to be found out, with a place behind the last `*` or without
abbrev pub Open : Bool → Case → Option Places → Places → Type 0
Open whole case None here = whole ≡ wild_at case here
Open whole case (Some last) here = (whole ≡ (wild_at case here || later_at case last)) × Passed case last here

-- how much text is left behind the last `*`
abbrev pub left_of : List ℕ → Option Places → ℕ
left_of text None = length text
left_of text (Some last) = length last.text.now

abbrev pub Fits : List ℕ → Option Places → Type 0
Fits pattern None = Unit {0}
Fits pattern (Some last) = length last.pattern.now ≤ length pattern

-- what holds while a match goes on
pub record Goes (whole : Bool) (case : Case) (pattern text : List ℕ) (star : Option Places)
    (here : Places) : Type 0 where
  pub open_is : Open whole case star here
  pub pattern_fits : length here.pattern.now ≤ length pattern
  pub text_fits : length here.text.now ≤ left_of text star
  pub star_fits : Fits pattern star

pub begins : (case : Case) (here : Places) → Goes (wild_at case here) case here.pattern.now here.text.now None here
begins case here = record {
  open_is = refl;
  pattern_fits = omega arith;
  text_fits = omega arith;
  star_fits = tt;
}

star_at : (case : Case) (here next : Places) → PastStar case here next
    → wild_at case here ≡ (wild_at case next || later_at case next)
star_at case here next on =
    ap (λ p. wild p (letters case here.text.now)) on.star
    ∙ star_is (letters case next.pattern.now) (letters case here.text.now)
    ∙ ap (λ (t : List ℕ). some_end (wild (letters case next.pattern.now)) (letters case t)) (sym on.same)
    ∙ some_end_is (letters case next.pattern.now) (letters case next.text.now)

nothing_passed : (case : Case) (here : Places) → Passed case here here
nothing_passed case here = record { q = []; none = tt; pattern_is = refl; text_is = refl }

implied : (a b : Bool) → (b ≡ true → a ≡ true) → (a || b) ≡ a
implied true b h = refl
implied false true h = sym (h refl)
implied false false h = refl

-- what goes on behind an earlier `*` goes on behind the later one
earlier : (case : Case) (last here next : Places) → Passed case last here → PastStar case here next
    → later_at case last ≡ true → wild_at case here ≡ true
earlier case last here next passed on h =
    star_at case here next on
    ∙ sym (some_end_is (letters case next.pattern.now) (letters case next.text.now))
    ∙ ap (λ (t : List ℕ). some_end (wild (letters case next.pattern.now)) (letters case t)) on.same
    ∙ ap (some_end (wild (letters case next.pattern.now))) passed.text_is
    ∙ behind_later passed.q (letters case next.pattern.now) (letters case last.text.now) passed.none
    (sym (ap (λ p. later p (letters case last.text.now)) (passed.pattern_is ∙ ap (λ p. passed.q ++ p) on.star)) ∙ h)

star_open : (whole : Bool) (case : Case) (star : Option Places) (here next : Places) → Open whole case star here
    → PastStar case here next → Open whole case (Some next) next
star_open whole case None here next is on = (is ∙ star_at case here next on, nothing_passed case next)
star_open whole case (Some last) here next is on = (
  is.0 ∙ implied (wild_at case here) (later_at case last) (earlier case last here next is.1 on)
      ∙ star_at case here next on,
  nothing_passed case next,
)

pub past_star : (whole : Bool) (case : Case) (pattern text : List ℕ) (star : Option Places) (here next : Places)
    → Goes whole case pattern text star here → PastStar case here next
    → Goes whole case pattern text (Some next) next
past_star whole case pattern text star here next goes on = record {
  open_is = star_open whole case star here next goes.open_is on;
  pattern_fits = omega (arith, goes.pattern_fits, on.shorter);
  text_fits = omega arith;
  star_fits = omega (arith, goes.pattern_fits, on.shorter);
}

no_star_more : (q : List ℕ) (p : ℕ) → NoStar q → p ≢ 42 → NoStar (q ++ p ∷ [])
no_star_more [] p none h = (h, tt)
no_star_more (c ∷ q) p none h = (none.0, no_star_more q p none.1 h)

drop_more : (q : List ℕ) (p c : ℕ) (text rest : List ℕ) → c ∷ rest ≡ drop (length q) text
    → rest ≡ drop (length (q ++ p ∷ [])) text
drop_more [] p c [] rest e = absurd (cc)
drop_more [] p c (d ∷ text) rest e = let f : rest ≡ text = cc in f
drop_more (b ∷ q) p c [] rest e = absurd (cc)
drop_more (b ∷ q) p c (d ∷ text) rest e = drop_more q p c text rest e

passed_more : (case : Case) (last here next : Places) → Passed case last here → PastBoth case here next
    → Passed case last next
passed_more case last here next passed on = record {
  q = passed.q ++ on.p ∷ [];
  none = no_star_more passed.q on.p passed.none on.no_star;
  pattern_is = passed.pattern_is ∙ ap (λ p. passed.q ++ p) on.pattern_on
      ∙ sym (append_assoc passed.q (on.p ∷ []) (letters case next.pattern.now));
  text_is = drop_more passed.q on.p on.c (letters case last.text.now) (letters case next.text.now)
      (sym on.text_on ∙ passed.text_is);
}

both_open : (whole : Bool) (case : Case) (star : Option Places) (here next : Places) → Open whole case star here
    → PastBoth case here next → Open whole case star next
both_open whole case None here next is on = is ∙ on.match
both_open whole case (Some last) here next is on =
    (is.0 ∙ ap (λ b. b || later_at case last) on.match, passed_more case last here next is.1 on)

pub past_both : (whole : Bool) (case : Case) (pattern text : List ℕ) (star : Option Places) (here next : Places)
    → Goes whole case pattern text star here → PastBoth case here next → Goes whole case pattern text star next
past_both whole case pattern text star here next goes on = record {
  open_is = both_open whole case star here next goes.open_is on;
  pattern_fits = omega (arith, goes.pattern_fits, on.shorter);
  text_fits = omega (arith, goes.text_fits, on.text_shorter);
  star_fits = goes.star_fits;
}

ended : (whole : Bool) (case : Case) (star : Option Places) (here : Places) → Open whole case star here
    → wild_at case here ≡ true → whole ≡ true
ended whole case None here is h = is ∙ h
ended whole case (Some last) here is h = is.0 ∙ ap (λ b. b || later_at case last) h

pub at_end : (whole : Bool) (case : Case) (pattern text : List ℕ) (star : Option Places) (here : Places)
    → Goes whole case pattern text star here → wild_at case here ≡ true → whole ≡ true
at_end whole case pattern text star here goes h = ended whole case star here goes.open_is h

pub no_star : (whole : Bool) (case : Case) (pattern text : List ℕ) (here : Places)
    → Goes whole case pattern text None here → wild_at case here ≡ false → whole ≡ false
no_star whole case pattern text here goes h = goes.open_is ∙ h

pub text_is_over : (whole : Bool) (case : Case) (pattern text : List ℕ) (last here : Places)
    → Goes whole case pattern text (Some last) here → wild_at case here ≡ false
    → letters case last.text.now ≡ [] → whole ≡ false
text_is_over whole case pattern text last here goes h e =
    goes.open_is.0 ∙ ap (λ b. b || later_at case last) h ∙ ap (later (letters case last.pattern.now)) e

pub goes_back : (whole : Bool) (case : Case) (pattern text : List ℕ) (last here next : Places) (c : ℕ)
    → Goes whole case pattern text (Some last) here → wild_at case here ≡ false
    → BeginsAs case last.text.now c next.text.now → next.pattern.now ≡ last.pattern.now
    → Goes whole case pattern text (Some next) next
goes_back whole case pattern text last here next c goes h front same = record {
  open_is = (
    goes.open_is.0 ∙ ap (λ b. b || later_at case last) h
        ∙ ap (later (letters case last.pattern.now)) front.front
        ∙ some_end_is (letters case last.pattern.now) (letters case next.text.now)
        ∙ ap (λ (p : List ℕ). wild (letters case p) (letters case next.text.now)
        || later (letters case p) (letters case next.text.now)) (sym same),
    nothing_passed case next,
  );
  pattern_fits = let k : length last.pattern.now ≤ length pattern = goes.star_fits in omega (arith, ap length same);
  text_fits = omega arith;
  star_fits = let k : length last.pattern.now ≤ length pattern = goes.star_fits in omega (arith, ap length same);
}
