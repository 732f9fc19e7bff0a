-- How a text is read into a spread, and how a pattern's characters take one set of places to the next.
use Rattle.std.proofs.Common.{◌≡◌, ◌≢◌, ℕ, zero, suc, ◌+◌, ◌<◌, ◌≤◌, ◌==◌, ◌||◌, Bool, true, false, List, [], ◌∷◌, ◌++◌, length, take, drop, refl, ap, sym, subst, ◌∙◌, arith}
use Rattle.std.proofs.Math.ListN.{replicate}
use Rattle.std.specs.Prelude.{nat_le}
use Rattle.std.proofs.lemmas.List.{length-append}
use Rattle.sm_policy.specs.Patterns.{wild}
use Rattle.sm_policy.specs.PlaceSets.{has, IsEmptySet, IsLowest}
use Rattle.sm_policy.specs.Spreads.{Spreads, GoOn}
use Rattle.sm_policy.specs.declared.spread.Spread.{Spread}
use Rattle.sm_policy.proofs.MarkLemmas.{some_mark, first_mark, no_mark, past_one, past_star, at_end}
use Rattle.sm_policy.proofs.PlaceSetLemmas.{not_same}
use Rattle.sm_policy.proofs.SpreadLemmas.{no_place}

-- ---- reading the text

all_taken : (n : ℕ) (all : List ℕ) → drop n all ≡ [] → take n all ≡ all
all_taken zero all e = sym e
all_taken (suc n) [] e = refl
all_taken (suc n) (c ∷ all) e = ap (λ t. c ∷ t) (all_taken n all e)

-- nothing is read yet
pub begun : (all : List ℕ) (spread : Spread) → Spreads [] spread
    → Spreads (take spread.length all) spread × (drop spread.length all ≡ all)
begun all spread are = (
  subst (λ n. Spreads (take n all) spread) (sym are.as_long) are,
  ap (λ n. drop n all) are.as_long,
)

pub whole_spread : (all : List ℕ) (spread : Spread) → Spreads (take spread.length all) spread
    → drop spread.length all ≡ [] → Spreads all spread
whole_spread all spread are e = subst (λ t. Spreads t spread) (all_taken spread.length all e) are

one_taken : (n : ℕ) (all : List ℕ) (c : ℕ) (next : List ℕ) → drop n all ≡ c ∷ next
    → take (suc n) all ≡ take n all ++ c ∷ []
one_taken zero [] c next e = absurd (cc)
one_taken zero (d ∷ all) c next e = let f : d ≡ c = cc in ap (λ x. x ∷ []) f
one_taken (suc n) [] c next e = absurd (cc)
one_taken (suc n) (d ∷ all) c next e = ap (λ t. d ∷ t) (one_taken n all c next e)

one_dropped : (n : ℕ) (all : List ℕ) (c : ℕ) (next : List ℕ) → drop n all ≡ c ∷ next → drop (suc n) all ≡ next
one_dropped zero [] c next e = absurd (cc)
one_dropped zero (d ∷ all) c next e = let f : all ≡ next = cc in f
one_dropped (suc n) [] c next e = absurd (cc)
one_dropped (suc n) (d ∷ all) c next e = one_dropped n all c next e

pub more_spread : (all next : List ℕ) (c : ℕ) (spread new : Spread) → Spreads (take spread.length all) spread
    → drop spread.length all ≡ c ∷ next
    → ((text : List ℕ) → Spreads text spread → Spreads (text ++ c ∷ []) new)
    → Spreads (take new.length all) new × (drop new.length all ≡ next)
more_spread all next c spread new are e add =
    let more = add (take spread.length all) are in
    let longer : suc spread.length ≡ new.length
    = omega (arith, more.as_long, are.as_long, length-append (take spread.length all) (c ∷ [])) in (
      subst (λ t. Spreads t new) (sym (one_taken spread.length all c next e) ∙ ap (λ n. take n all) longer) more,
      ap (λ n. drop n all) (sym longer) ∙ one_dropped spread.length all c next e,
    )

-- ---- matching

pub at_first : (text set : List ℕ) (test : List ℕ → Bool) → length text < 640
    → ((place : ℕ) → place < 640 → has set place ≡ (place == 0 || has (replicate 10 0) place))
    → test text ≡ some_mark (has set) test text
at_first text set test short put =
    sym (first_mark (has set) test text (put 0 (omega arith))
    (λ place h. put (suc place) (omega (arith, h, short))
    ∙ ap (λ b. b || has (replicate 10 0) (suc place)) (not_same (suc place) 0 (λ e. absurd (omega (arith, e))))
    ∙ no_place (suc place) (omega (arith, h, short))))

pub ended : (text set rest : List ℕ) (length_is : ℕ) → length_is ≡ length text → rest ≡ []
    → has set length_is ≡ some_mark (has set) (wild rest) text
ended text set rest length_is long e =
    ap (has set) long ∙ sym (at_end (has set) text) ∙ ap (λ r. some_mark (has set) (wild r) text) (sym e)

pub nowhere : (text set : List ℕ) (test : List ℕ → Bool) → length text < 640 → IsEmptySet set
    → false ≡ some_mark (has set) test text
nowhere text set test short none =
    sym (no_mark (has set) test text (λ place h. none place (omega (arith, h, short))))

pub behind_star : (text set new rest next : List ℕ) (wanted low : ℕ) → length text < 640 → rest ≡ wanted ∷ next
    → wanted ≡ 42 → IsLowest set low → ((place : ℕ) → place < 640 → has new place ≡ nat_le low place)
    → some_mark (has set) (wild rest) text ≡ some_mark (has new) (wild next) text
behind_star text set new rest next wanted low short e star lowest filled =
    ap (λ r. some_mark (has set) (wild r) text) (e ∙ ap (λ c. c ∷ next) star)
    ∙ past_star (has set) (has new) low next text lowest.there lowest.none_before
    (λ place h. filled place (omega (arith, h, short)))

pub behind_one : (text set new rest next : List ℕ) (wanted : ℕ) → rest ≡ wanted ∷ next → wanted ≢ 42
    → GoOn text wanted set new → some_mark (has set) (wild rest) text ≡ some_mark (has new) (wild next) text
behind_one text set new rest next wanted e other on =
    ap (λ r. some_mark (has set) (wild r) text) e
    ∙ past_one (has set) (has new) wanted next text other on.first
    (λ place h. ap (has new) (let f : suc place ≡ place + 1 = omega arith in f) ∙ on.later place h)
