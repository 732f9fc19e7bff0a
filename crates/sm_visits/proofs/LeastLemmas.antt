-- How the least key of a table's connections is found.
use Rattle.std.proofs.Common.{◌≡◌, ℕ, ◌+◌, ◌<◌, ◌≤◌, true, false, Option, Some, None, IsSome, refl, ap, sym, ◌∙◌, arith, inl, inr, nat_lt}
use Rattle.std.proofs.lemmas.Bool.{cases_eq, cases_Bool}
use Rattle.std.proofs.lemmas.Bool.Decides.{nat_tests}
use Rattle.slab.specs.Slab.{get}
use Rattle.sm_visits.specs.Connections.{Table, here, if_here, HasPlacesBelow}
use Rattle.sm_visits.specs.Least.{lesser_of, IsBehind, LeastBelow, IsFirstLeast}

module _ {C : Type 0} (gives : C → Option ℕ → Type 0) (t : Table C) where
  is_less : (a b : ℕ) → nat_lt a b ≡ true → a < b
  is_less a b less = grind (arith, nat_tests)

  is_not_less : (a b : ℕ) → nat_lt a b ≡ false → b ≤ a
  is_not_less a b more = grind (arith, nat_tests)

  none_and_some : (c : C) (slot : Option C) → slot ≡ None → slot ≡ Some c → ⊥
  none_and_some c slot none is = absurd (cc)

  same_here : (slot : Option C) (c other : C) → slot ≡ Some c → slot ≡ Some other → c ≡ other
  same_here slot c other is also = cc

  -- a place below the next is one below this, or this
  module _ (place : ℕ) (T : ℕ → C → Type 0) where
    one_more : ((at : ℕ) (c : C) → at < place → here t at ≡ Some c → T at c)
        → ((c : C) → here t place ≡ Some c → T place c) → (at : ℕ) (c : C) → at < place + 1 → here t at ≡ Some c
        → T at c
    one_more below this at c within is =
        elim (cases_eq at place) [
          | inl same ↦ rw same (this c (ap (here t) (sym same) ∙ is))
          | inr differs ↦ below at c (omega (arith, within, differs)) is
        ]

  -- no connection is here at this place
  pub least_skips : (place : ℕ) (least : Option (ℕ × ℕ)) → here t place ≡ None → LeastBelow gives t place least
      → LeastBelow gives t (place + 1) least
  least_skips place None none below =
      one_more place (λ at c. gives c None) below (λ c is. elim (none_and_some c (here t place) none is) [ ])
  least_skips place (Some least) none (within, below) = (
    omega (arith, within),
    record {
      connection = below.connection;
      at = below.at;
      has = below.has;
      all = one_more place (λ at c. (key : Option ℕ) × gives c key × IsBehind least.0 least.1 at key) below.all
          (λ c is. elim (none_and_some c (here t place) none is) [ ]);
    },
  )

  -- one is here, and has this key or none
  pub least_goes_on : (place : ℕ) (least : Option (ℕ × ℕ)) (c : C) (key : Option ℕ) → here t place ≡ Some c →
      gives c key
      → LeastBelow gives t place least → LeastBelow gives t (place + 1) (lesser_of least place key)
  least_goes_on place None c None is has below =
      one_more place (λ at x. gives x None) below (λ x same. rw (← same_here (here t place) c x is same) has)
  least_goes_on place None c (Some found) is has below = (
    omega arith,
    record {
      connection = c;
      at = is;
      has = has;
      all = one_more place (λ at x. (key : Option ℕ) × gives x key × IsBehind place found at key)
          (λ at x within there. (None, below at x within there, tt))
          (λ x same. (
            Some found,
            rw (← same_here (here t place) c x is same) has,
            (omega arith, λ less. omega (arith, less)),
          ));
    },
  )
  least_goes_on place (Some least) c None is has (within, below) = (
    omega (arith, within),
    record {
      connection = below.connection;
      at = below.at;
      has = below.has;
      all = one_more place (λ at x. (key : Option ℕ) × gives x key × IsBehind least.0 least.1 at key) below.all
          (λ x same. (None, rw (← same_here (here t place) c x is same) has, tt));
    },
  )
  least_goes_on place (Some least) c (Some found) is has (within, below) =
      elim (cases_Bool (nat_lt found least.1)) [
        | inl less ↦ rw less (
          omega arith,
          record {
            connection = c;
            at = is;
            has = has;
            all = one_more place (λ at x. (key : Option ℕ) × gives x key × IsBehind place found at key)
                (λ at x before there. let other = below.all at x before there in
                (other.0, other.1, lower other.0 at (is_less found least.1 less) other.2))
                (λ x same. (
                  Some found,
                  rw (← same_here (here t place) c x is same) has,
                  (omega arith, λ below. omega (arith, below)),
                ));
          },
        )
        | inr more ↦ rw more (
          omega (arith, within),
          record {
            connection = below.connection;
            at = below.at;
            has = below.has;
            all = one_more place (λ at x. (key : Option ℕ) × gives x key × IsBehind least.0 least.1 at key) below.all
                (λ x same. (
                  Some found,
                  rw (← same_here (here t place) c x is same) has,
                  (is_not_less found least.1 more, λ before. omega (arith, before, within)),
                ));
          },
        )
      ]
    where
      lower : (key : Option ℕ) (at : ℕ) → found < least.1 → IsBehind least.0 least.1 at key → IsBehind place
          found at key
      lower None at less behind = tt
      lower (Some other) at less behind = (omega (arith, less, behind.0), λ before. omega (arith, less, behind.0))

  -- behind the last place nothing is here
  past : (most at : ℕ) (c : C) → HasPlacesBelow t most → here t at ≡ Some c → at < most
  past most at c within is = within at (is_there (get t at) is)
    where
      is_there : (slot : Option (Option C)) → if_here slot ≡ Some c → IsSome slot
      is_there None wrong = absurd (cc)
      is_there (Some now) is = refl

  pub least_of_all : (most place : ℕ) (least : Option (ℕ × ℕ)) (first : ℕ × ℕ) → HasPlacesBelow t most → most ≤ place
      → LeastBelow gives t place least → least ≡ Some first → IsFirstLeast gives t (Some first.0)
  least_of_all most place None first within over below same = absurd (cc)
  least_of_all most place (Some least) first within over below same =
      rw (← pair_is same) (
        least.1,
        λ bound. record {
          connection = below.1.connection;
          at = below.1.at;
          has = below.1.has;
          all = λ at x before there. below.1.all at x (omega (arith, over, past most at x within there)) there;
        },
      )
    where
      pair_is : Some least ≡ Some first → least ≡ first
      pair_is same = cc

  pub none_of_all : (most place : ℕ) (least : Option (ℕ × ℕ)) → HasPlacesBelow t most → most ≤ place
      → LeastBelow gives t place least → least ≡ None → IsFirstLeast gives t None
  none_of_all most place None within over below same =
      λ bound at x before there. below at x (omega (arith, over, past most at x within there)) there
  none_of_all most place (Some least) within over below same = absurd (cc)
