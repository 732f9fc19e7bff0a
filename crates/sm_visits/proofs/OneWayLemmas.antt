-- What `open` answers is determined.
use Rattle.std.proofs.Common.{◌≡◌, ℕ, ◌+◌, ◌<◌, ◌⊎◌, Bool, true, false, List, refl, ap, sym, ◌∙◌, arith, inl, inr}
use Rattle.sm_http.specs.Messages.{Message, IsMessage, IsPartial}
use Rattle.sm_http.proofs.MessageLemmas.{message_unique, bad_is_no_message, partial_is_no_message}
use Rattle.sm_http.proofs.OneReadingLemmas.{partial_is_not_bad}
use Rattle.sm_visits.specs.declared.arrivals.Opened.TheVariants as opened
use Rattle.sm_visits.specs.Visits.{ArrivalsState, Ending, ByClose, ByCount, ByFault, ByEnd, MayOpen, OpensLast, OpensNothing, OpensInOneWay, with_all, with_message, connection_limit}

module _ (old : ArrivalsState) where
  -- the last is a message, or all that waits where there is none
  last_is : (has_ended : Bool) (why : Ending) (new : ArrivalsState) → OpensLast old has_ended why new
      → ((m : Message) × (rest : List ℕ) × IsMessage old.waiting m rest × (new ≡ with_message old rest true))
      ⊎ (((m : Message) (rest : List ℕ) → IsMessage old.waiting m rest → ⊥) × (new ≡ with_all old))
  last_is has_ended ByClose new (m, rest, is, closes, left) = inl (m, rest, is, left)
  last_is has_ended ByCount new (m, rest, is, goes, most, left) = inl (m, rest, is, left)
  last_is has_ended (ByFault kind) new (bad, left) =
      inr (λ m rest is. bad_is_no_message old.waiting kind m rest bad is, left)
  last_is has_ended ByEnd new (partial, ended, left) =
      inr (λ m rest is. partial_is_no_message old.waiting m rest partial is, left)

  same_rest : (m n : Message) (r q : List ℕ) (over : Bool) (new other : ArrivalsState) → IsMessage old.waiting m r
      → IsMessage old.waiting n q → new ≡ with_message old r over → other ≡ with_message old q over → new ≡ other
  same_rest m n r q over new other a b left right =
      left ∙ ap (λ (xs : List ℕ). with_message old xs over) (message_unique old.waiting m n r q a b).1 ∙ sym right

  same_last : (has_ended : Bool) (why because : Ending) (new other : ArrivalsState) → OpensLast old has_ended why new
      → OpensLast old has_ended because other → new ≡ other
  same_last has_ended why because new other a b =
      elim (last_is has_ended why new a) [
        | inl (m, r, is, left) ↦ elim (last_is has_ended because other b) [
          | inl (n, q, other_is, right) ↦ same_rest m n r q true new other is other_is left right
          | inr (none, right) ↦ absurd (none m r is)
        ]
        | inr (none, left) ↦ elim (last_is has_ended because other b) [
          | inl (n, q, is, right) ↦ absurd (none n q is)
          | inr (also, right) ↦ left ∙ sym right
        ]
      ]

  -- a message behind which more may come is not the last
  not_last : (has_ended : Bool) (why : Ending) (new : ArrivalsState) (m : Message) (rest : List ℕ)
      → IsMessage old.waiting m rest → m.closing ≡ false → old.given + 1 < connection_limit
      → OpensLast old has_ended why new → ⊥
  not_last has_ended ByClose new m rest is goes below (n, r, other, closes, left) =
      let same = ap (λ (x : Message). x.closing) (message_unique old.waiting m n rest r is other).0 in cc
  not_last has_ended ByCount new m rest is goes below (n, r, other, stays, most, left) = omega (arith, below, most)
  not_last has_ended (ByFault kind) new m rest is goes below (bad, left) =
      bad_is_no_message old.waiting kind m rest bad is
  not_last has_ended ByEnd new m rest is goes below (partial, ended, left) =
      partial_is_no_message old.waiting m rest partial is

  -- what is opened is something

  something : (has_ended : Bool) → MayOpen old → (IsPartial old.waiting → has_ended ≡ false → ⊥)
      → OpensNothing old has_ended → ⊥
  something has_ended may none (inl over) = let more = may.0 in cc
  something has_ended may none (inr (inl had)) = omega (arith, may.1, had.1)
  something has_ended may none (inr (inr waits)) = none waits.1 waits.2

  last_there : (has_ended : Bool) (why : Ending) (new : ArrivalsState) → OpensLast old has_ended why new
      → IsPartial old.waiting → has_ended ≡ false → ⊥
  last_there has_ended ByClose new (m, rest, is, closes, left) partial more =
      partial_is_no_message old.waiting m rest partial is
  last_there has_ended ByCount new (m, rest, is, goes, most, left) partial more =
      partial_is_no_message old.waiting m rest partial is
  last_there has_ended (ByFault kind) new (bad, left) partial more =
      partial_is_not_bad old.waiting kind partial bad
  last_there has_ended ByEnd new (also, ended, left) partial more = cc

pub one_way : OpensInOneWay
one_way old new other has_ended opened.Message opened.Message (may, m, r, is, goes, below, left)
    (also, n, q, second, stays, under, right) =
    (refl, same_rest old m n r q false new other is second left right)
one_way old new other has_ended opened.Message opened.Last (may, m, r, is, goes, below, left) (also, why, last) =
    absurd (not_last old has_ended why other m r is goes below last)
one_way old new other has_ended opened.Message opened.Nothing (may, m, r, is, goes, below, left) (none, right) =
    absurd (something old has_ended may (λ partial more. partial_is_no_message old.waiting m r partial is) none)
one_way old new other has_ended opened.Last opened.Message (may, why, last) (also, m, r, is, goes, below, right) =
    absurd (not_last old has_ended why new m r is goes below last)
one_way old new other has_ended opened.Last opened.Last (may, why, last) (also, because, second) =
    (refl, same_last old has_ended why because new other last second)
one_way old new other has_ended opened.Last opened.Nothing (may, why, last) (none, right) =
    absurd (something old has_ended may (last_there old has_ended why new last) none)
one_way old new other has_ended opened.Nothing opened.Message (none, left) (may, m, r, is, goes, below, right) =
    absurd (something old has_ended may (λ partial more. partial_is_no_message old.waiting m r partial is) none)
one_way old new other has_ended opened.Nothing opened.Last (none, left) (may, why, last) =
    absurd (something old has_ended may (last_there old has_ended why other last) none)
one_way old new other has_ended opened.Nothing opened.Nothing (why, left) (because, right) = (refl, left ∙ sym right)
