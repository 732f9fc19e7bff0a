-- What is pending of one file: done, tried and done again.
use Rattle.std.proofs.Common.{◌≡◌, inl, inr, ⊎_elim, ℕ, ◌+◌, ◌≤◌, List, length, take, refl, sym, ◌∙◌, ap, subst, arith, length-take}
use Rattle.std.proofs.lemmas.List.{take-take}
use Rattle.sm_disk.specs.Steps.{Holds, Torn, CutOrNot}
use Rattle.sm_write_buffer.specs.Pieces.{laid}
use Rattle.sm_write_buffer.specs.Gathering.{done, MayDo, place, IsBehind, JoinsTo}
use Rattle.sm_write_buffer.specs.declared.pending.Pending.{Pending}
use Rattle.sm_write_buffer.specs.declared.pending.Pending.TheVariants.{Nothing, Write, Cut}
use Rattle.sm_write_buffer.proofs.Tears.{torn_again, holds_after_torn, holds_laid, torn_laid, cut_before}

-- a cut of one length that was begun twice
cut_again : (end : ℕ) (x y z : List ℕ) → CutOrNot end x y → CutOrNot end y z → CutOrNot end x z
cut_again end x y z first second = ⊎_elim
    (λ cut. ⊎_elim
    (λ was. inl (cut ∙ ap (λ (l : List ℕ). take end l) was ∙ take-take end end x (omega arith)))
    (λ was. inl (cut ∙ ap (λ (l : List ℕ). take end l) was)) first)
    (λ not. ⊎_elim (λ was. inl (not ∙ was)) (λ was. inr (not ∙ was)) first) second

-- what is begun twice is what is begun once
pub may_again : (p : Pending) (x y z : List ℕ) → MayDo p x y → MayDo p y z → MayDo p x z
may_again Nothing x y z first second = second ∙ first
may_again (Write at piece) x y z first second = torn_again at (length piece) x y z first second
may_again (Cut end) x y z first second = cut_again end x y z first second

-- what is done after it was begun is done
pub done_again : (p : Pending) (x y : List ℕ) → place p ≤ length x → MayDo p x y → done p y ≡ done p x
done_again Nothing x y fits may = may
done_again (Write at piece) x y fits may = holds_after_torn at piece x y fits may
done_again (Cut end) x y fits may = ⊎_elim
    (λ cut. ap (λ (l : List ℕ). take end l) cut ∙ take-take end end x (omega arith))
    (λ not. ap (λ (l : List ℕ). take end l) not) may

-- and its place stays within the file
pub place_stays : (p : Pending) (x y : List ℕ) → place p ≤ length x → MayDo p x y → place p ≤ length y
place_stays Nothing x y fits may = omega arith
place_stays (Write at piece) x y fits may = omega (arith, fits, may.no_shorter)
place_stays (Cut end) x y fits may = ⊎_elim
    (λ cut. omega (arith, fits, ap length cut, length-take end x)) (λ not. omega (arith, fits, ap length not)) may

module _ (at : ℕ) (piece : List ℕ) (old new : Pending) (joins : JoinsTo at piece old new) where
  abbrev was : Pending
  was = Write joins.start joins.run

  abbrev now : Pending
  now = Write joins.start (laid joins.place piece joins.run)

  -- a piece that is written over a write, or behind it
  pub done_joined : (x : List ℕ) → place old ≤ length x → Holds at piece (done old x) (done new x)
  done_joined x fits =
      let start_fits : joins.start ≤ length x = subst (λ (p : Pending). place p ≤ length x) joins.was fits in
      subst (λ (a : ℕ). Holds a piece (done old x) (done new x)) (sym joins.begins)
      (subst (λ (p : Pending). Holds (joins.start + joins.place) piece (done p x) (done new x)) (sym joins.was)
      (subst (λ (p : Pending). Holds (joins.start + joins.place) piece (done was x) (done p x)) (sym joins.is)
      (holds_laid joins.place piece joins.run joins.within joins.start x start_fits)))

  -- and while it is done
  pub may_joined : (x z : List ℕ) → MayDo new x z → (y : List ℕ) × MayDo old x y × Torn at (length piece) y z
  may_joined x z may =
      let parts : (y : List ℕ) × MayDo was x y × Torn (joins.start + joins.place) (length piece) y z =
      torn_laid joins.place piece joins.run joins.within joins.start x z
      (subst (λ (p : Pending). MayDo p x z) joins.is may) in (
        parts.0,
        subst (λ (p : Pending). MayDo p x parts.0) (sym joins.was) parts.1,
        subst (λ (a : ℕ). Torn a (length piece) parts.0 z) (sym joins.begins) parts.2,
      )

  pub place_joined : place new ≡ place old
  place_joined = ap place joins.is ∙ sym (ap place joins.was)

-- a cut that takes all of it away
pub done_cut : (end : ℕ) (p : Pending) (x : List ℕ) → IsBehind end p → place p ≤ length x
    → take end (done p x) ≡ take end x
done_cut end Nothing x behind fits = refl
done_cut end (Write at piece) x behind fits = cut_before end at piece x behind fits
done_cut end (Cut other) x behind fits = take-take end other x behind
