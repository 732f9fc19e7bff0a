-- Holds as traces of a seat.
use Rattle.std.proofs.Common.{ℕ, List, [], ◌∷◌, ◌++◌, sym, subst}
use Rattle.std.specs.Prelude.{⊤}
use Rattle.sm_account.specs.History.{by_seat}
use Rattle.sm_account.specs.SeatTraces.{History, SeatTrace}
use Rattle.sm_pool.specs.Holds.{HeldAt, Hold, hold_shape}

module _ (gap : History → History → Type 0) (seat : ℕ) where
  -- one hold alone
  pub trace_of_one : ((h : History) → gap h h) → (from to : History) (hold : Hold) → HeldAt gap seat from to hold
      → SeatTrace hold_shape gap seat (λ h. ⊤) from (hold ∷ []) to
  trace_of_one still from to hold held =
      let end = hold.before ++ by_seat seat hold.marks in
      (held.comes, tt, subst (λ h. gap end h) (sym held.stands) (still end))

  -- a hold, and others after it
  pub one_then_trace : (from mid to : History) (hold : Hold) (holds : List Hold) → HeldAt gap seat from mid hold
      → SeatTrace hold_shape gap seat (λ h. ⊤) mid holds to
      → SeatTrace hold_shape gap seat (λ h. ⊤) from (hold ∷ holds) to
  one_then_trace from mid to hold holds held rest =
      (held.comes, tt, subst (λ h. SeatTrace hold_shape gap seat (λ x. ⊤) h holds to) held.stands rest)
