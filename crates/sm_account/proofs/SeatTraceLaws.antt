-- How traces are joined, and what they say of a history.
use Rattle.std.proofs.Common.{◌≡◌, ℕ, ◌+◌, ◌≤◌, eqb, cond, List, [], ◌∷◌, ◌++◌, length, take, drop, refl, sym, ap, ◌∙◌, subst, append_assoc, append-nil, eq-eqb, arith}
use Rattle.sm_lock.specs.Story.{made_by, Grows, entries_of}
use Rattle.sm_lock.proofs.Stories.{grows-trans, grows-none, entries-append, drop-front, begins-grows, begins-length, since, since-grows, made-none}
use Rattle.sm_model.specs.declared.entry.Mark.{Mark}
use Rattle.sm_account.specs.History.{by_seat}
use Rattle.sm_account.specs.SeatTraces.{History, Shape, behind, SeatTrace, marks_in}

-- a gap may be nothing, and two in a row are one
pub record Joins (gap : History → History → Type 0) : Type 0 where
  pub still : (h : History) → gap h h
  pub both : (a b c : History) → gap a b → gap b c → gap a c

module _ {T : Type 0} (shape : Shape T) (gap : History → History → Type 0) (seat : ℕ) (right : T → Type 0)
    (joins : Joins gap) where
  -- a gap before it
  trace_after : (earlier from to : History) (xs : List T) → gap earlier from → SeatTrace shape gap seat right from xs to
      → SeatTrace shape gap seat right earlier xs to
  trace_after earlier from to [] first s = joins.both earlier from to first s
  trace_after earlier from to (x ∷ xs) first s = (joins.both earlier from (shape.before x) first s.0, s.1, s.2)

  -- one trace and then another
  pub traces_join : (from mid to : History) (xs ys : List T) → SeatTrace shape gap seat right from xs mid
      → SeatTrace shape gap seat right mid ys to → SeatTrace shape gap seat right from (xs ++ ys) to
  traces_join from mid to [] ys first then = trace_after from mid to ys first then
  traces_join from mid to (x ∷ xs) ys first then =
      (first.0, first.1, traces_join (behind shape gap seat right x) mid to xs ys first.2 then)

  -- a gap behind it
  pub trace_goes_on : (from to later : History) (xs : List T) → SeatTrace shape gap seat right from xs to → gap to later
      → SeatTrace shape gap seat right from xs later
  trace_goes_on from to later [] s after = joins.both from to later s after
  trace_goes_on from to later (x ∷ xs) s after =
      (s.0, s.1, trace_goes_on (behind shape gap seat right x) to later xs s.2 after)

  -- one thing more
  pub trace_with_one : (from to : History) (xs : List T) (x : T) → SeatTrace shape gap seat right from xs to
      → gap to (shape.before x) → right x
      → SeatTrace shape gap seat right from (xs ++ x ∷ []) (behind shape gap seat right x)
  trace_with_one from to xs x s next is =
      let last : History = behind shape gap seat right x in
      traces_join from to last xs (x ∷ []) s (next, is, joins.still last)

-- what is right may be said more weakly
pub trace_weaker : {T : Type 0} (shape : Shape T) (gap : History → History → Type 0) (seat : ℕ)
    (right right' : T → Type 0) → ((x : T) → right x → right' x) → (from to : History) (xs : List T)
    → SeatTrace shape gap seat right from xs to → SeatTrace shape gap seat right' from xs to
trace_weaker shape gap seat right right' weaker from to [] s = s
trace_weaker shape gap seat right right' weaker from to (x ∷ xs) s =
    (s.0, weaker x s.1, trace_weaker shape gap seat right right' weaker _ to xs s.2)

-- where each gap adds to the history, so does a trace
module _ {T : Type 0} (shape : Shape T) (gap : History → History → Type 0) (seat : ℕ) (right : T → Type 0)
    (grows : (a b : History) → gap a b → Grows [] a b) where
  pub trace_grows : (from to : History) (xs : List T) → SeatTrace shape gap seat right from xs to → Grows [] from to
  trace_grows from to [] s = grows from to s
  trace_grows from to (x ∷ xs) s =
      let mine : History = by_seat seat (shape.marks x) in
      let at : Grows [] from (shape.before x) = grows from (shape.before x) s.0 in
      let own : Grows [] (shape.before x) (shape.before x ++ mine) = (mine, refl, made-none mine) in
      grows-trans [] from (shape.before x) to at
      (grows-trans [] (shape.before x) (shape.before x ++ mine) to own
      (trace_grows (shape.before x ++ mine) to xs s.2))

-- where all that others add is in the gaps, the seat's own marks are those of the things

own_marks : (seat : ℕ) (marks : List Mark) → entries_of seat (by_seat seat marks) ≡ marks
own_marks seat [] = refl
own_marks seat (mark ∷ marks) =
    ap (λ b. cond b (mark ∷ entries_of seat (by_seat seat marks)) (entries_of seat (by_seat seat marks)))
    (eq-eqb seat seat refl) ∙ ap (λ (ms : List Mark). mark ∷ ms) (own_marks seat marks)

-- a list that begins so still does with more behind it
begins_more : (built xs ys : History) → take (length built) xs ≡ built → take (length built) (xs ++ ys) ≡ built
begins_more built xs ys begins = begins-grows [] built xs (xs ++ ys) begins (ys, refl, made-none ys)

module _ {T : Type 0} (shape : Shape T) (seat : ℕ) (right : T → Type 0) (built : History) where
  abbrev Gap : History → History → Type 0
  Gap = Grows (seat ∷ [])

  -- the seat's marks since a list that the history begins with
  abbrev made_since : History → List Mark
  made_since h = entries_of seat (drop (length built) h)

  pub trace_mine : (from to : History) (xs : List T) → take (length built) from ≡ built
      → SeatTrace shape Gap seat right from xs to → made_since to ≡ made_since from ++ marks_in shape xs
  trace_mine from to [] begins s =
      since-grows seat built from to begins s ∙ sym (append-nil (made_since from))
  trace_mine from to (x ∷ xs) begins s =
      let at : History = shape.before x in
      let own : History = by_seat seat (shape.marks x) in
      let there : take (length built) at ≡ built = begins-grows (seat ∷ []) built from at begins s.0 in
      let here : made_since (at ++ own) ≡ made_since from ++ shape.marks x =
      since seat built at own there
      ∙ ap (λ (ms : List Mark). made_since at ++ ms) (own_marks seat (shape.marks x))
      ∙ ap (λ (ms : List Mark). ms ++ shape.marks x) (since-grows seat built from at begins s.0) in
      trace_mine (at ++ own) to xs (begins_more built at own there) s.2
      ∙ ap (λ (ms : List Mark). ms ++ marks_in shape xs) here
      ∙ append_assoc (made_since from) (shape.marks x) (marks_in shape xs)
