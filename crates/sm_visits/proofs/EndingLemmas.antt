-- The history of a connection at its last, and after it.
use Rattle.std.proofs.Common.{◌≡◌, ℕ, ◌+◌, ◌-◌, Bool, true, false, List, [], ◌∷◌, ◌++◌, length, drop, take, refl, ap, sym, ◌∙◌, subst, arith, append_assoc, append-nil, length-append}
use Rattle.std.proofs.lemmas.List.{take_all, drop-drop, drop-append-le}
use Rattle.std.proofs.Math.ListN.{drop_of_length-le}
use Rattle.sm_http.specs.Messages.{Message, IsMessage, Closing, Bad}
use Rattle.sm_http.specs.Chains.{BeginWith}
use Rattle.sm_http.proofs.ChainLemmas.{begin-append, begin_more, begin_end, begin_closing, stopped_here, stays_read}
use Rattle.sm_visits.specs.declared.arrivals.Opened.TheVariants as opened
use Rattle.sm_visits.specs.Visits.{ArrivalsState, Ending, ByClose, ByCount, ByFault, ByEnd, MayOpen, OpensLast, with_all, with_message}
use Rattle.sm_visits.specs.Histories.{History, Told, Ended, EndBy, IsDue, visit_bytes, after_messages}
use Rattle.sm_visits.specs.Laws.{ToldAtOpen, EndedAtPush, EndedAtVisit, EndedAtGive, EndedAtOpen, LastVisitIsRead}
use Rattle.sm_visits.proofs.AloneLemmas.{message_alone, message_behind}
use Rattle.sm_visits.proofs.HistoryLemmas.{at_rest, came_so_far, behind_visit, one_more, opens_more, told_message, came_more, open_stays, came_given, open_given, still_within}

-- the last is opened
module _ (h : History) (s : ArrivalsState) (none : s.opened ≡ 0) (t : Told h s) (may : MayOpen s) where
  -- as a message
  module _ (m : Message) (rest : List ℕ) (is : IsMessage s.waiting m rest) (why : Ending) (has_ended : Bool)
      (visit : EndBy why (visit_bytes h (with_message s rest true)) (h.here ++ m ∷ []) [])
      (whole : EndBy why h.came ((h.passed ++ h.here) ++ m ∷ []) rest)
      (due : IsDue why (s.given + 1) has_ended) where
    count_is : s.given + 1 ≡ length h.passed + length (h.here ++ m ∷ [])
    count_is = omega (arith, t.given, length-append h.here (m ∷ []))

    ended_message : Ended (after_messages h (m ∷ [])) has_ended why (with_message s rest true)
    ended_message = record {
      bytes = t.bytes;
      opened = omega arith;
      first = t.first;
      visit = visit;
      whole = subst (λ xs. EndBy why h.came (h.passed ++ (h.here ++ m ∷ [])) xs)
          (sym (message_behind s.waiting m rest is))
          (subst (λ ms. EndBy why h.came ms rest) (append_assoc h.passed h.here (m ∷ [])) whole);
      few = omega (arith, may.1, one_more h s none t m rest is);
      most = omega (arith, t.below, count_is);
      due = subst (λ n. IsDue why n has_ended) count_is due;
      over = refl;
    }

  -- as all that waits
  module _ (why : Ending) (has_ended : Bool)
      (visit : EndBy why (h.gave ++ s.waiting) h.here [])
      (whole : EndBy why h.came (h.passed ++ h.here) (drop (length s.waiting) s.waiting))
      (due : IsDue why (length h.passed + length h.here) has_ended) where
    no_more : h.here ++ [] ≡ h.here
    no_more = append-nil h.here

    all_of : h.gave ++ s.waiting ≡ visit_bytes h (with_all s)
    all_of = ap (λ xs. h.gave ++ xs) (sym (take_all (length s.waiting) s.waiting (omega arith)))

    ended_all : Ended h has_ended why (with_all s)
    ended_all = record {
      bytes = t.bytes;
      opened = omega arith;
      first = t.first;
      visit = subst (λ xs. EndBy why xs h.here []) all_of visit;
      whole = whole;
      few = omega (arith, t.few, t.in_visit);
      most = omega (arith, t.below, t.given);
      due = due;
      over = refl;
    }

    ended_rest : Ended (after_messages h []) has_ended why (with_all s)
    ended_rest =
        subst (λ ms. Ended (record h { here = ms }) has_ended why (with_all s)) (sym no_more) ended_all

  visit_so_far : BeginWith (h.gave ++ s.waiting) h.here s.waiting
  visit_so_far = begin-append h.gave s.waiting h.here [] (at_rest h s none t)

  so_far : BeginWith h.came (h.passed ++ h.here) s.waiting
  so_far = came_so_far h s none t

  told_last : (has_ended : Bool) (why : Ending) (new : ArrivalsState) → OpensLast s has_ended why new
      → (messages : List Message) × Ended (after_messages h messages) has_ended why new
  told_last has_ended ByClose new (m, rest, is, closes, left) = (
    m ∷ [],
    subst (Ended (after_messages h (m ∷ [])) has_ended ByClose) (sym left)
        (ended_message m rest is ByClose has_ended
        (begin_closing (visit_bytes h (with_message s rest true)) 0 h.here
        (take (length s.waiting - length rest) s.waiting) m [] (behind_visit h s none t m rest is)
        (message_alone s.waiting m rest is) closes)
        (begin_closing h.came 0 (h.passed ++ h.here) s.waiting m rest so_far is closes) tt),
  )
  told_last has_ended ByCount new (m, rest, is, goes, most, left) = (
    m ∷ [],
    subst (Ended (after_messages h (m ∷ [])) has_ended ByCount) (sym left)
        (ended_message m rest is ByCount has_ended (opens_more h s none t m rest is goes)
        (begin_more h.came (h.passed ++ h.here) s.waiting m rest so_far is goes) most),
  )
  told_last has_ended (ByFault kind) new (bad, left) =
      let at : ℕ = 0 + (length (h.gave ++ s.waiting) - length s.waiting) in
      let place : ℕ = 0 + (length h.came - length s.waiting) in (
        [],
        subst (Ended (after_messages h []) has_ended (ByFault kind)) (sym left)
            (ended_rest (ByFault kind) has_ended
            (at, begin_end (h.gave ++ s.waiting) 0 h.here s.waiting (Bad kind at) visit_so_far (refl, bad))
            (place, begin_end h.came 0 (h.passed ++ h.here) s.waiting (Bad kind place) so_far (refl, bad)) tt),
      )
  told_last has_ended ByEnd new (partial, ended, left) =
      let size : ℕ = length s.waiting in (
        [],
        subst (Ended (after_messages h []) has_ended ByEnd) (sym left)
            (ended_rest ByEnd has_ended
            (size, stopped_here (h.gave ++ s.waiting) s.waiting h.here size visit_so_far refl partial, refl) (
              size,
              stopped_here h.came s.waiting (h.passed ++ h.here) size so_far refl partial,
              drop_of_length-le s.waiting (omega arith),
            ) ended),
      )

pub told_open : ToldAtOpen
told_open h old new has_ended opened.Message none t (may, m, rest, is, goes, below, left) = (
  m,
  subst (Told (after_messages h (m ∷ []))) (sym left) (told_message h old none t m rest is goes may below),
)
told_open h old new has_ended opened.Last none t (may, why, last) =
    let told = told_last h old none t may has_ended why new last in (why, told.0, told.1)
told_open h old new has_ended opened.Nothing none t (why, left) = subst (Told h) (sym left) t

-- more bytes behind what is final
more_behind : (why : Ending) (bytes more : List ℕ) (ms : List Message) (behind : List ℕ) (count : ℕ)
    → IsDue why count false → EndBy why bytes ms behind → EndBy why (bytes ++ more) ms (behind ++ more)
more_behind ByClose bytes more ms behind count due e = stays_read bytes more 0 ms Closing tt e
more_behind ByCount bytes more ms behind count due e = begin-append bytes more ms behind e
more_behind (ByFault kind) bytes more ms behind count due (place, e) =
    (place, stays_read bytes more 0 ms (Bad kind place) tt e)
more_behind ByEnd bytes more ms behind count due e = cc

pub ended_push : EndedAtPush
ended_push h s why bytes e = record {
  bytes = came_more h s bytes e.bytes;
  opened = omega (arith, e.opened, length-append s.waiting bytes);
  first = e.first;
  visit = subst (λ xs. EndBy why xs h.here []) (open_stays h s bytes e.opened) e.visit;
  whole = subst (λ xs. EndBy why (h.came ++ bytes) (h.passed ++ h.here) xs)
      (sym (drop-append-le s.opened s.waiting bytes e.opened))
      (more_behind why h.came bytes (h.passed ++ h.here) (drop s.opened s.waiting)
      (length h.passed + length h.here) e.due e.whole);
  few = e.few;
  most = e.most;
  due = e.due;
  over = e.over;
}

pub ended_visit : EndedAtVisit
ended_visit h s has_ended why e = record {
  bytes = e.bytes;
  opened = e.opened;
  first = e.first;
  visit = e.visit;
  whole = e.whole;
  few = e.few;
  most = e.most;
  due = e.due;
  over = e.over;
}

pub ended_give : EndedAtGive
ended_give h s has_ended why count within e = record {
  bytes = came_given h s count e.bytes;
  opened = still_within h s count e.opened;
  first = e.first;
  visit = subst (λ xs. EndBy why xs h.here []) (open_given h s count within) e.visit;
  whole = subst (λ xs. EndBy why h.came (h.passed ++ h.here) xs)
      (ap (λ n. drop n s.waiting) (omega (arith, within)) ∙ sym (drop-drop (s.opened - count) count s.waiting))
      e.whole;
  few = e.few;
  most = e.most;
  due = e.due;
  over = e.over;
}

pub ended_open : EndedAtOpen
ended_open h old new has_ended asked why opened.Message e o = let more = o.0.0 in let over = e.over in cc
ended_open h old new has_ended asked why opened.Last e o = let more = o.0.0 in let over = e.over in cc
ended_open h old new has_ended asked why opened.Nothing e o = (refl, o.1)

pub last_visit_is_read : LastVisitIsRead
last_visit_is_read h s has_ended why none e =
    let all : visit_bytes h s ≡ h.gave
    = ap (λ n. h.gave ++ take n s.waiting) none ∙ append-nil h.gave in
    (subst (λ xs. EndBy why xs h.here []) all e.visit, e.few)
