-- The history of a connection goes on with each call.
use Rattle.std.proofs.Common.{◌≡◌, ℕ, ◌+◌, ◌-◌, ◌<◌, ◌≤◌, false, List, [], ◌∷◌, ◌++◌, length, drop, take, refl, ap, sym, ◌∙◌, subst, arith, inl, append_assoc, append-nil, length-append}
use Rattle.std.proofs.lemmas.List.{take-append-le, take-append-drop, length-drop}
use Rattle.std.proofs.Math.Seq.{take-add}
use Rattle.sm_http.specs.Messages.{Message, IsMessage}
use Rattle.sm_http.specs.Chains.{BeginWith}
use Rattle.sm_http.proofs.ChainLemmas.{begin-append, begin_more, stopped_here}
use Rattle.sm_visits.specs.Visits.{ArrivalsState, nothing_arrived, with_given, with_message, MayOpen, connection_limit}
use Rattle.sm_visits.specs.Histories.{History, Told, nothing_happened, visit_bytes, after_messages, after_given}
use Rattle.sm_visits.specs.Laws.{ToldAtPush, ToldAtVisit, ToldAtGive, VisitIsWhole, MessageHasBytes}
use Rattle.sm_visits.proofs.AloneLemmas.{message_alone, message_some}

-- messages, and then more of them
begin_join : (bytes : List ℕ) (ms : List Message) (ahead : List ℕ) (ns : List Message) (rest : List ℕ)
    → BeginWith bytes ms ahead → BeginWith ahead ns rest → BeginWith bytes (ms ++ ns) rest
begin_join bytes [] ahead ns rest b c = subst (λ xs. BeginWith xs ns rest) (sym b) c
begin_join bytes (m ∷ ms) ahead ns rest (behind, is, goes, b) c =
    (behind, is, goes, begin_join behind ms ahead ns rest b c)

pub begin_both : (xs ys : List ℕ) (ms ns : List Message) (rest : List ℕ) → BeginWith xs ms [] → BeginWith ys ns rest
    → BeginWith (xs ++ ys) (ms ++ ns) rest
begin_both xs ys ms ns rest b c = begin_join (xs ++ ys) ms ys ns rest (begin-append xs ys ms [] b) c

pub told_new : Told nothing_happened nothing_arrived
told_new = record {
  bytes = refl;
  opened = omega arith;
  first = refl;
  visit = refl;
  in_visit = refl;
  few = omega arith;
  given = refl;
  below = omega arith;
  more = refl;
}

-- bytes that come stand behind those that wait
pub came_more : (h : History) (s : ArrivalsState) (bytes : List ℕ) → h.came ≡ h.earlier ++ h.gave ++ s.waiting
    → h.came ++ bytes ≡ h.earlier ++ h.gave ++ (s.waiting ++ bytes)
came_more h s bytes is = ap (λ xs. xs ++ bytes) is ∙ append_assoc (h.earlier ++ h.gave) s.waiting bytes

-- and what is open stays
pub open_stays : (h : History) (s : ArrivalsState) (bytes : List ℕ) → s.opened ≤ length s.waiting
    → visit_bytes h s ≡ h.gave ++ take s.opened (s.waiting ++ bytes)
open_stays h s bytes within = ap (λ xs. h.gave ++ xs) (sym (take-append-le s.opened s.waiting bytes within))

pub told_push : ToldAtPush
told_push h s bytes t = record {
  bytes = came_more h s bytes t.bytes;
  opened = omega (arith, t.opened, length-append s.waiting bytes);
  first = t.first;
  visit = subst (λ xs. BeginWith xs h.here []) (open_stays h s bytes t.opened) t.visit;
  in_visit = t.in_visit;
  few = t.few;
  given = t.given;
  below = t.below;
  more = t.more;
}

-- bytes that are given are those that came next
module _ (h : History) (s : ArrivalsState) (count : ℕ) where
  pub came_given : h.came ≡ h.earlier ++ h.gave ++ s.waiting
      → h.came ≡ h.earlier ++ (h.gave ++ take count s.waiting) ++ drop count s.waiting
  came_given is =
      let front = take count s.waiting in
      let back = drop count s.waiting in
      is
      ∙ ap (λ xs. (h.earlier ++ h.gave) ++ xs) (sym (take-append-drop count s.waiting))
      ∙ sym (append_assoc (h.earlier ++ h.gave) front back)
      ∙ ap (λ xs. xs ++ back) (append_assoc h.earlier h.gave front)

  pub open_given : count ≤ s.opened
      → visit_bytes h s ≡ visit_bytes (after_given h (take count s.waiting)) (with_given s count)
  open_given within =
      let all : s.opened ≡ count + (s.opened - count) = omega (arith, within) in
      ap (λ xs. h.gave ++ xs) (ap (λ n. take n s.waiting) all ∙ take-add count (s.opened - count) s.waiting)
      ∙ sym (append_assoc h.gave (take count s.waiting) (take (s.opened - count) (drop count s.waiting)))

  pub still_within : s.opened ≤ length s.waiting → s.opened - count ≤ length (drop count s.waiting)
  still_within within = omega (arith, within, length-drop count s.waiting)

pub told_give : ToldAtGive
told_give h s count within t = record {
  bytes = came_given h s count t.bytes;
  opened = still_within h s count t.opened;
  first = t.first;
  visit = subst (λ xs. BeginWith xs h.here []) (open_given h s count within) t.visit;
  in_visit = t.in_visit;
  few = t.few;
  given = t.given;
  below = t.below;
  more = t.more;
}

-- nothing is open
module _ (h : History) (s : ArrivalsState) (none : s.opened ≡ 0) (t : Told h s) where
  nothing_open : take s.opened s.waiting ≡ []
  nothing_open = ap (λ n. take n s.waiting) none

  -- what was given in the visit are its messages
  pub at_rest : BeginWith h.gave h.here []
  at_rest =
      subst (λ xs. BeginWith xs h.here []) (ap (λ xs. h.gave ++ xs) nothing_open ∙ append-nil h.gave) t.visit

  -- all that came are the messages that were opened, and what waits
  pub came_so_far : BeginWith h.came (h.passed ++ h.here) s.waiting
  came_so_far =
      subst (λ xs. BeginWith xs (h.passed ++ h.here) s.waiting) (sym t.bytes)
      (begin-append (h.earlier ++ h.gave) s.waiting (h.passed ++ h.here) []
      (begin_both h.earlier h.gave h.passed h.here [] t.first at_rest))

pub told_visit : ToldAtVisit
told_visit h s none t = record {
  bytes = t.bytes ∙ ap (λ xs. xs ++ s.waiting) (sym (append-nil (h.earlier ++ h.gave)));
  opened = t.opened;
  first = begin_both h.earlier h.gave h.passed h.here [] t.first (at_rest h s none t);
  visit = nothing_open h s none t;
  in_visit = refl;
  few = omega arith;
  given = omega (arith, t.given, length-append h.passed h.here);
  below = t.below;
  more = t.more;
}

pub visit_is_whole : VisitIsWhole
visit_is_whole h s none t = (
  at_rest h s none t,
  stopped_here h.gave [] h.here 0 (at_rest h s none t) refl (inl (refl, omega arith)),
  omega (arith, t.few, t.in_visit),
  λ empty. subst (λ ms. BeginWith h.gave ms []) empty (at_rest h s none t),
)

pub message_has_bytes : MessageHasBytes
message_has_bytes old new has_ended (may, m, rest, is, goes, below, left) =
    let size : new.opened ≡ length old.waiting - length rest = ap (λ (s : ArrivalsState). s.opened) left in
    omega (arith, size, message_some old.waiting m rest is)

-- a message is opened
module _ (h : History) (s : ArrivalsState) (none : s.opened ≡ 0) (t : Told h s) (m : Message) (rest : List ℕ)
    (is : IsMessage s.waiting m rest) where
  -- its bytes stand behind those of the visit
  pub behind_visit : BeginWith (visit_bytes h (with_message s rest false)) h.here
      (take (length s.waiting - length rest) s.waiting)
  behind_visit = begin-append h.gave (take (length s.waiting - length rest) s.waiting) h.here [] (at_rest h s none t)

  pub one_more : length (h.here ++ m ∷ []) ≡ s.in_visit + 1
  one_more = omega (arith, t.in_visit, length-append h.here (m ∷ []))

  pub opens_more : m.closing ≡ false → BeginWith (visit_bytes h (with_message s rest false)) (h.here ++ m ∷ []) []
  opens_more goes =
      begin_more (visit_bytes h (with_message s rest false)) h.here
      (take (length s.waiting - length rest) s.waiting) m [] behind_visit (message_alone s.waiting m rest is) goes

  pub told_message : m.closing ≡ false → MayOpen s → s.given + 1 < connection_limit
      → Told (after_messages h (m ∷ [])) (with_message s rest false)
  told_message goes may below = record {
    bytes = t.bytes;
    opened = omega arith;
    first = t.first;
    visit = opens_more goes;
    in_visit = sym one_more;
    few = omega (arith, may.1);
    given = omega (arith, t.given, t.in_visit, one_more);
    below = below;
    more = refl;
  }
