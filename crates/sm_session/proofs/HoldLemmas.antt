-- One hold of the lock, and the turn that it is a part of.
use Rattle.std.proofs.Common.{◌≡◌, ◌⊎◌, ◌≤◌, ℕ, List, [], ◌∷◌, ◌++◌, length, drop, Some, None, Result, refl, sym, ap, ◌∙◌, subst, inl, inr, append-nil}
use Rattle.sm_base.specs.Faults.{Rose}
use Rattle.sm_base.specs.declared.moment.Moment.{Moment}
use Rattle.sm_model.specs.declared.entry.Mark.{Mark}
use Rattle.sm_model.specs.declared.entry.Mark.TheVariants.{Entry, Fault}
use Rattle.sm_model.specs.declared.why.Why.{Why}
use Rattle.sm_account.specs.Accounts.{base}
use Rattle.sm_account.specs.Handled.{marks_of, OnDiskFault}
use Rattle.sm_account.specs.History.{by_seat}
use Rattle.sm_account.specs.Outcome.{Outcome, Refuses, Replies}
use Rattle.sm_account.specs.declared.handled.Handled.{Handled}
use Rattle.sm_account.specs.declared.handled.Handled.TheVariants as handled
use Rattle.sm_lock.specs.Handles.{number, seen, built, mine, IsIn}
use Rattle.sm_lock.specs.Story.{Grows, entries_of}
use Rattle.sm_lock.specs.declared.gate.Gate.{Gate}
use Rattle.sm_lock.specs.declared.pass.Pass.{Pass}
use Rattle.sm_lock.specs.declared.storied.Storied.{Ghosts}
use Rattle.sm_lock.proofs.Stories.{grows-same}
use Rattle.sm_reply.specs.Shown.{Answered}
use Rattle.sm_account.specs.SeatTraces.{History, SeatTrace, marks_in}
use Rattle.sm_account.proofs.SeatTraceLaws.{trace_mine}
use Rattle.sm_session.specs.declared.said.Said.{Said}
use Rattle.sm_session.specs.declared.trace.TraceItem.{TraceItem}
use Rattle.sm_session.specs.Answer.{Asked}
use Rattle.sm_session.specs.Replies.{reply_of}
use Rattle.sm_session.specs.Sessions.{Place, LocalState, MessageTurn, turn_shape, item_at, TakesTurn, TakesTurnBy}
use Rattle.sm_session.specs.Told.{nothing_told, told_once}
use Rattle.sm_session.specs.Turns.{Untouched, IsTurn}
use Rattle.sm_io.proofs.Known.{append_known-nil}
use Rattle.sm_session.proofs.TurnLemmas.{untouched}

-- an answer leaves one mark at most
one_more : (seat : ℕ) (before after : History) (mark : Mark) → after ≡ before ++ by_seat seat (mark ∷ [])
    → (after ≡ before) ⊎ ((entry : Mark) × (after ≡ before ++ (seat, entry) ∷ []))
one_more seat before after mark is = inr (mark, is)

none_more : (seat : ℕ) (before after : History) → after ≡ before ++ []
    → (after ≡ before) ⊎ ((entry : Mark) × (after ≡ before ++ (seat, entry) ∷ []))
none_more seat before after is = inl (is ∙ append-nil before)

pub at_most_one : (seat : ℕ) (before after : History) (answered : Handled) (wanted : Outcome)
    → after ≡ before ++ by_seat seat (marks_of answered wanted)
    → (after ≡ before) ⊎ ((entry : Mark) × (after ≡ before ++ (seat, entry) ∷ []))
at_most_one seat before after (handled.Answered reply) (Replies wanted (Some entry)) is =
    one_more seat before after (Entry entry) is
at_most_one seat before after (handled.Answered reply) (Replies wanted None) is = none_more seat before after is
at_most_one seat before after (handled.Answered reply) (Refuses why) is = none_more seat before after is
at_most_one seat before after (handled.Refused why) wanted is = none_more seat before after is
at_most_one seat before after handled.DiskFault wanted is = one_more seat before after Fault is
at_most_one seat before after handled.Memory wanted is = none_more seat before after is

-- behind the lock a fault of the disk has no cause but its mark
pub fault_stands : (answered : Handled) → OnDiskFault answered (Unit {0})
fault_stands (handled.Answered reply) = tt
fault_stands (handled.Refused why) = tt
fault_stands handled.DiskFault = tt
fault_stands handled.Memory = tt

-- a turn for which the clock was read is not untouched
pub is_touched : (now : ℕ) (bytes : List ℕ) (reply : Answered) (marks : List Mark) (P : Type 0)
    → Untouched (record { told = told_once now bytes; reply = reply; marks = marks }) → P
is_touched now bytes reply marks P none =
    let readings : now ∷ [] ≡ [] = ap (λ t. t.readings) none.0 in absurd (cc)

-- what a trace has of a turn that reached the account
pub traced_by : (position position' : ℕ) (now : Moment) (drawn : List ℕ) (status status' : ℕ) → position ≡ position'
    → status ≡ status'
    → (let item : TraceItem = record { position = position; moment = now; drawn = drawn; status = status } in item)
    ≡ item_at position' (told_once now.0 drawn) status'
traced_by position position' now drawn status status' placed same =
    let of : ℕ → ℕ → TraceItem = λ position status.
    record { position = position; moment = now; drawn = drawn; status = status } in
    ap (λ p. of p status) placed ∙ ap (of position') same

-- a turn that did not reach the account
pub passed_by : (Gap : History → History → Type 0) (Cause : Type 0) (place : Place) (wanted : Result Asked Why)
    (old new : LocalState) (reply : Answered) → Gap old.seen old.seen → new.seen ≡ old.seen
    → new.readings ≡ old.readings → new.drawn ≡ old.drawn → old.random ≤ new.random
    → IsTurn Cause (Rose old.random new.random) place.base old.seen wanted (untouched reply)
    → TakesTurnBy Gap Cause place wanted old new reply
passed_by Gap Cause place wanted old new reply none seen readings drawn later right = record {
  before = old.seen;
  told = nothing_told;
  marks = [];
  gap = none;
  still = λ untold. refl;
  right = right;
  stands = seen ∙ sym (append-nil old.seen);
  readings = readings ∙ sym (append_known-nil old.readings);
  drawn = drawn ∙ sym (append_known-nil old.drawn);
  later = later;
}

-- the same behind a lock, where this is said
pub passed_behind : (place : Place) (wanted : Result Asked Why) (old new : LocalState) (said said' : Said)
    (item : TraceItem) → new.seen ≡ old.seen → new.readings ≡ old.readings → new.drawn ≡ old.drawn
    → old.random ≤ new.random → said' ≡ said
    → IsTurn (Unit {0}) (Rose old.random new.random) place.base old.seen wanted (untouched (reply_of said))
    → item ≡ item_at (length old.seen) nothing_told (reply_of said').status
    → TakesTurn place wanted old new (reply_of said') item
unfolding passed_by
passed_behind place wanted old new said said' item seen readings drawn later same right traced = record {
  taken = passed_by (Grows (place.seat ∷ [])) (Unit {0}) place wanted old new (reply_of said')
      (grows-same (place.seat ∷ []) old.seen) seen readings drawn later
      (subst (λ (s : Said). IsTurn (Unit {0}) (Rose old.random new.random) place.base old.seen wanted
      (untouched (reply_of s))) (sym same) right);
  traced = traced;
}

-- what a seat's own marks are after a session
module _ {T O : Type 0} {g : Ghosts T O Mark} (gate : Gate T O Mark) (pass after : Pass T O Mark g) where
  pub session_mine : (right : MessageTurn → Type 0) (turns : List MessageTurn) → IsIn gate pass → IsIn gate after
      → number after ≡ number pass
      → SeatTrace turn_shape (Grows (number pass ∷ [])) (number pass) right (seen pass) turns (seen after)
      → mine after ≡ mine pass ++ marks_in turn_shape turns
  session_mine right turns in_gate after_in same seat_trace =
      ap (λ (b : History). entries_of (number after) (drop (length b) (seen after))) (after_in.2 ∙ sym in_gate.2)
      ∙ ap (λ n. entries_of n (drop (length (built pass)) (seen after))) same
      ∙ trace_mine turn_shape (number pass) right (built pass) (seen pass) (seen after) turns pass.begins seat_trace
