-- What a session gives where nothing failed.
use Rattle.std.proofs.Common.{◌≡◌, ℕ, ◌<◌, ◌≤◌, List, [], ◌∷◌, ◌++◌, length, take, map, Result, Ok, Err, refl, sym, ap, ◌∙◌, subst, inl, inr, arith}
use Rattle.std.proofs.lemmas.List.{take_all}
use Rattle.std.proofs.Math.Seq.{take-append_seam}
use Rattle.sm_base.specs.Faults.{Rose, Steady}
use Rattle.sm_model.specs.declared.why.Why.{Why}
use Rattle.sm_model.specs.declared.entry.Mark.{Mark}
use Rattle.sm_model.specs.declared.entry.Mark.TheVariants.{Fault}
use Rattle.sm_account.specs.States.{Base}
use Rattle.sm_http.specs.Messages.{Message, End, Closing, Bad, Rest, Messages}
use Rattle.sm_http.proofs.OneReadingLemmas.{one_reading}
use Rattle.sm_principal.specs.declared.people.People.{People}
use Rattle.sm_reply.specs.Shown.{Answered}
use Rattle.sm_account.specs.SeatTraces.{History, SeatTrace}
use Rattle.sm_lock.specs.Story.{Grows}
use Rattle.sm_session.specs.declared.ended.Ended.{Ended}
use Rattle.sm_session.specs.declared.ended.Ended.TheVariants as ended
use Rattle.sm_session.specs.declared.trace.TraceItem.{TraceItem}
use Rattle.sm_session.specs.Answer.{Asked, Answer, heard}
use Rattle.sm_session.specs.Complete.{NoneFailed, NoFaults, AreModels, AreFirst, Completes}
use Rattle.sm_session.specs.Endings.{Passage, EndsBy}
use Rattle.sm_session.specs.Sessions.{Place, Around, MessageTurn, brought, turn_shape, IsRight, after_turn, CountsOn, Serves}
use Rattle.sm_session.specs.Streams.{message_limit}
use Rattle.sm_session.specs.Turns.{Turn, AnswersBy, IsTurn}
use Rattle.sm_session.proofs.StreamLemmas.{start_prefix}

-- a turn without a fault
module _ (Cause : Type 0) (answer : Answer) (reply : Answered) (marks : List Mark) (none : marks ≡ Fault ∷ [] → ⊥) where
  no_fault : AnswersBy Cause answer reply marks → AnswersBy ⊥ answer reply marks
  no_fault (inl given) = inl given
  no_fault (inr (inl fault)) = absurd (none fault.1.2)
  no_fault (inr (inr lost)) =
      inr (inr (
        lost.0,
        elim lost.1 [
          | inl made ↦ inl made
          | inr (inl fault) ↦ absurd (none fault.2)
          | inr (inr unmade) ↦ inr (inr unmade)
        ],
      ))

model_turn : (Disk Random : Type 0) (base : Base) (history : History) (wanted : Result Asked Why) (turn : Turn)
    → IsTurn Disk Random base history wanted turn → (turn.marks ≡ Fault ∷ [] → ⊥) → (Random → ⊥)
    → IsTurn ⊥ ⊥ base history wanted turn
model_turn Disk Random base history (Err why) turn t none steady = t
model_turn Disk Random base history (Ok asked) turn (inl r) none steady = inl (record {
  answer = r.answer;
  at = r.at;
  by = no_fault Disk r.answer turn.reply turn.marks none r.by;
})
model_turn Disk Random base history (Ok asked) turn (inr (inl f)) none steady = absurd (steady f.1)
model_turn Disk Random base history (Ok asked) turn (inr (inr n)) none steady = inr (inr n)

-- the count of the random source does not fall
counts_grow : (from : ℕ) (turns : List MessageTurn) (to : ℕ) → CountsOn from turns to → from ≤ to
counts_grow from [] to counts = omega (arith, counts)
counts_grow from (turn ∷ turns) to counts =
    omega (arith, counts.1, counts_grow turn.random.after turns to counts.2)

models : (people : People) (place : Place) (from to : History) (turns : List MessageTurn) (first before after last : ℕ)
    → SeatTrace turn_shape (Grows (place.seat ∷ [])) place.seat (IsRight people place.base) from turns to
    → CountsOn before turns after → first ≤ before → after ≤ last → Steady first last → NoFaults turns
    → AreModels people place.base turns
models people place from to [] first before after last seat_trace counts lower upper steady none = tt
models people place from to (turn ∷ turns) first before after last seat_trace counts lower upper steady none =
    let later = counts_grow turn.random.after turns after counts.2 in (
      model_turn _ _ place.base turn.before (heard people turn.message) (brought turn) seat_trace.1 none.0
          (λ rose. steady (omega (arith, rose, counts.0, lower, later, upper))),
      models people place (after_turn place.seat turn) to turns first turn.random.after after last seat_trace.2 counts.2
          (omega (arith, lower, counts.1)) upper steady none.1,
    )

-- messages that are all, or as many as are answered at most, are the first of all
first_of_all : (messages all : List Message) → messages ≡ all → length messages < message_limit
    → take message_limit all ≡ messages
first_of_all messages all same few =
    ap (take message_limit) (sym same) ∙ take_all message_limit messages (omega (arith, few))

first_of_more : (messages all more : List Message) → all ≡ messages ++ more → length messages ≡ message_limit
    → take message_limit all ≡ messages
first_of_more messages all more is size =
    ap (take message_limit) is ∙ ap (λ n. take n (messages ++ more)) (sym size) ∙ take-append_seam messages more

one_of : (input : List ℕ) (messages : List Message) (end : End) → Messages input 0 messages end
    → length messages < message_limit → (all : List Message) (other : End) → Messages input 0 all other
    → take message_limit all ≡ messages
one_of input messages end are few all other others =
    first_of_all messages all (one_reading input 0 messages all end other are others).0 few

-- where neither side failed, the messages that were answered are the first of all
pub first_messages : (e : Ended) (p : Passage) → EndsBy e p → Steady p.source.before p.source.after
    → Steady p.sink.before p.sink.after → (e ≡ ended.Memory → ⊥) → (all : List Message) (end : End)
    → Messages p.input 0 all end → take message_limit all ≡ p.messages
first_messages ended.Closed p ends source sink other all end are =
    elim ends.2 [
      | inl closed ↦ one_of p.input p.messages Closing closed ends.0 all end are
      | inr rest ↦ one_of p.input p.messages (Rest 0) rest.0 ends.0 all end are
    ]
first_messages (ended.Cut n) p ends source sink other all end are =
    one_of p.input p.messages (Rest n) ends.2 ends.0 all end are
first_messages (ended.Bad kind at) p ends source sink other all end are =
    one_of p.input p.messages (Bad kind ends.1.place) ends.1.ends ends.0 all end are
first_messages ended.Enough p ends source sink other all end are =
    let more = start_prefix p.input p.messages all end ends.2 are in
    first_of_more p.messages all more.0 more.1 ends.0
first_messages ended.ReadFault p ends source sink other all end are = absurd (source ends.4)
first_messages (ended.WriteFault taken) p ends source sink other all end are = absurd (sink ends.1)
first_messages ended.Memory p ends source sink other all end are = absurd (other refl)

module _ {people : People} {place : Place} {old new : Around} {e : Ended} {items : List TraceItem} where
  -- of the same items
  pub listed : {items' : List TraceItem} → items' ≡ items → Serves people place old new e items
      → Serves people place old new e items'
  listed same = subst (λ them. Serves people place old new e them) (sym same)

  pub completes : (session : Serves people place old new e items) → Completes session
  completes session none other faultless = (
    models people place old.own.seen new.own.seen session.turns old.own.random old.own.random new.own.random
        new.own.random session.seat_trace session.random (omega arith) (omega arith) none.random faultless,
    first_messages e _ session.stream.ends none.source none.sink other,
  )
