-- The messages that a reader gives one after the other, and those of all bytes that it read.
use Rattle.std.proofs.Common.{◌≡◌, ◌⊎◌, ℕ, ◌-◌, ◌+◌, ◌<◌, min, Bool, true, false, MatchBool, MatchOption, List, [], ◌∷◌, ◌++◌, length, Option, None, Some, refl, sym, ap, ◌∙◌, subst, append-nil, inl, inr, arith, if◌then◌else◌}
use Rattle.std.specs.Prelude.{IfNone}
use Rattle.std.specs.Io.KnownBytes.{prepend_known}
use Rattle.sm_base.specs.declared.bad_kind.BadKind.{BadKind}
use Rattle.sm_http.specs.declared.answer.Message.{Message as owned}
use Rattle.sm_http.specs.declared.answer.Next.{Next}
use Rattle.sm_http.specs.declared.answer.Next.TheVariants as next
use Rattle.sm_http.specs.declared.answer.Stop.TheVariants as stop
use Rattle.sm_http.specs.Chains.{BeginWith, Gave, unread}
use Rattle.sm_http.specs.Messages.{Message, IsMessage, End, Closing, Bad, Rest, Ends, Messages}
use Rattle.sm_http.specs.Reading.{ReaderState, content, last_place, stopped, Answers, Reads}
use Rattle.sm_http.proofs.ChainLemmas.{begin-append, goes_on, gave_nothing, stays_read}
use Rattle.sm_http.proofs.MessageLemmas.{message_unique, bad_is_no_message, partial_is_no_message}
use Rattle.sm_http.proofs.OneReadingLemmas.{one_reading}
use Rattle.sm_session.specs.Streams.{StartWith}
use Rattle.sm_io.proofs.Known.{prepend_known-append, prepend_known-nil}

-- the reader goes on after these messages of the bytes that were read, or the last of them closed the stream
abbrev pub StandsAfter : List ℕ → List Message → ReaderState → Type 0
StandsAfter read messages reader = Gave read messages reader
    ⊎ (Messages read 0 messages Closing × (reader.ended ≡ Some stop.End))

-- these messages were given of the bytes that a source had at first, and that is left of them
pub record GivenSoFar (first : Option (List ℕ)) (messages : List Message) (reader : ReaderState)
    (left : Option (List ℕ)) : Type 0 where
  pub read : List ℕ
  pub reads : first ≡ prepend_known read left
  pub stands : StandsAfter read messages reader

-- nothing was read
pub given_none : (left : Option (List ℕ)) → GivenSoFar left [] unread left
given_none left = record { read = []; reads = sym (prepend_known-nil left); stands = inl gave_nothing }

-- a reader whose stream was closed answers that it ended, and takes nothing
closed_again : (old new : ReaderState) (answer : Next) (before after : Option (List ℕ)) → old.ended ≡ Some stop.End
    → Reads old answer new before after → answer ≡ next.End
closed_again old new answer before after ended reads =
    (subst (λ o. MatchOption o ((taken : List ℕ) × (before ≡ prepend_known taken after)
    × Answers old (old.ahead ++ taken) answer new) (λ why. (answer ≡ stopped why) × (new ≡ old))) ended reads).0

-- what an answer says of the bytes that were read until then, where the reader had not ended
module _ (first : Option (List ℕ)) (messages : List Message) (old new : ReaderState) (before after : Option (List ℕ))
    (g : GivenSoFar first messages old before) where
  -- what was read before and what was taken now
  both : (taken : List ℕ) → before ≡ prepend_known taken after → first ≡ prepend_known (g.read ++ taken) after
  both taken e = g.reads ∙ ap (prepend_known g.read) e ∙ prepend_known-append g.read taken after

  -- after a message that closes the stream no other answer than the end comes
  open_yet : (answer : Next) → Reads old answer new before after → (answer ≡ next.End → ⊥) → Gave g.read messages old
  open_yet answer reads other =
      elim g.stands [
        | inl gave ↦ gave
        | inr closed ↦ absurd (other (closed_again old new answer before after closed.1 reads))
      ]

  -- whether the message closes the stream says where the reader stands after it
  after_message : (m : owned) (read : List ℕ) (closing : Bool) → m.closing ≡ closing
      → new.ended ≡ (if closing then Some stop.End else None)
      → MatchBool closing (Messages read 0 (messages ++ content m ∷ []) Closing)
      (Gave read (messages ++ content m ∷ []) new)
      → StandsAfter read (messages ++ content m ∷ []) new
  after_message m read true is ended closed = inr (closed, ended)
  after_message m read false is ended gave = inl gave

  ended_by : (m : owned) → Gave g.read messages old → Reads old (next.Message m) new before after
      → new.ended ≡ (if m.closing then Some stop.End else None)
  ended_by m gave reads =
      let answers = subst (λ o. MatchOption o ((taken : List ℕ) × (before ≡ prepend_known taken after)
      × Answers old (old.ahead ++ taken) (next.Message m) new)
      (λ why. (next.Message m ≡ stopped why) × (new ≡ old))) gave.more reads in
      ap (λ (s : ReaderState). s.ended) answers.2.3

  -- a message is one more
  pub given_more : (m : owned) → Reads old (next.Message m) new before after
      → GivenSoFar first (messages ++ content m ∷ []) new after
  given_more m reads =
      let gave : Gave g.read messages old =
      open_yet (next.Message m) reads (λ e. absurd (let h : next.Message m ≡ next.End = e in cc)) in
      let moved = goes_on g.read messages old new (next.Message m) before after gave reads in
      record {
        read = g.read ++ moved.0;
        reads = both moved.0 moved.1;
        stands = after_message m (g.read ++ moved.0) m.closing refl (ended_by m gave reads) moved.2;
      }

  -- another answer than the end comes only of a reader that had not ended
  pub given_open : (answer : Next) → Reads old answer new before after → (answer ≡ next.End → ⊥) → (P : Type 0)
      → IfNone old.ended P → P
  given_open answer reads other P there = subst (λ o. IfNone o P) (open_yet answer reads other).more there

  pub given_bad : (kind : BadKind) (at : ℕ) → Reads old (next.Bad kind at) new before after
      → (read : List ℕ) × (first ≡ prepend_known read after)
      × (place : ℕ) × Messages read 0 messages (Bad kind place) × (at ≡ min place last_place)
  given_bad kind at reads =
      let gave = open_yet (next.Bad kind at) reads (λ e. absurd (let h : next.Bad kind at ≡ next.End = e in cc)) in
      let moved = goes_on g.read messages old new (next.Bad kind at) before after gave reads in
      (g.read ++ moved.0, both moved.0 moved.1, moved.2.0, moved.2.1, moved.2.2)

  pub given_cut : (n : ℕ) → Reads old (next.Cut n) new before after
      → (read : List ℕ) × (first ≡ prepend_known read after) × Messages read 0 messages (Rest n) × (0 < n)
  given_cut n reads =
      let gave = open_yet (next.Cut n) reads (λ e. absurd (let h : next.Cut n ≡ next.End = e in cc)) in
      let moved = goes_on g.read messages old new (next.Cut n) before after gave reads in
      (g.read ++ moved.0, both moved.0 moved.1, moved.2.0, moved.2.1)

  pub given_fault : Reads old next.ReadFault new before after
      → (read : List ℕ) × (first ≡ prepend_known read after) × (n : ℕ) × Messages read 0 messages (Rest n)
  given_fault reads =
      let gave = open_yet next.ReadFault reads (λ e. absurd (let h : next.ReadFault ≡ next.End = e in cc)) in
      let moved = goes_on g.read messages old new next.ReadFault before after gave reads in
      (g.read ++ moved.0, both moved.0 moved.1, length new.ahead, moved.2)

  pub given_memory : Reads old next.Memory new before after
      → (read : List ℕ) × (first ≡ prepend_known read after) × StartWith read messages
  given_memory reads =
      let gave = open_yet next.Memory reads (λ e. absurd (let h : next.Memory ≡ next.End = e in cc)) in
      let moved = goes_on g.read messages old new next.Memory before after gave reads in (
        g.read ++ moved.0,
        both moved.0 moved.1,
        inl (old.ahead ++ moved.0, begin-append g.read moved.0 messages old.ahead gave.begin),
      )

  -- the end comes after a message that closes the stream too
  pub given_end : (P : Type 0) → MatchOption old.ended P (λ _. after ≡ before) → Reads old next.End new before after
      → (read : List ℕ) × (first ≡ prepend_known read after)
      × (Messages read 0 messages Closing ⊎ (Messages read 0 messages (Rest 0) × P))
  given_end P there reads =
      elim g.stands [
        | inl gave ↦
            let moved = goes_on g.read messages old new next.End before after gave reads in
            let p : P = subst (λ o. MatchOption o P (λ _. after ≡ before)) gave.more there in
            (g.read ++ moved.0, both moved.0 moved.1, inr (moved.2, p))
        | inr closed ↦
            let same : after ≡ before = subst (λ o. MatchOption o P (λ _. after ≡ before)) closed.1 there in
            (g.read, g.reads ∙ ap (prepend_known g.read) (sym same), inl closed.0)
      ]

-- the messages that were given begin the bytes that were read
pub given_start : (first : Option (List ℕ)) (messages : List Message) (reader : ReaderState)
    (left : Option (List ℕ)) (g : GivenSoFar first messages reader left) → StartWith g.read messages
given_start first messages reader left g =
    elim g.stands [ inl gave ↦ inl (reader.ahead, gave.begin) | inr closed ↦ inr closed.0 ]

no_message_at_end : (bytes : List ℕ) (at : ℕ) (end : End) (m : Message) (rest : List ℕ) → Ends bytes at end
    → IsMessage bytes m rest → ⊥
no_message_at_end bytes at Closing m rest e is = e
no_message_at_end bytes at (Bad kind n) m rest e is = bad_is_no_message bytes kind m rest e.1 is
no_message_at_end bytes at (Rest n) m rest e is = partial_is_no_message bytes m rest e.1 is

begin_prefix : (bytes : List ℕ) (at : ℕ) (messages : List Message) (rest : List ℕ) (all : List Message) (end : End)
    → BeginWith bytes messages rest → Messages bytes at all end → (more : List Message) × (all ≡ messages ++ more)
begin_prefix bytes at [] rest all end begin are = (all, refl)
begin_prefix bytes at (m ∷ ms) rest [] end (behind, is, goes, begin) are =
    absurd (no_message_at_end bytes at end m behind are is)
begin_prefix bytes at (m ∷ ms) rest (n ∷ ns) end (behind, is, goes, begin) (behind', other, after) =
    let first = message_unique bytes m n behind behind' is other in
    let same : m ≡ n = first.0 in
    let next : ℕ = at + (length bytes - length behind') in
    let open' : n.closing ≡ false = sym (ap (λ (x : Message). x.closing) same) ∙ goes in
    let others : Messages behind' next ns end = subst (λ c. MatchBool c ((ns ≡ []) × (end ≡ Closing))
    (Messages behind' next ns end)) open' after in
    let more = begin_prefix behind' next ms rest ns end (subst (λ xs. BeginWith xs ms rest) first.1 begin) others in
    (more.0, ap (λ xs. n ∷ xs) more.1 ∙ ap (λ x. x ∷ (ms ++ more.0)) (sym same))

-- messages that begin the bytes are the first of all messages of them
pub start_prefix : (bytes : List ℕ) (messages all : List Message) (end : End) → StartWith bytes messages
    → Messages bytes 0 all end → (more : List Message) × (all ≡ messages ++ more)
start_prefix bytes messages all end (inl begin) are = begin_prefix bytes 0 messages begin.0 all end begin.1 are
start_prefix bytes messages all end (inr closed) are =
    ([], sym (one_reading bytes 0 messages all Closing end closed are).0 ∙ sym (append-nil messages))

-- and of more bytes
pub start_more : (bytes more : List ℕ) (messages : List Message) → StartWith bytes messages
    → StartWith (bytes ++ more) messages
start_more bytes more messages (inl begin) =
    inl (begin.0 ++ more, begin-append bytes more messages begin.0 begin.1)
start_more bytes more messages (inr closed) = inr (stays_read bytes more 0 messages Closing tt closed)

-- no bytes have no message
pub no_messages : (all : List Message) (end : End) → Messages [] 0 all end → all ≡ []
no_messages all end are =
    let none : List Message = [] in
    let ends : Messages [] 0 none (Rest 0) = (refl, inl (refl, omega arith)) in
    (one_reading [] 0 all none end (Rest 0) are ends).0
