-- A reader's messages, one after the other, are those of all that it read.
use Rattle.std.proofs.Common.{◌≡◌, ℕ, ◌+◌, ◌-◌, ◌<◌, ◌≤◌, min, Bool, true, false, MatchBool, MatchOption, if◌then◌else◌, List, [], ◌∷◌, ◌++◌, length, Some, None, refl, ap, sym, ◌∙◌, subst, arith, inl, length-append}
use Rattle.std.specs.Io.KnownBytes.{prepend_known}
use Rattle.sm_base.specs.declared.bad_kind.BadKind.{BadKind}
use Rattle.sm_http.specs.declared.answer.Stop.TheVariants as stop
use Rattle.sm_http.specs.declared.answer.Next.{Next}
use Rattle.sm_http.specs.declared.answer.Next.TheVariants as next
use Rattle.sm_http.specs.Messages.{Message, IsMessage, StartsBadly, IsPartial, End, Closing, Bad, Rest, Ends, Messages}
use Rattle.sm_http.specs.Reading.{ReaderState, content, stopped, last_place, further, Answers}
use Rattle.sm_http.specs.Chains.{BeginWith, Gave, unread, Continues, GoesOn, IsFinal, StaysRead}
use Rattle.sm_http.proofs.MessageLemmas.{message_rest}
use Rattle.sm_http.proofs.MoreBytesLemmas.{begun_text, message-append, bad-append}

-- what is behind a message is shorter
shorter : (bytes : List ℕ) (m : Message) (rest : List ℕ) → IsMessage bytes m rest → length rest ≤ length bytes
shorter bytes m rest is = omega (arith, (message_rest bytes m rest is).2)

ahead_shorter : (bytes : List ℕ) (ms : List Message) (ahead : List ℕ) → BeginWith bytes ms ahead
    → length ahead ≤ length bytes
ahead_shorter bytes [] ahead b = omega (arith, ap length b)
ahead_shorter bytes (m ∷ ms) ahead (rest, is, goes, b) =
    omega (arith, shorter bytes m rest is, ahead_shorter rest ms ahead b)

-- more bytes come behind those ahead
pub begin-append : (bytes more : List ℕ) (ms : List Message) (ahead : List ℕ) → BeginWith bytes ms ahead
    → BeginWith (bytes ++ more) ms (ahead ++ more)
begin-append bytes more [] ahead b = ap (λ xs. xs ++ more) b
begin-append bytes more (m ∷ ms) ahead (rest, is, goes, b) =
    (rest ++ more, message-append bytes more m rest is, goes, begin-append rest more ms ahead b)

-- one more message
pub begin_more : (bytes : List ℕ) (ms : List Message) (ahead : List ℕ) (m : Message) (rest : List ℕ)
    → BeginWith bytes ms ahead → IsMessage ahead m rest → m.closing ≡ false → BeginWith bytes (ms ++ m ∷ []) rest
begin_more bytes [] ahead m rest b is goes = (rest, subst (λ xs. IsMessage xs m rest) (sym b) is, goes, refl)
begin_more bytes (n ∷ ms) ahead m rest (behind, first, open', b) is goes =
    (behind, first, open', begin_more behind ms ahead m rest b is goes)

-- the messages, and then the end
pub begin_end : (bytes : List ℕ) (at : ℕ) (ms : List Message) (ahead : List ℕ) (end : End) → BeginWith bytes ms ahead
    → Ends ahead (at + (length bytes - length ahead)) end → Messages bytes at ms end
begin_end bytes at [] ahead end b e =
    let place : at + (length bytes - length ahead) ≡ at = omega (arith, ap length b) in
    subst (λ xs. Ends xs at end) (sym b) (subst (λ n. Ends ahead n end) place e)
begin_end bytes at (m ∷ ms) ahead end (rest, is, goes, b) e =
    let next : ℕ = at + (length bytes - length rest) in
    let place : at + (length bytes - length ahead) ≡ next + (length rest - length ahead)
    = omega (arith, shorter bytes m rest is, ahead_shorter rest ms ahead b) in (
      rest,
      is,
      subst (λ c. MatchBool c ((ms ≡ []) × (end ≡ Closing)) (Messages rest next ms end)) (sym goes)
          (begin_end rest next ms ahead end b (subst (λ n. Ends ahead n end) place e)),
    )

-- the messages, and a last one that closes the stream
pub begin_closing : (bytes : List ℕ) (at : ℕ) (ms : List Message) (ahead : List ℕ) (m : Message) (rest : List ℕ)
    → BeginWith bytes ms ahead → IsMessage ahead m rest → m.closing ≡ true → Messages bytes at (ms ++ m ∷ []) Closing
begin_closing bytes at [] ahead m rest b is closes =
    let nothing : List Message = [] in (
      rest,
      subst (λ xs. IsMessage xs m rest) (sym b) is,
      subst (λ c. MatchBool c ((nothing ≡ []) × (Closing ≡ Closing))
          (Messages rest (at + (length bytes - length rest)) nothing Closing)) (sym closes) (refl, refl),
    )
begin_closing bytes at (n ∷ ms) ahead m rest (behind, first, goes, b) is closes =
    let next : ℕ = at + (length bytes - length behind) in (
      behind,
      first,
      subst (λ c. MatchBool c ((ms ++ m ∷ [] ≡ []) × (Closing ≡ Closing))
          (Messages behind next (ms ++ m ∷ []) Closing)) (sym goes)
          (begin_closing behind next ms ahead m rest b is closes),
    )

pub gave_nothing : Gave [] [] unread
gave_nothing = record { begin = refl; place = refl; more = refl }

-- a message goes on, or is the last one
module _ (read ahead : List ℕ) (ms : List Message) (m : Message) (rest : List ℕ) (goes : Type 0)
    (b : BeginWith read ms ahead) (is : IsMessage ahead m rest) where
  went_on : (closing : Bool) → m.closing ≡ closing → (m.closing ≡ false → goes)
      → MatchBool closing (Messages read 0 (ms ++ m ∷ []) Closing) goes
  went_on true closes further = begin_closing read 0 ms ahead m rest b is closes
  went_on false stays further = further stays

-- where the bytes stop
pub stopped_here : (read ahead : List ℕ) (ms : List Message) (n : ℕ) → BeginWith read ms ahead → n ≡ length ahead
    → IsPartial ahead → Messages read 0 ms (Rest n)
stopped_here read ahead ms n b size partial = begin_end read 0 ms ahead (Rest n) b (size, partial)

nothing_ahead : (ahead : List ℕ) → ahead ≡ [] → IsPartial ahead
nothing_ahead ahead none = subst IsPartial (sym none) (inl (refl, omega arith))

module _ (read : List ℕ) (ms : List Message) (old : ReaderState) (taken : List ℕ) (g : Gave read ms old) where
  grown : BeginWith (read ++ taken) ms (old.ahead ++ taken)
  grown = begin-append read taken ms old.ahead g.begin

  size_is : length (old.ahead ++ taken) ≡ length old.ahead + length taken
  size_is = length-append old.ahead taken

  place_is : old.at ≡ min (length (read ++ taken) - length (old.ahead ++ taken)) last_place
  place_is =
      let same : length (read ++ taken) - length (old.ahead ++ taken) ≡ length read - length old.ahead
      = omega (arith, length-append read taken, size_is) in
      g.place ∙ ap (λ n. min n last_place) (sym same)

  continues : (answer : Next) (new : ReaderState) → Answers old (old.ahead ++ taken) answer new
      → Continues (read ++ taken) ms answer new
  continues (next.Message owned) new (rest, is, at, kept) =
      let m = content owned in
      let held : new.ahead ≡ rest = ap (λ (s : ReaderState). s.ahead) kept in
      let moved = ap (λ (s : ReaderState). s.at) kept in
      let ended = ap (λ (s : ReaderState). s.ended) kept in
      went_on (read ++ taken) (old.ahead ++ taken) ms m rest (Gave (read ++ taken) (ms ++ m ∷ []) new) grown is
      m.closing refl
      (λ stays. record {
        begin = subst (λ xs. BeginWith (read ++ taken) (ms ++ m ∷ []) xs) (sym held)
            (begin_more (read ++ taken) ms (old.ahead ++ taken) m rest grown is stays);
        place = omega (
          arith,
          moved,
          place_is,
          ap length held,
          shorter (old.ahead ++ taken) m rest is,
          ahead_shorter (read ++ taken) ms (old.ahead ++ taken) grown,
        );
        more = ended ∙ ap (λ c. if c then Some stop.End else None) stays;
      })
  continues (next.Bad kind at) new a =
      let place : ℕ = 0 + (length (read ++ taken) - length (old.ahead ++ taken)) in
      let same : length (read ++ taken) - length (old.ahead ++ taken) ≡ place = omega arith in (
        place,
        begin_end (read ++ taken) 0 ms (old.ahead ++ taken) (Bad kind place) grown (refl, a.0.1),
        a.0.0 ∙ place_is ∙ ap (λ n. min n last_place) same,
      )
  continues next.End new a =
      stopped_here (read ++ taken) (old.ahead ++ taken) ms 0 grown (sym (ap length a.0))
      (nothing_ahead (old.ahead ++ taken) a.0)
  continues (next.Cut count) new a =
      (stopped_here (read ++ taken) (old.ahead ++ taken) ms count grown a.0.0 a.0.2, a.0.1)
  continues next.ReadFault new a =
      stopped_here (read ++ taken) (old.ahead ++ taken) ms (length new.ahead) grown
      (ap (λ (s : ReaderState). length s.ahead) a.1) a.0
  continues next.Memory new a = tt

pub goes_on : GoesOn
goes_on read ms old new answer before after g r =
    let taken = subst (λ o. MatchOption o ((taken : List ℕ) × (before ≡ prepend_known taken after)
    × Answers old (old.ahead ++ taken) answer new) (λ why. (answer ≡ stopped why) × (new ≡ old))) g.more r in
    (taken.0, taken.1, continues read ms old taken.0 g answer new taken.2)

-- the end stays with more bytes

final_end : (bytes more : List ℕ) (at : ℕ) (end : End) → IsFinal end → Ends bytes at end → Ends (bytes ++ more) at end
final_end bytes more at Closing final e = absurd e
final_end bytes more at (Bad kind place) final e = (e.0, bad-append bytes more kind e.1)
final_end bytes more at (Rest n) final e = absurd final

kept_by : (closing : Bool) (a b c : Type 0) → (b → c) → MatchBool closing a b → MatchBool closing a c
kept_by true a b c f h = h
kept_by false a b c f h = f h

pub stays_read : StaysRead
stays_read bytes more at [] end final e = final_end bytes more at end final e
stays_read bytes more at (m ∷ ms) end final (rest, is, others) =
    let size : length (bytes ++ more) - length (rest ++ more) ≡ length bytes - length rest
    = omega (arith, length-append bytes more, length-append rest more) in (
      rest ++ more,
      message-append bytes more m rest is,
      kept_by m.closing ((ms ≡ []) × (end ≡ Closing)) (Messages rest (at + (length bytes - length rest)) ms end)
          (Messages (rest ++ more) (at + (length (bytes ++ more) - length (rest ++ more))) ms end)
          (λ h. subst (λ n. Messages (rest ++ more) (at + n) ms end) (sym size)
          (stays_read rest more (at + (length bytes - length rest)) ms end final h)) others,
    )

-- messages are counted in bytes that are all there

-- so many messages begin the bytes, and the rest is ahead
pub record Counted (bytes : List ℕ) (count : ℕ) (rest : List ℕ) : Type 0 where
  pub messages : List Message
  pub begin : BeginWith bytes messages rest
  pub count_is : count ≡ length messages
  pub room : count + length rest ≤ length bytes

pub none_counted : (bytes : List ℕ) → Counted bytes 0 bytes
none_counted bytes = record { messages = []; begin = refl; count_is = refl; room = omega arith }

module _ (bytes : List ℕ) (count : ℕ) (rest : List ℕ) (c : Counted bytes count rest) where
  module _ (m : Message) (behind : List ℕ) (is : IsMessage rest m behind) where
    one_more : count + 1 ≡ length (c.messages ++ m ∷ [])
    one_more = omega (arith, c.count_is, length-append c.messages (m ∷ []))

    pub counted_shorter : length behind < length rest
    counted_shorter =
        omega (arith, (message_rest rest m behind is).2, begun_text rest is.text is.head is.begins)

    pub counted_more : m.closing ≡ false → Counted bytes (count + 1) behind
    counted_more stays = record {
      messages = c.messages ++ m ∷ [];
      begin = begin_more bytes c.messages rest m behind c.begin is stays;
      count_is = one_more;
      room = omega (arith, c.room, counted_shorter);
    }

    pub counted_last : m.closing ≡ true → (messages : List Message) × (end : End) × Messages bytes 0 messages end
        × (count + 1 ≡ length messages)
    counted_last closes =
        (c.messages ++ m ∷ [], Closing, begin_closing bytes 0 c.messages rest m behind c.begin is closes, one_more)

  pub counted_bad : (kind : BadKind) → StartsBadly rest kind
      → (messages : List Message) × (end : End) × Messages bytes 0 messages end × (count ≡ length messages)
  counted_bad kind bad =
      let place : ℕ = 0 + (length bytes - length rest) in
      (c.messages, Bad kind place, begin_end bytes 0 c.messages rest (Bad kind place) c.begin (refl, bad), c.count_is)

  pub counted_rest : IsPartial rest
      → (messages : List Message) × (end : End) × Messages bytes 0 messages end × (count ≡ length messages)
  counted_rest partial =
      let size : ℕ = length rest in
      (c.messages, Rest size, stopped_here bytes rest c.messages size c.begin refl partial, c.count_is)
