-- What a reader finds in the bytes ahead.
use Rattle.std.proofs.Common.{◌≡◌, ℕ, ◌+◌, ◌<◌, ◌≤◌, ◌==◌, ◌||◌, MatchOption, List, ◌++◌, length, drop, take, map, Option, Some, None, refl, ap, sym, ◌∙◌, subst, arith, inl, inr, codes, append_assoc}
use Rattle.std.proofs.lemmas.List.{length-take, length-drop}
use Rattle.std.proofs.lemmas.Bool.{cases_lt}
use Rattle.std.specs.Io.KnownBytes.{prepend_known}
use Rattle.sm_io.proofs.Known.{prepend_known-append}
use Rattle.httparse.specs.declared.spans.HeaderSpan.{HeaderSpan}
use Rattle.httparse.specs.declared.spans.RequestSpans.{RequestSpans}
use Rattle.httparse.specs.Spans.{header_bytes}
use Rattle.sm_http.specs.declared.answer.Message.{Message}
use Rattle.sm_http.specs.declared.answer.Stop.{Stop}
use Rattle.sm_http.specs.declared.answer.Stop.TheVariants as stop
use Rattle.sm_http.specs.declared.owned.Parts.{Parts}
use Rattle.sm_http.specs.declared.reader.Found.{Found}
use Rattle.sm_http.specs.declared.reader.Found.TheVariants as found
use Rattle.sm_http.specs.Heads.{field_of, NameValue}
use Rattle.sm_http.specs.Messages.{message_of, is_closing, asks_to_close, IsMessage, IsPartial}
use Rattle.sm_http.specs.Fronts.{HasHead, IsWholeHead}
use Rattle.sm_http.specs.Ahead.{Moves}
use Rattle.sm_http.specs.Reading.{ReaderState, content, stopped, StopsAt, Stops, Answers, Reads, StaysUnlessReadFault}
use Rattle.sm_http.specs.Waiting.{LacksHead, IsCopy, Finds, FindsMore, StaysUnlessStopFault, StaysUnlessFoundFault}
use Rattle.sm_http.proofs.MessageLemmas.{cut_body, whole_message}
use Rattle.sm_http.proofs.MoreBytesLemmas.{begins-append, begun}
use Rattle.sm_http.proofs.AheadLemmas.{moves_none}

-- A take is made where no head is whole. So where one is in the bytes that were there, none was made.
pub lacks_none : {S : Type 0} (first ahead : List ℕ) (source source' : S)
    → ((LacksHead first → ⊥) → (source ≡ source') × (ahead ≡ first)) → LacksHead ahead → {P : Type 0}
    → (LacksHead first → ⊥) → P
lacks_none first ahead source source' still lacks there = absurd (there (subst LacksHead (still there).1 lacks))

-- the head stays with more bytes
whole_head-append : (bytes more text : List ℕ) (spans : RequestSpans) (headers : List HeaderSpan) (size : ℕ)
    → IsWholeHead bytes text spans headers size → IsWholeHead (bytes ++ more) text spans headers size
whole_head-append bytes more text spans headers size w = record {
  head = record {
    head = w.head.head;
    begins = begins-append bytes more text w.head.head w.head.begins;
    len = w.head.len;
    method = w.head.method;
    path = w.head.path;
    minor = w.head.minor;
    fields = w.head.fields;
    method_within = w.head.method_within;
    path_within = w.head.path_within;
    headers_within = w.head.headers_within;
  };
  whole = w.whole;
  sized = w.sized;
  fits = w.fits;
}

-- the head that was read before more bytes came
module _ (bytes seen new : List ℕ) (end : ℕ) (spans : RequestSpans) (headers : List HeaderSpan) (size : ℕ)
    (before after : Option (List ℕ)) (same : seen ≡ bytes) (inside : end ≤ length bytes)
    (w : IsWholeHead seen (take end seen) spans headers size) (m : Moves bytes new before after) where
  stays : IsWholeHead new (take end bytes) spans headers size
  stays =
      subst (λ xs. IsWholeHead xs (take end bytes) spans headers size) (sym m.grows)
      (whole_head-append bytes m.taken (take end bytes) spans headers size
      (subst (λ xs. IsWholeHead xs (take end xs) spans headers size) same w))

  pub awaited_len : spans.len ≡ end
  awaited_len = stays.head.len ∙ omega (arith, length-take end bytes)

  pub awaited_head : IsWholeHead new (take spans.len new) spans headers size
  awaited_head =
      let text : take end bytes ≡ take spans.len new
      = sym stays.head.begins.front ∙ ap (λ n. take n new) (sym stays.head.len) in
      subst (λ t. IsWholeHead new t spans headers size) text stays

  pub awaited_partial : length new < end + size → IsPartial new
  awaited_partial short =
      cut_body new (take end bytes) spans headers stays.head size stays.whole stays.sized stays.fits
      (omega (arith, short, length-take end bytes))

  -- a head has bytes
  pub awaited_some : 0 < length new
  awaited_some = begun new (take end bytes) stays.head.head stays.head.begins

-- a message whose bytes are not partial is there
pub awaited_there : (bytes seen : List ℕ) (end : ℕ) (spans : RequestSpans) (headers : List HeaderSpan) (size : ℕ)
    → seen ≡ bytes → end ≤ length bytes → IsWholeHead seen (take end seen) spans headers size → (IsPartial bytes → ⊥)
    → end + size ≤ length bytes
awaited_there bytes seen end spans headers size same inside w whole =
    elim (cases_lt (length bytes) (end + size)) [
      | inl short ↦ absurd (whole (awaited_partial bytes seen bytes end spans headers size None None same inside w
          (moves_none bytes bytes None refl) short))
      | inr there ↦ there
    ]

-- the parts of a message are copied
copied : (parts : Parts) (at : ℕ) (m : Message) (bytes : List ℕ)
    → (h : HasHead bytes parts.text.now parts.spans parts.headers.now) → IsCopy parts at m
    → content m ≡ message_of h.head parts.body.now
copied parts at m bytes h c =
    let method : m.method ≡ h.head.method = c.method ∙ h.method in
    let path : m.path ≡ h.head.target = c.path ∙ h.path in
    let fields = c.fields ∙ h.fields in
    let closing : m.closing ≡ is_closing h.head
    = c.closing ∙ ap (λ n. n == 0 || asks_to_close
    (field_of (codes "connection") (map (header_bytes parts.text.now) parts.headers.now))) h.minor
    ∙ ap (λ (xs : List NameValue). h.head.minor == 0 || asks_to_close (field_of (codes "connection") xs)) h.fields in
    let body = c.body in
    cc

-- a whole message is at the front, and its parts are copied
module _ (bytes : List ℕ) (parts : Parts) (at size : ℕ) (m : Message) (left : List ℕ)
    (w : IsWholeHead bytes (take parts.spans.len bytes) parts.spans parts.headers.now size)
    (text : parts.text.now ≡ take parts.spans.len bytes)
    (body : parts.body.now ≡ take size (drop parts.spans.len bytes))
    (room : parts.spans.len + size ≤ length bytes) (c : IsCopy parts at m)
    (rest : left ≡ drop (parts.spans.len + size) bytes) where
  head_in : IsWholeHead bytes parts.text.now parts.spans parts.headers.now size
  head_in = subst (λ t. IsWholeHead bytes t parts.spans parts.headers.now size) (sym text) w

  len_is : length parts.text.now ≡ parts.spans.len
  len_is = sym head_in.head.len

  pub found_message : Finds bytes at (found.Message m (parts.spans.len + size)) left
  found_message =
      let is = whole_message bytes parts.text.now parts.spans parts.headers.now head_in.head size head_in.whole
      head_in.sized head_in.fits (omega (arith, len_is, room)) in
      let named : message_of head_in.head.head (take size (drop (length parts.text.now) bytes)) ≡ content m
      = ap (λ n. message_of head_in.head.head (take size (drop n bytes))) len_is
      ∙ ap (message_of head_in.head.head) (sym body) ∙ sym (copied parts at m bytes head_in.head c) in
      let behind : drop (length parts.text.now + size) bytes ≡ left
      = ap (λ n. drop (n + size) bytes) len_is ∙ sym rest in (
        subst (λ r. IsMessage bytes (content m) r) behind
            (subst (λ x. IsMessage bytes x (drop (length parts.text.now + size) bytes)) named is),
        c.place,
        omega (arith, ap length rest, length-drop (parts.spans.len + size) bytes, room),
      )

-- what is found in all bytes that came

pub found_here : (bytes new : List ℕ) (at : ℕ) (answer : Found) (left : List ℕ) (before after : Option (List ℕ))
    → Moves bytes new before after → Finds new at answer left → FindsMore bytes at answer left before after
found_here bytes new at answer left before after m f =
    (m.taken, m.left, subst (λ xs. Finds xs at answer left) m.grows f)

pub found_stop : (bytes new : List ℕ) (at : ℕ) (why : Stop) (before after : Option (List ℕ))
    → Moves bytes new before after → StopsAt new at why → FindsMore bytes at (found.Stop why) new before after
found_stop bytes new at why before after m s =
    (m.taken, m.left, (subst (λ xs. StopsAt xs at why) m.grows s, m.grows))

pub found_later : (bytes mid : List ℕ) (at : ℕ) (answer : Found) (left : List ℕ)
    (before between after : Option (List ℕ)) → Moves bytes mid before between
    → FindsMore mid at answer left between after
    → FindsMore bytes at answer left before after
found_later bytes mid at answer left before between after m f = (
  m.taken ++ f.0,
  m.left ∙ ap (prepend_known m.taken) f.1 ∙ prepend_known-append m.taken f.0 after,
  subst (λ xs. Finds xs at answer left) (ap (λ xs. xs ++ f.0) m.grows ∙ append_assoc bytes m.taken f.0) f.2,
)

-- a reader that stops answers why

answers_stop : (old : ReaderState) (bytes : List ℕ) (why : Stop) (new : ReaderState) → Stops old bytes why new
    → Answers old bytes (stopped why) new
answers_stop old bytes (stop.Bad kind at) new s = s
answers_stop old bytes stop.End new s = s
answers_stop old bytes (stop.Cut count) new s = s
answers_stop old bytes stop.ReadFault new s = s
answers_stop old bytes stop.Memory new s = s

pub reads_stop : (old : ReaderState) (left : List ℕ) (why : Stop) (before after : Option (List ℕ)) → old.ended ≡ None
    → FindsMore old.ahead old.at (found.Stop why) left before after
    → Reads old (stopped why) (record { ahead = left; at = old.at; ended = Some why }) before after
reads_stop old left why before after none f =
    let kept : ReaderState = record { ahead = left; at = old.at; ended = Some why } in
    let stops : Stops old (old.ahead ++ f.0) why kept
    = (f.2.0, ap (λ (xs : List ℕ). record { ahead = xs; at = old.at; ended = Some why }) f.2.1) in
    subst (λ o. MatchOption o ((taken : List ℕ) × (before ≡ prepend_known taken after)
    × Answers old (old.ahead ++ taken) (stopped why) kept) (λ w. (stopped why ≡ stopped w) × (kept ≡ old))) (sym none)
    (f.0, f.1, answers_stop old (old.ahead ++ f.0) why kept stops)

-- the count stays whatever was found, where it is the same
pub found_stays : (answer : Found) (old new : ℕ) → new ≡ old → StaysUnlessFoundFault answer old new
found_stays (found.Message message used) old new same = same
found_stays (found.Stop (stop.Bad kind at)) old new same = same
found_stays (found.Stop stop.End) old new same = same
found_stays (found.Stop (stop.Cut count)) old new same = same
found_stays (found.Stop stop.ReadFault) old new same = tt
found_stays (found.Stop stop.Memory) old new same = same

-- since an earlier moment, at which the count was the same
pub found_since : (answer : Found) (old now new : ℕ) → now ≡ old → StaysUnlessFoundFault answer now new
    → StaysUnlessFoundFault answer old new
found_since answer old now new same stays = subst (λ n. StaysUnlessFoundFault answer n new) same stays

-- as the reader answers it
pub stop_answered : (why : Stop) (old new : ℕ) → StaysUnlessStopFault why old new
    → StaysUnlessReadFault (stopped why) old new
stop_answered (stop.Bad kind at) old new told = told
stop_answered stop.End old new told = told
stop_answered (stop.Cut count) old new told = told
stop_answered stop.ReadFault old new told = tt
stop_answered stop.Memory old new told = told
