-- A stream as far as it has come: what was read and what was written.
use Rattle.std.proofs.Common.{◌≡◌, ℕ, ◌+◌, min, ◌<◌, ◌≤◌, List, [], ◌∷◌, ◌++◌, Bool, true, false, Option, None, refl, sym, ap, inl, inr, arith, length, take, ◌∙◌, subst, append-nil, length-append}
use Rattle.std.proofs.lemmas.Grind.{flat_map-append}
use Rattle.std.proofs.lemmas.List.{take_all, length-take-le}
use Rattle.std.specs.Io.KnownBytes.{prepend_known, append_known, IsAtEnd}
use Rattle.std.specs.Prelude.{MatchBool}
use Rattle.sm_base.specs.Faults.{Rose}
use Rattle.sm_base.specs.declared.bad_kind.BadKind.{BadKind}
use Rattle.sm_http.specs.declared.answer.Message.{Message as owned}
use Rattle.sm_http.specs.declared.answer.Next.{Next}
use Rattle.sm_http.specs.declared.answer.Next.TheVariants as next
use Rattle.sm_http.specs.declared.answer.Stop.{Stop}
use Rattle.sm_http.specs.declared.answer.Stop.TheVariants as stop
use Rattle.sm_http.specs.declared.reply.Sent.{Sent}
use Rattle.sm_http.specs.Chains.{unread}
use Rattle.sm_http.specs.Framed.{Sends}
use Rattle.sm_http.specs.Messages.{Message}
use Rattle.sm_http.specs.Reading.{ReaderState, content, stopped, Reads}
use Rattle.sm_reply.specs.Shown.{Answered}
use Rattle.sm_session.specs.declared.ended.Ended.{Ended}
use Rattle.sm_session.specs.declared.ended.Ended.TheVariants.{Closed, Cut, Bad, Enough, ReadFault, WriteFault, Memory}
use Rattle.sm_session.specs.Endings.{count_limit, Sides, StopsBy, Refuses, Finishes, joined, Passage, CutWithin, EndsBy, Streamed}
use Rattle.sm_session.specs.Replies.{framed_answer}
use Rattle.sm_session.specs.Streams.{message_limit}
use Rattle.sm_io.proofs.Known.{append_known-nil, told_more}
use Rattle.sm_session.proofs.StreamLemmas.{GivenSoFar, given_none, given_more, given_bad, given_cut, given_end, given_fault, given_memory, given_open, given_start}

-- From the first sides on these messages were given, and their replies written. That many bytes are counted.
pub record Wire (first : Sides) (messages : List Message) (replies : List Answered) (now : Sides)
    (reader : ReaderState) (count : ℕ) : Type 0 where
  pub given : GivenSoFar first.left messages reader now.left
  pub taken : now.taken ≡ append_known first.taken (joined replies)
  pub counts : count ≡ min (length (joined replies)) count_limit
  pub source : first.source ≤ now.source
  pub sink : first.sink ≤ now.sink

pub wire_first : (sides : Sides) (reader : ReaderState) → reader ≡ unread → Wire sides [] [] sides reader 0
wire_first sides reader fresh = record {
  given = subst (λ r. GivenSoFar sides.left [] r sides.left) (sym fresh) (given_none sides.left);
  taken = sym (append_known-nil sides.taken);
  counts = refl;
  source = omega arith;
  sink = omega arith;
}

joined_more : (replies : List Answered) (reply : Answered)
    → joined (replies ++ reply ∷ []) ≡ joined replies ++ framed_answer reply
joined_more replies reply = flat_map-append framed_answer replies (reply ∷ [])
    ∙ ap (λ x. joined replies ++ x) (append-nil (framed_answer reply))

-- the sink failed within this reply, so many bytes of which it took
cut_within : (earlier : List Answered) (last : Answered) (size count counted : ℕ)
    → size < length (framed_answer last) → count ≡ min (length (joined earlier)) count_limit
    → counted ≡ min (count + size) count_limit
    → CutWithin earlier last counted (joined earlier ++ take size (framed_answer last))
cut_within earlier last size count counted short before now =
    let part = take size (framed_answer last) in
    let taken : length part ≡ size = length-take-le size (framed_answer last) (omega (arith, short)) in
    let long : length (joined earlier ++ part) ≡ length (joined earlier) + length part =
    length-append (joined earlier) part in
    record { size = size; short = short; writes = refl; counts = omega (arith, before, now, taken, long) }

cut_is_no_end : (n : ℕ) → next.Cut n ≡ next.End → ⊥
cut_is_no_end n is = absurd (let h : next.Cut n ≡ next.End = is in cc)

fault_is_no_end : next.ReadFault ≡ next.End → ⊥
fault_is_no_end is = absurd (let h : next.ReadFault ≡ next.End = is in cc)

-- what a sink took of a reply: all of it, or a part, and then its count rose
abbrev IfWhole : Sent → List ℕ → ℕ → ℕ → Bool → Type 0
IfWhole sent text before after whole =
    MatchBool whole (sent.taken ≡ length text) ((sent.taken < length text) × Rose before after)

module _ (first now : Sides) (messages : List Message) (replies : List Answered) (reader : ReaderState) (count : ℕ)
    (w : Wire first messages replies now reader count) where
  -- what passed, where this was read and written
  abbrev passage_to : Sides → List Message → List Answered → List ℕ → List ℕ → Passage
  passage_to after messages replies input written = record {
    input = input;
    left = after.left;
    messages = messages;
    replies = replies;
    written = written;
    source = record { before = first.source; after = after.source };
    sink = record { before = first.sink; after = after.sink };
  }

  -- as many messages were answered as are answered at most
  pub wire_enough : length messages ≡ message_limit → Streamed Enough first now messages replies
  wire_enough all = record {
    input = w.given.read;
    written = joined replies;
    reads = w.given.reads;
    writes = w.taken;
    ends = (all, refl, given_start first.left messages reader now.left w.given);
  }

  -- there was no memory to go on
  pub wire_memory : length messages < message_limit → Streamed Memory first now messages replies
  wire_memory few = record {
    input = w.given.read;
    written = joined replies;
    reads = w.given.reads;
    writes = w.taken;
    ends = (few, refl, given_start first.left messages reader now.left w.given);
  }

  -- a message was read, and its reply sent
  module _ (m : owned) (reader' : ReaderState) (after : Sides)
      (reads : Reads reader (next.Message m) reader' now.left after.left) (source : now.source ≤ after.source)
      (sink : now.sink ≤ after.sink) (reply : Answered) (sent : Sent)
      (sends : Sends sent (framed_answer reply) now.taken after.taken now.sink after.sink) (count' : ℕ)
      (counts : count' ≡ min (count + sent.taken) count_limit) where
    abbrev messages' : List Message
    messages' = messages ++ content m ∷ []

    abbrev replies' : List Answered
    replies' = replies ++ reply ∷ []

    given' : GivenSoFar first.left messages' reader' after.left
    given' = given_more first.left messages reader reader' now.left after.left w.given m reads

    pub wire_more : sent.whole ≡ true → Wire first messages' replies' after reader' count'
    wire_more whole =
        let text : List ℕ = framed_answer reply in
        let size : sent.taken ≡ length text = subst (IfWhole sent text now.sink after.sink) whole sends.whole in
        let all : take sent.taken text ≡ text = take_all sent.taken text (omega (arith, size)) in
        let more : joined replies' ≡ joined replies ++ text = joined_more replies reply in
        let long : length (joined replies') ≡ length (joined replies) + length text
        = ap length more ∙ length-append (joined replies) text in
        record {
          given = given';
          taken = told_more first.taken now.taken after.taken (joined replies) text w.taken
              (sends.bytes ∙ ap (append_known now.taken) all)
              ∙ ap (append_known first.taken) (sym more);
          counts = omega (arith, counts, w.counts, size, long);
          source = omega (arith, w.source, source);
          sink = omega (arith, w.sink, sink);
        }

    -- the sink failed within the reply
    pub wire_cut : length messages < message_limit → sent.whole ≡ false
        → Streamed (WriteFault count') first after messages' replies'
    wire_cut few part =
        let text : List ℕ = framed_answer reply in
        let cut : (sent.taken < length text) × Rose now.sink after.sink =
        subst (IfWhole sent text now.sink after.sink) part sends.whole in
        let size : length messages' ≡ length messages + 1 = length-append messages (content m ∷ []) in
        let g = given' in
        record {
          input = g.read;
          written = joined replies ++ take sent.taken text;
          reads = g.reads;
          writes = told_more first.taken now.taken after.taken (joined replies) (take sent.taken text) w.taken
              sends.bytes;
          ends = (
            omega (arith, few, size),
            omega (arith, w.sink, cut.1),
            inl (record {
              begin = given_start first.left messages' reader' after.left g;
              earlier = replies;
              last = reply;
              parts = refl;
              within = cut_within replies reply sent.taken count count' cut.0 w.counts counts;
            }),
          );
        }

  -- the reader stopped
  module _ (reader' : ReaderState) (after : Sides) (few : length messages < message_limit) where
    -- nothing more was written
    still : after.taken ≡ now.taken → after.taken ≡ append_known first.taken (joined replies)
    still same = same ∙ w.taken

    -- at a bad message, which gets its reply
    module _ (kind : BadKind) (place : ℕ) (ended : Ended)
        (r : Refuses kind place count ended now.taken after.taken now.sink after.sink)
        (reads : Reads reader (next.Bad kind place) reader' now.left after.left) where
      abbrev text : List ℕ
      text = framed_answer r.last

      abbrev IfEnds : Bool → Type 0
      IfEnds whole =
          MatchBool whole (ended ≡ Bad kind place) (ended ≡ WriteFault (min (count + r.sent.taken) count_limit))

      refused : (whole : Bool) → r.sent.whole ≡ whole → Streamed ended first after messages replies
      refused true is =
          let g = given_bad first.left messages reader reader' now.left after.left w.given kind place reads in
          let size : r.sent.taken ≡ length text =
          subst (IfWhole r.sent text now.sink after.sink) is r.sends.whole in
          let all : take r.sent.taken text ≡ text = take_all r.sent.taken text (omega (arith, size)) in
          let same : ended ≡ Bad kind place = subst IfEnds is r.ends in
          subst (λ e. Streamed e first after messages replies) (sym same) (record {
            input = g.0;
            written = joined replies ++ text;
            reads = g.1;
            writes = told_more first.taken now.taken after.taken (joined replies) text w.taken
                (r.sends.bytes ∙ ap (append_known now.taken) all);
            ends = (
              few,
              record { place = g.2; ends = g.3; at_is = g.4; last = r.last; is = r.is; writes = refl },
            );
          })
      refused false is =
          let g = given_bad first.left messages reader reader' now.left after.left w.given kind place reads in
          let cut : (r.sent.taken < length text) × Rose now.sink after.sink =
          subst (IfWhole r.sent text now.sink after.sink) is r.sends.whole in
          let counted : ℕ = min (count + r.sent.taken) count_limit in
          let same : ended ≡ WriteFault counted = subst IfEnds is r.ends in
          let within = cut_within replies r.last r.sent.taken count counted cut.0 w.counts refl in
          subst (λ e. Streamed e first after messages replies) (sym same) (record {
            input = g.0;
            written = joined replies ++ take r.sent.taken text;
            reads = g.1;
            writes = told_more first.taken now.taken after.taken (joined replies) (take r.sent.taken text) w.taken
                r.sends.bytes;
            ends = (
              omega (arith, few),
              omega (arith, w.sink, cut.1),
              inr (record {
                kind = kind;
                place = g.2;
                ends = g.3;
                fewer = few;
                last = r.last;
                is = r.is;
                within = within;
              }),
            );
          })

    abbrev Stopped : Stop → Type 0
    Stopped why = Reads reader (stopped why) reader' now.left after.left

    -- the stream ends so, where this was read and nothing more written
    ends_so : (ended so : Ended) → ended ≡ so → (input : List ℕ) → first.left ≡ prepend_known input after.left
        → after.taken ≡ now.taken → EndsBy so (passage_to after messages replies input (joined replies))
        → Streamed ended first after messages replies
    ends_so ended so same input reads taken ends =
        subst (λ e. Streamed e first after messages replies) (sym same) (record {
          input = input;
          written = joined replies;
          reads = reads;
          writes = still taken;
          ends = ends;
        })

    pub wire_stops : (why : Stop) (ended : Ended) → Stopped why
        → StopsBy reader.ended why now.left after.left (Rose now.source after.source)
        → Finishes why count ended now.taken after.taken now.sink after.sink
        → Streamed ended first after messages replies
    wire_stops (stop.Bad kind place) ended reads by f = refused kind place ended f reads f.sent.whole refl
    wire_stops stop.End ended reads by f =
        let g = given_end first.left messages reader reader' now.left after.left w.given (IsAtEnd after.left) by reads
        in ends_so ended Closed f.0 g.0 g.1 f.1 (few, refl, g.2)
    wire_stops (stop.Cut n) ended reads by f =
        let g = given_cut first.left messages reader reader' now.left after.left w.given n reads in
        let end = given_open first.left messages reader reader' now.left after.left w.given (next.Cut n) reads
        (cut_is_no_end n) (IsAtEnd after.left) by in
        ends_so ended (Cut n) f.0 g.0 g.1 f.1 (few, refl, g.2, g.3, end)
    wire_stops stop.ReadFault ended reads by f =
        let g = given_fault first.left messages reader reader' now.left after.left w.given reads in
        let failed : Rose now.source after.source = given_open first.left messages reader reader' now.left after.left
        w.given next.ReadFault reads fault_is_no_end (Rose now.source after.source) by in
        let rose : Rose first.source after.source = omega (arith, w.source, failed) in
        ends_so ended ReadFault f.0 g.0 g.1 f.1 (few, refl, g.2, g.3, rose)
    wire_stops stop.Memory ended reads by f =
        let g = given_memory first.left messages reader reader' now.left after.left w.given reads in
        ends_so ended Memory f.0 g.0 g.1 f.1 (few, refl, g.2)
