-- A session as far as it has come.
use Rattle.std.proofs.Common.{◌≡◌, ℕ, ◌+◌, ◌-◌, ◌^◌, min, ◌<◌, ◌≤◌, List, [], ◌∷◌, ◌++◌, map, Bool, true, false, refl, sym, ap, inl, arith, length, ◌∙◌, subst, append-nil, append_assoc, length-append}
use Rattle.std.proofs.lemmas.List.{map-append}
use Rattle.std.specs.Io.KnownBytes.{append_known}
use Rattle.sm_base.specs.Faults.{Rose}
use Rattle.sm_model.specs.declared.why.Why.{Why}
use Rattle.sm_account.specs.History.{by_seat}
use Rattle.sm_http.specs.declared.answer.Message.{Message as owned}
use Rattle.sm_http.specs.declared.answer.Next.TheVariants as next
use Rattle.sm_http.specs.declared.answer.Stop.{Stop}
use Rattle.sm_http.specs.declared.reply.Sent.{Sent}
use Rattle.sm_http.specs.Chains.{unread}
use Rattle.sm_http.specs.Framed.{Sends}
use Rattle.sm_http.specs.Messages.{Message}
use Rattle.sm_http.specs.Reading.{ReaderState, content, stopped, Reads}
use Rattle.sm_lock.specs.Story.{Grows}
use Rattle.sm_lock.proofs.Stories.{grows-same, grows-trans}
use Rattle.sm_principal.specs.declared.people.People.{People}
use Rattle.sm_reply.specs.Shown.{Answered}
use Rattle.sm_account.specs.SeatTraces.{History, SeatTrace}
use Rattle.sm_account.proofs.SeatTraceLaws.{Joins, trace_with_one}
use Rattle.sm_session.specs.declared.ended.Ended.{Ended}
use Rattle.sm_session.specs.declared.ended.Ended.TheVariants as ended
use Rattle.sm_session.specs.declared.trace.TraceItem.{TraceItem}
use Rattle.sm_session.specs.Answer.{heard}
use Rattle.sm_session.specs.Endings.{Sides, StopsBy, Finishes, Streamed}
use Rattle.sm_session.specs.Replies.{framed_answer}
use Rattle.sm_session.specs.Sessions.{Place, LocalState, Around, MessageTurn, brought, turn_shape, IsRight, after_turn, seen_after, StandStill, CountsOn, told_of, item_of, TakesTurn, Serves}
use Rattle.sm_session.specs.Streams.{message_limit}
use Rattle.sm_session.specs.Told.{Told, nothing_told, told_both}
use Rattle.sm_session.specs.Turns.{Untouched}
use Rattle.sm_io.proofs.Known.{append_known-nil, told_more}
use Rattle.sm_session.proofs.WireLemmas.{Wire, wire_first, wire_enough, wire_memory, wire_more, wire_cut, wire_stops}

-- what others add to a history may be nothing, and two times in a row are one
grows_join : (seat : ℕ) → Joins (Grows (seat ∷ []))
grows_join seat = record { still = grows-same (seat ∷ []); both = grows-trans (seat ∷ []) }

-- one turn more
seen_more : (seat : ℕ) (from : History) (turns : List MessageTurn) (turn : MessageTurn)
    → seen_after seat from (turns ++ turn ∷ []) ≡ after_turn seat turn
seen_more seat from [] turn = refl
seen_more seat from (t ∷ turns) turn = seen_more seat (after_turn seat t) turns turn

still_more : (seat : ℕ) (from : History) (turns : List MessageTurn) (turn : MessageTurn) → StandStill seat from turns
    → (Untouched (brought turn) → turn.before ≡ seen_after seat from turns)
    → StandStill seat from (turns ++ turn ∷ [])
still_more seat from [] turn still last = (last, tt)
still_more seat from (t ∷ turns) turn still last =
    (still.0, still_more seat (after_turn seat t) turns turn still.1 last)

counts_more : (from : ℕ) (turns : List MessageTurn) (mid : ℕ) (turn : MessageTurn) → CountsOn from turns mid
    → turn.random.before ≡ mid → mid ≤ turn.random.after → CountsOn from (turns ++ turn ∷ []) turn.random.after
counts_more from [] mid turn counts first later = (first ∙ counts, omega (arith, counts, later), refl)
counts_more from (t ∷ turns) mid turn counts first later =
    (counts.0, counts.1, counts_more t.random.after turns mid turn counts.2 first later)

-- the readings and the bytes that were told
readings_more : (turns : List MessageTurn) (turn : MessageTurn)
    → (told_of (turns ++ turn ∷ [])).readings ≡ (told_of turns).readings ++ turn.told.readings
readings_more [] turn = append-nil turn.told.readings
readings_more (t ∷ turns) turn =
    ap (λ xs. t.told.readings ++ xs) (readings_more turns turn)
    ∙ sym (append_assoc t.told.readings (told_of turns).readings turn.told.readings)

drawn_more : (turns : List MessageTurn) (turn : MessageTurn)
    → (told_of (turns ++ turn ∷ [])).drawn ≡ (told_of turns).drawn ++ turn.told.drawn
drawn_more [] turn = append-nil turn.told.drawn
drawn_more (t ∷ turns) turn =
    ap (λ xs. t.told.drawn ++ xs) (drawn_more turns turn)
    ∙ sym (append_assoc t.told.drawn (told_of turns).drawn turn.told.drawn)

abbrev messages_of : List MessageTurn → List Message
messages_of turns = map (λ turn. turn.message) turns

abbrev replies_of : List MessageTurn → List Answered
replies_of turns = map (λ turn. turn.reply) turns

-- What was done for some messages: the turns, all but their stream.
pub record Done (people : People) (place : Place) (old now : LocalState) (turns : List MessageTurn)
    (items : List TraceItem) : Type 0 where
  pub seat_trace : SeatTrace turn_shape (Grows (place.seat ∷ [])) place.seat (IsRight people place.base) old.seen turns
      now.seen
  pub last : now.seen ≡ seen_after place.seat old.seen turns
  pub still : StandStill place.seat old.seen turns
  pub readings : now.readings ≡ append_known old.readings (told_of turns).readings
  pub drawn : now.drawn ≡ append_known old.drawn (told_of turns).drawn
  pub random : CountsOn old.random turns now.random
  pub trace : items ≡ map item_of turns

-- as many messages as the number says were answered
pub record SoFar (people : People) (place : Place) (old : Around) (number : ℕ) (now : Around) (reader : ReaderState)
    (count : ℕ) (items : List TraceItem) : Type 0 where
  pub turns : List MessageTurn
  pub size : length turns ≡ number
  pub done : Done people place old.own now.own turns items
  pub wire : Wire old.sides (map (λ turn. turn.message) turns) (map (λ turn. turn.reply) turns) now.sides reader count

-- of the same items
module _ {people : People} {place : Place} {old now : Around} {number : ℕ} {reader : ReaderState} {count : ℕ}
    {items : List TraceItem} where
  pub so_far_listed : {items' : List TraceItem} → items' ≡ items
      → SoFar people place old number now reader count items → SoFar people place old number now reader count items'
  so_far_listed same = subst (λ them. SoFar people place old number now reader count them) (sym same)

module _ (people : People) (place : Place) where
  pub so_far_first : (old : Around) (reader : ReaderState) (items : List TraceItem) → reader ≡ unread → items ≡ []
      → SoFar people place old 0 old reader 0 items
  so_far_first old reader items fresh none = record {
    turns = [];
    size = refl;
    done = record {
      seat_trace = grows-same (place.seat ∷ []) old.own.seen;
      last = refl;
      still = tt;
      readings = sym (append_known-nil old.own.readings);
      drawn = sym (append_known-nil old.own.drawn);
      random = refl;
      trace = none;
    };
    wire = wire_first old.sides reader fresh;
  }

  -- one turn more
  module _ (old now new : LocalState) (turns : List MessageTurn) (items : List TraceItem)
      (done : Done people place old now turns items) (message : Message) (reply : Answered) (item : TraceItem)
      (t : TakesTurn place (heard people message) now new reply item) where
    abbrev pub turn_taken : MessageTurn
    turn_taken = record {
      message = message;
      before = t.taken.before;
      told = t.taken.told;
      reply = reply;
      marks = t.taken.marks;
      random = record { before = now.random; after = new.random };
    }

    pub done_more : Done people place old new (turns ++ turn_taken ∷ []) (items ++ item ∷ [])
    done_more = record {
      seat_trace = subst (SeatTrace turn_shape (Grows (place.seat ∷ [])) place.seat (IsRight people place.base) old.seen
          (turns ++ turn_taken ∷ [])) (sym t.taken.stands)
          (trace_with_one turn_shape (Grows (place.seat ∷ [])) place.seat (IsRight people place.base)
          (grows_join place.seat) old.seen now.seen turns turn_taken done.seat_trace t.taken.gap t.taken.right);
      last = t.taken.stands ∙ sym (seen_more place.seat old.seen turns turn_taken);
      still = still_more place.seat old.seen turns turn_taken done.still (λ none. t.taken.still none ∙ done.last);
      readings = told_more old.readings now.readings new.readings (told_of turns).readings t.taken.told.readings
          done.readings t.taken.readings ∙ ap (append_known old.readings) (sym (readings_more turns turn_taken));
      drawn = told_more old.drawn now.drawn new.drawn (told_of turns).drawn t.taken.told.drawn done.drawn t.taken.drawn
          ∙ ap (append_known old.drawn) (sym (drawn_more turns turn_taken));
      random = counts_more old.random turns now.random turn_taken done.random refl t.taken.later;
      trace = ap (λ xs. xs ++ item ∷ []) done.trace ∙ ap (λ x. map item_of turns ++ x ∷ []) t.traced
          ∙ sym (map-append item_of turns (turn_taken ∷ []));
    }

  -- a session that is done where its stream ended
  serves_by : (old new : Around) (e : Ended) (turns : List MessageTurn) (items : List TraceItem)
      → Done people place old.own new.own turns items
      → Streamed e old.sides new.sides (map (λ turn. turn.message) turns) (map (λ turn. turn.reply) turns)
      → Serves people place old new e items
  serves_by old new e turns items done stream = record {
    turns = turns;
    seat_trace = done.seat_trace;
    still = done.still;
    readings = done.readings;
    drawn = done.drawn;
    random = done.random;
    stream = stream;
    trace = done.trace;
  }

  few_messages : (turns : List MessageTurn) (number : ℕ) → length turns ≡ number
      → length (messages_of turns) ≡ number
  few_messages [] number size = size
  few_messages (t ∷ turns) number size =
      omega (arith, few_messages turns (length turns) refl, size)

  module _ (old : Around) (number : ℕ) (now : Around) (reader : ReaderState) (count : ℕ) (items : List TraceItem)
      (s : SoFar people place old number now reader count items) where
    abbrev messages : List Message
    messages = map (λ turn. turn.message) s.turns

    abbrev replies : List Answered
    replies = map (λ turn. turn.reply) s.turns

    pub session_enough : number ≡ message_limit → Serves people place old now ended.Enough items
    session_enough all = serves_by old now ended.Enough s.turns items s.done
        (wire_enough old.sides now.sides messages replies reader count s.wire
        (few_messages s.turns number s.size ∙ all))

    pub session_memory : number < message_limit → Serves people place old now ended.Memory items
    session_memory few = serves_by old now ended.Memory s.turns items s.done
        (wire_memory old.sides now.sides messages replies reader count s.wire
        (omega (arith, few_messages s.turns number s.size, few)))

    module _ (reader' : ReaderState) (sides : Sides) where
      -- the reader stopped
      pub session_stops : (why : Stop) (e : Ended) → number < message_limit
          → Reads reader (stopped why) reader' now.sides.left sides.left
          → StopsBy reader.ended why now.sides.left sides.left (Rose now.sides.source sides.source)
          → Finishes why count e now.sides.taken sides.taken now.sides.sink sides.sink
          → Serves people place old (record { sides = sides; own = now.own }) e items
      session_stops why e few reads stops finishes =
          serves_by old (record { sides = sides; own = now.own }) e s.turns items s.done
          (wire_stops old.sides now.sides messages replies reader count s.wire reader' sides
          (omega (arith, few_messages s.turns number s.size, few)) why e reads stops finishes)

      -- a message was read, its turn taken, and its reply sent
      module _ (message : owned) (own : LocalState) (reply : Answered) (item : TraceItem)
          (t : TakesTurn place (heard people (content message)) now.own own reply item)
          (reads : Reads reader (next.Message message) reader' now.sides.left sides.left)
          (source : now.sides.source ≤ sides.source) (sink : now.sides.sink ≤ sides.sink) (sent : Sent)
          (sends : Sends sent (framed_answer reply) now.sides.taken sides.taken now.sides.sink sides.sink)
          (count' : ℕ) (counts : count' ≡ min (count + sent.taken) (2 ^ 64 - 1)) where
        abbrev turn : MessageTurn
        turn = turn_taken old.own now.own own s.turns items s.done (content message) reply item t

        abbrev turns' : List MessageTurn
        turns' = s.turns ++ turn ∷ []

        abbrev new : Around
        new = record { sides = sides; own = own }

        done' : Done people place old.own own turns' (items ++ item ∷ [])
        done' = done_more old.own now.own own s.turns items s.done (content message) reply item t

        messages_more : messages ++ content message ∷ [] ≡ messages_of turns'
        messages_more = sym (map-append (λ (t : MessageTurn). t.message) s.turns (turn ∷ []))

        replies_more : replies ++ reply ∷ [] ≡ replies_of turns'
        replies_more = sym (map-append (λ (t : MessageTurn). t.reply) s.turns (turn ∷ []))

        pub so_far_more : sent.whole ≡ true
            → SoFar people place old (number + 1) new reader' count' (items ++ item ∷ [])
        so_far_more whole = record {
          turns = turns';
          size = omega (arith, length-append s.turns (turn ∷ []), s.size);
          done = done';
          wire = subst (λ ms. Wire old.sides ms (replies_of turns') sides reader' count') messages_more
              (subst (λ rs. Wire old.sides (messages ++ content message ∷ []) rs sides reader' count') replies_more
              (wire_more old.sides now.sides messages replies reader count s.wire message reader' sides reads source
              sink reply sent sends count' counts whole));
        }

        -- the sink failed within the reply
        pub session_cut : number < message_limit → sent.whole ≡ false
            → Serves people place old new (ended.WriteFault count') (items ++ item ∷ [])
        session_cut few part = serves_by old new (ended.WriteFault count') turns' (items ++ item ∷ []) done'
            (subst (λ ms. Streamed (ended.WriteFault count') old.sides sides ms (replies_of turns')) messages_more
            (subst (λ rs. Streamed (ended.WriteFault count') old.sides sides (messages ++ content message ∷ []) rs)
            replies_more
            (wire_cut old.sides now.sides messages replies reader count s.wire message reader' sides reads source sink
            reply sent sends count' counts (omega (arith, few_messages s.turns number s.size, few)) part)))
