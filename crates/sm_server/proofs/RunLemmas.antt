-- A run as far as it has come.
use Rattle.std.proofs.Common.{◌≡◌, ℕ, ◌+◌, ◌-◌, ◌^◌, min, ◌<◌, ◌≤◌, List, [], ◌∷◌, ◌++◌, true, false, refl, sym, ap, arith, length, ◌∙◌, subst, length-append}
use Rattle.std.specs.Io.KnownBytes.{append_known}
use Rattle.sm_base.specs.Faults.{Rose}
use Rattle.sm_model.specs.declared.entry.Mark.{Mark}
use Rattle.sm_rotation.specs.Vouched.{Replies}
use Rattle.sm_table.specs.Sound.{Sound}
use Rattle.sm_core.specs.Histories.{replay}
use Rattle.sm_account.specs.History.{entries_in, by_seat}
use Rattle.sm_account.specs.States.{Base}
use Rattle.sm_store.specs.Held.{Held}
use Rattle.sm_http.specs.declared.answer.Message.{Message as owned}
use Rattle.sm_http.specs.declared.answer.Next.TheVariants as next
use Rattle.sm_http.specs.declared.answer.Stop.{Stop}
use Rattle.sm_http.specs.declared.reply.Sent.{Sent}
use Rattle.sm_http.specs.Chains.{unread}
use Rattle.sm_http.specs.Framed.{Sends}
use Rattle.sm_http.specs.Messages.{Message}
use Rattle.sm_http.specs.Reading.{ReaderState, content, stopped, Reads}
use Rattle.sm_pool.specs.Rounds.{Counts, NoneFell}
use Rattle.sm_principal.specs.declared.people.People.{People}
use Rattle.sm_reply.specs.Shown.{Answered}
use Rattle.sm_account.specs.SeatTraces.{History}
use Rattle.sm_session.specs.declared.ended.Ended.{Ended}
use Rattle.sm_session.specs.declared.ended.Ended.TheVariants as ended
use Rattle.sm_session.specs.Answer.{heard}
use Rattle.sm_session.specs.Endings as streams
use Rattle.sm_session.specs.Endings.{Sides, StopsBy, Finishes, Streamed}
use Rattle.sm_session.specs.Replies.{framed_answer}
use Rattle.sm_session.specs.Sessions.{LocalState}
use Rattle.sm_session.specs.Streams.{message_limit}
use Rattle.sm_session.specs.Told.{Told, Growth, Within}
use Rattle.sm_io.proofs.Known.{append_known-nil, told_more}
use Rattle.sm_session.proofs.WireLemmas.{Wire, wire_first, wire_enough, wire_stops, wire_more, wire_cut}
use Rattle.sm_server.specs.declared.asked.RunTask.TheVariants.{Answer}
use Rattle.sm_server.specs.Brought.{Brings}
use Rattle.sm_server.specs.Outside.{Outside, sides_of, growth, Trace, Passed}
use Rattle.sm_server.specs.Ran.{Course, AreAnswered, passage_of, Ended as RunEnded, Runs}
use Rattle.sm_server.specs.Status.{status_of, WasOpened}
use Rattle.sm_server.specs.MessageRounds.{seat, TakesMessageRound, MessageRound, MessageRoundOf, Brought, GoesWell, brought_nothing, counts_before}
use Rattle.sm_server.proofs.MessageRoundsLemmas.{counts_last, turns_more, with_last}

-- what passed between two states of the outside, where this was written and told
abbrev pub trace_of : Outside → Outside → List ℕ → Told → Trace
trace_of before after written told = record {
  written = written;
  told = told;
  source = growth (λ c. c.source) before after;
  sink = growth (λ c. c.sink) before after;
  disk = growth (λ c. c.disk) before after;
  random = growth (λ c. c.random) before after;
  rotator = growth (λ c. c.rotator) before after;
}

-- what passed, where this was written and told
pub passed_by : (before after : Outside) (written : List ℕ) (told : Told)
    → after.taken ≡ append_known before.taken written → after.readings ≡ append_known before.readings told.readings
    → after.drawn ≡ append_known before.drawn told.drawn
    → Passed before after (trace_of before after written told)
passed_by before after written told taken readings drawn = record {
  writes = taken;
  clock = readings;
  random = drawn;
  source_count = refl;
  sink_count = refl;
  disk_count = refl;
  random_count = refl;
  rotator_count = refl;
}

-- a point of a run: what the outside tells, what the reader holds, the history, and how many bytes are counted
pub record Point : Type 0 where
  pub now : Outside
  pub reader : ReaderState
  pub history : History
  pub count : ℕ

-- from before to the point so many messages were read and answered
pub record Progress (replies : Replies) (people : People) (base : Base) (before : Outside) (number : ℕ) (at : Point) :
    Type 0 where
  pub messages : List Message
  pub size : length messages ≡ number
  pub brought : Brought
  pub brings : Brings replies people base before at.now at.history messages brought
  pub wire : Wire (sides_of before) messages brought.replies (sides_of at.now) at.reader at.count

abbrev pub first_point : Outside → ReaderState → History → Point
first_point outside reader history = record { now = outside; reader = reader; history = history; count = 0 }

-- the counts that turns can raise
abbrev pub counts_in : Outside → Counts
counts_in outside = record {
  disk = outside.counts.disk;
  words = outside.counts.random;
  rotator = outside.counts.rotator;
}

pub progress_first : (replies : Replies) (people : People) (base : Base) (outside : Outside) (reader : ReaderState)
    (history : History) → reader ≡ unread → history ≡ []
    → Progress replies people base outside 0 (first_point outside reader history)
progress_first replies people base outside reader history fresh none = record {
  messages = [];
  size = refl;
  brought = brought_nothing (counts_in outside);
  brings = record {
    turns = refl;
    disk = refl;
    random = refl;
    rotator = refl;
    stands = none;
    readings = sym (append_known-nil outside.readings);
    drawn = sym (append_known-nil outside.drawn);
  };
  wire = wire_first (sides_of outside) reader fresh;
}

-- a step of a run: the outside and the history before a message's turn and after it, and its reply
pub record Step : Type 0 where
  pub now : Outside
  pub history : History
  pub message : owned
  pub after : Outside
  pub history' : History
  pub reply : Answered

-- the turn of a reply, where this was told for it, with these marks
abbrev pub turn_in : Step → Told → List Mark → MessageRound
turn_in s told marks = record {
  told = told;
  reply = s.reply;
  marks = marks;
  disk = growth (λ c. c.disk) s.now s.after;
  random = growth (λ c. c.random) s.now s.after;
  rotator = growth (λ c. c.rotator) s.now s.after;
}

-- the local state of a run's only caller
abbrev pub local_state_in : Outside → History → LocalState
local_state_in outside history = record {
  seen = history;
  readings = outside.readings;
  drawn = outside.drawn;
  random = outside.counts.random;
}

-- a message's turn
abbrev pub Turned : Replies → People → Base → Step → Type 0
Turned replies people base s = TakesMessageRound replies base (heard people (content s.message))
    (local_state_in s.now s.history) (local_state_in s.after s.history') (growth (λ c. c.disk) s.now s.after)
    (growth (λ c. c.rotator) s.now s.after) s.reply

-- what holds after it
pub record Later (base : Base) (s : Step) : Type 0 where
  pub fell : NoneFell (counts_in s.now) (counts_in s.after)
  pub sound : Sound (replay base.rows (entries_in s.history'))

-- a message's turn is one more
module _ (replies : Replies) (people : People) (base : Base) (before : Outside) (s : Step) (messages : List Message)
    (brought : Brought) (b : Brings replies people base before s.now s.history messages brought)
    (turned : Turned replies people base s) (later : Later base s) where
  abbrev one : MessageRound
  one = turn_in s turned.told turned.marks

  abbrev pub brought_more : Brought
  brought_more = with_last brought one

  history_now : s.history' ≡ brought_more.history
  history_now = turned.stands ∙ ap (λ h. h ++ by_seat seat turned.marks) b.stands

  well : GoesWell base brought.history one
  well = record {
    fell = later.fell;
    sound = subst (λ h. Sound (replay base.rows (entries_in h))) history_now later.sound;
  }

  -- the turn follows what was brought
  follows : counts_last brought ≡ counts_before one
  follows =
      let of : ℕ → ℕ → ℕ → Counts = λ disk words rotator. record { disk = disk; words = words; rotator = rotator } in
      ap (λ (g : Growth). of g.after brought.random.after brought.rotator.after) (sym b.disk)
      ∙ ap (λ (g : Growth). of s.now.counts.disk g.after brought.rotator.after) (sym b.random)
      ∙ ap (λ (g : Growth). of s.now.counts.disk s.now.counts.random g.after) (sym b.rotator)

  pub brings_more : Brings replies people base before s.after s.history' (messages ++ content s.message ∷ [])
      brought_more
  brings_more = record {
    turns = turns_more one replies people base (content s.message) [] messages brought
        (subst (λ h. MessageRoundOf replies base h (heard people (content s.message)) one) b.stands turned.turn)
        follows well b.turns;
    disk = ap (λ (g : Growth). record { before = g.before; after = s.after.counts.disk }) b.disk;
    random = ap (λ (g : Growth). record { before = g.before; after = s.after.counts.random }) b.random;
    rotator = ap (λ (g : Growth). record { before = g.before; after = s.after.counts.rotator }) b.rotator;
    stands = history_now;
    readings = told_more before.readings s.now.readings s.after.readings brought.told.readings turned.told.readings
        b.readings turned.readings;
    drawn = told_more before.drawn s.now.drawn s.after.drawn brought.told.drawn turned.told.drawn
        b.drawn turned.drawn;
  }

-- the run ends as its stream does
module _ (replies : Replies) (people : People) (base : Base) (held : Held) (before after : Outside) (history : History)
    (messages : List Message) (brought : Brought)
    (b : Brings replies people base before after history messages brought) where
  abbrev course : Course
  course = record {
    task = Answer;
    replies = replies;
    people = people;
    base = base;
    held = held;
    history = history;
  }

  abbrev answered : (written : List ℕ) → AreAnswered course messages (trace_of before after written brought.told)
  answered written = record {
    brought = brought;
    turns = b.turns;
    history = b.stands;
    told = refl;
    disk = subst (λ (g : Growth). Within g (growth (λ c. c.disk) before after)) b.disk (omega arith, omega arith);
    random = b.random;
    rotator = b.rotator;
  }

  ended_by : (e : Ended) (input written : List ℕ)
      → streams.EndsBy e (passage_of input after.left messages brought.replies
      (trace_of before after written brought.told))
      → RunEnded course (status_of e) input after.left (trace_of before after written brought.told)
  ended_by ended.Closed input written ends =
      record { messages = messages; answered = answered written; ends = ends }
  ended_by (ended.Cut bytes) input written ends =
      record { messages = messages; answered = answered written; ends = ends }
  ended_by (ended.Bad kind place) input written ends =
      record { messages = messages; answered = answered written; ends = (kind, ends) }
  ended_by ended.Enough input written ends =
      record { messages = messages; answered = answered written; ends = ends }
  ended_by ended.ReadFault input written ends =
      record { messages = messages; answered = answered written; ends = ends }
  ended_by (ended.WriteFault taken) input written ends =
      record { messages = messages; answered = answered written; ends = ends }
  ended_by ended.Memory input written ends =
      record { messages = messages; answered = answered written; ends = ends }

  pub runs_by : (e : Ended) → Streamed e (sides_of before) (sides_of after) messages brought.replies
      → Runs course (status_of e) before after
  runs_by e s = record {
    input = s.input;
    trace = trace_of before after s.written brought.told;
    reads = s.reads;
    passed = passed_by before after s.written brought.told s.writes b.readings b.drawn;
    ended = ended_by e s.input s.written s.ends;
  }

pub status_opened : (e : Ended) → WasOpened (status_of e)
status_opened ended.Closed = tt
status_opened (ended.Cut bytes) = tt
status_opened (ended.Bad kind place) = tt
status_opened ended.Enough = tt
status_opened ended.ReadFault = tt
status_opened (ended.WriteFault taken) = tt
status_opened ended.Memory = tt

-- the outside where only the two sides of the stream moved
abbrev pub moved : Outside → Sides → Outside
moved now sides = record {
  left = sides.left;
  taken = sides.taken;
  readings = now.readings;
  drawn = now.drawn;
  counts = record {
    source = sides.source;
    sink = sides.sink;
    disk = now.counts.disk;
    random = now.counts.random;
    rotator = now.counts.rotator;
  };
}

module _ (replies : Replies) (people : People) (base : Base) (before : Outside) (number : ℕ) (at : Point)
    (p : Progress replies people base before number at) where
  -- a course with this history
  abbrev pub course_with : Held → History → Course
  course_with held history = record {
    task = Answer;
    replies = replies;
    people = people;
    base = base;
    held = held;
    history = history;
  }

  brings_moved : (sides : Sides) → Brings replies people base before (moved at.now sides) at.history p.messages
      p.brought
  brings_moved sides = record {
    turns = p.brings.turns;
    disk = p.brings.disk;
    random = p.brings.random;
    rotator = p.brings.rotator;
    stands = p.brings.stands;
    readings = p.brings.readings;
    drawn = p.brings.drawn;
  }

  -- as many messages were answered as are answered at most
  pub run_enough : number ≡ message_limit → (held : Held)
      → Runs (course_with held at.history) (status_of ended.Enough) before at.now
  run_enough all held =
      runs_by replies people base held before at.now at.history p.messages p.brought p.brings ended.Enough
      (wire_enough (sides_of before) (sides_of at.now) p.messages p.brought.replies at.reader at.count p.wire
      (p.size ∙ all))

  module _ (reader' : ReaderState) where
    -- the reader stopped
    pub run_stops : (sides : Sides) (why : Stop) (e : Ended) → number < message_limit
        → Reads at.reader (stopped why) reader' at.now.left sides.left
        → StopsBy at.reader.ended why at.now.left sides.left (Rose at.now.counts.source sides.source)
        → at.now.counts.source ≤ sides.source
        → Finishes why at.count e at.now.taken sides.taken at.now.counts.sink sides.sink
        → (held : Held) → Runs (course_with held at.history) (status_of e) before (moved at.now sides)
    run_stops sides why e few reads stops later finishes held =
        runs_by replies people base held before (moved at.now sides) at.history p.messages p.brought
        (brings_moved sides) e
        (wire_stops (sides_of before) (sides_of at.now) p.messages p.brought.replies at.reader at.count p.wire reader'
        sides (omega (arith, p.size, few)) why e reads stops finishes)

    -- a message was read, and its reply sent
    module _ (s : Step) (from_is : s.now ≡ at.now) (history_is : s.history ≡ at.history)
        (turned : Turned replies people base s) (later : Later base s)
        (reads : Reads at.reader (next.Message s.message) reader' at.now.left s.after.left)
        (source : at.now.counts.source ≤ s.after.counts.source) (sink : at.now.counts.sink ≤ s.after.counts.sink)
        (sent : Sent)
        (sends : Sends sent (framed_answer s.reply) at.now.taken s.after.taken at.now.counts.sink s.after.counts.sink)
        (count' : ℕ) (counts : count' ≡ min (at.count + sent.taken) (2 ^ 64 - 1)) where
      abbrev brings_here : Brings replies people base before s.now s.history p.messages p.brought
      brings_here = subst (λ h. Brings replies people base before s.now h p.messages p.brought) (sym history_is)
          (subst (λ o. Brings replies people base before o at.history p.messages p.brought) (sym from_is) p.brings)

      brings_now : Brings replies people base before s.after s.history' (p.messages ++ content s.message ∷ [])
          (brought_more replies people base before s p.messages p.brought brings_here turned later)
      brings_now = brings_more replies people base before s p.messages p.brought brings_here turned later

      pub progress_more : sent.whole ≡ true → Progress replies people base before (number + 1)
          (record { now = s.after; reader = reader'; history = s.history'; count = count' })
      progress_more whole = record {
        messages = p.messages ++ content s.message ∷ [];
        size = omega (arith, length-append p.messages (content s.message ∷ []), p.size);
        brought = brought_more replies people base before s p.messages p.brought brings_here turned later;
        brings = brings_now;
        wire = wire_more (sides_of before) (sides_of at.now) p.messages p.brought.replies at.reader at.count p.wire
            s.message reader' (sides_of s.after) reads source sink s.reply sent sends count' counts whole;
      }

      -- the sink failed within the reply
      pub run_cut : number < message_limit → sent.whole ≡ false → (held : Held)
          → Runs (course_with held s.history') (status_of (ended.WriteFault count')) before s.after
      run_cut few part held =
          runs_by replies people base held before s.after s.history' (p.messages ++ content s.message ∷ [])
          (brought_more replies people base before s p.messages p.brought brings_here turned later) brings_now
          (ended.WriteFault count')
          (wire_cut (sides_of before) (sides_of at.now) p.messages p.brought.replies at.reader at.count p.wire
          s.message reader' (sides_of s.after) reads source sink s.reply sent sends count' counts
          (omega (arith, p.size, few)) part)
