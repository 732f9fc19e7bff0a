-- Runs that answer the messages of a number.
use Rattle.std.proofs.Common.{◌≡◌, ℕ, ◌≤◌, List, [], ◌∷◌, ◌++◌, Option, Some, None, Ok, Err, suc, ◌+◌, ◌==◌, if◌then◌else◌, refl, sym, ap, ◌∙◌, subst, inl, inr, arith, append-nil, length, length-append, option_map, slice_get}
use Rattle.std.specs.Io.KnownBytes.{append_known}
use Rattle.sm_base.specs.Faults.{Rose}
use Rattle.sm_base.specs.declared.memory.NoMemory.{NoMemory}
use Rattle.sm_base.specs.declared.moment.Moment.{Moment}
use Rattle.sm_account.specs.States.{Base}
use Rattle.sm_recovery.specs.Lawful.{made_of}
use Rattle.sm_store.specs.Held.{Held}
use Rattle.sm_drill.specs.Lines.{lines, lines_of, refused_count, shown_by}
use Rattle.sm_drill.proofs.ReplyLemmas.{got_last, refused_push}
use Rattle.sm_drill.specs.Messages.{message_of, messages_of}
use Rattle.sm_drill.specs.declared.step.TheConstants.{MESSAGES}
use Rattle.sm_principal.specs.declared.people.People.{People as Persons}
use Rattle.sm_reply.specs.Shown.{Answered}
use Rattle.sm_rotation.specs.Vouched.{Replies}
use Rattle.sm_session.specs.declared.said.Said.{Said}
use Rattle.sm_session.specs.Replies.{reply_of}
use Rattle.sm_session.specs.Told.{Told, Growth, Within}
use Rattle.sm_io.proofs.Known.{append_known-nil, prepend_known-nil, told_more}
use Rattle.sm_account.specs.SeatTraces.{History}
use Rattle.sm_server.specs.declared.asked.RunTask.TheVariants.{Practise}
use Rattle.sm_server.specs.declared.drilling.Drilled.{Drilled}
use Rattle.sm_server.specs.declared.status.Status.{Status}
use Rattle.sm_server.specs.declared.status.Status.TheVariants.{Done, Words, Damaged, OpenFault, Memory, People, SinkFault, SourceFault, EdgeFault, Cut, BadMessage, Enough}
use Rattle.sm_server.specs.Brought.{Brings}
use Rattle.sm_server.specs.Checks.{WritesBy}
use Rattle.sm_server.specs.Drills.{AnswersMade, Says, SaysLines, told_then, totals_after}
use Rattle.sm_server.specs.Outside.{Outside, growth, Trace}
use Rattle.sm_server.specs.Ran.{AreAnswered, Course, Ended, Runs}
use Rattle.sm_server.specs.Status.{WasOpened}
use Rattle.sm_http.specs.Reading.{content}
use Rattle.sm_server.specs.MessageRounds.{Brought, brought_nothing}
use Rattle.sm_server.proofs.RunLemmas.{Later, Step, Turned, brings_more, brought_more, counts_in, passed_by, trace_of}

-- the outside where a reading was told, and only the sink moved
abbrev pub spoken : Outside → Option (List ℕ) → Option (List ℕ) → ℕ → Outside
spoken now taken readings sink =
    record now { taken = taken; readings = readings; counts = record now.counts { sink = sink } }

module _ (replies : Replies) (people : Persons) (base : Base) (held : Held) (number : ℕ) (before now : Outside)
    (history : History) (left_is : now.left ≡ before.left) (taken_is : now.taken ≡ before.taken) where
  abbrev course : Course
  course = record {
    task = Practise number;
    replies = replies;
    people = people;
    base = base;
    held = held;
    history = history;
  }

  abbrev entries : ℕ
  entries = (made_of held).entries

  -- what some messages brought, where only the sink moved since
  abbrev answered : (after : Outside) (count : ℕ) (brought : Brought) (written : List ℕ) (all : Told)
      → after.counts.disk ≡ now.counts.disk → after.counts.random ≡ now.counts.random
      → after.counts.rotator ≡ now.counts.rotator
      → Brings replies people base before now history (messages_of number count) brought
      → AreAnswered course (messages_of number count)
      (record (trace_of before after written all) { told = brought.told })
  answered after count brought written all disk random rotator b = record {
    brought = brought;
    turns = b.turns;
    history = b.stands;
    told = refl;
    disk = subst (λ (g : Growth). Within g (growth (λ c. c.disk) before after)) b.disk
        (omega (arith, disk), omega (arith, disk));
    random = ap (λ n. record { before = before.counts.random; after = n }) random ∙ b.random;
    rotator = ap (λ n. record { before = before.counts.rotator; after = n }) rotator ∙ b.rotator;
  }

  -- a message could not be made
  pub run_lacking : (lacks : NoMemory) → AnswersMade replies people base number (Err lacks) before now history
      → Runs course Memory before now
  run_lacking lacks a = record {
    input = [];
    trace = trace_of before now [] a.brought.told;
    reads = sym left_is ∙ sym (prepend_known-nil now.left);
    passed = passed_by before now [] a.brought.told (taken_is ∙ sym (append_known-nil before.taken))
        a.brings.readings a.brings.drawn;
    ended = record {
      unread = refl;
      count = a.count;
      few = a.few;
      told = a.brought.told;
      answered = answered now a.count a.brought [] a.brought.told refl refl refl a.brings;
      ends = record { unwritten = refl; reading = inl refl };
    };
  }

  -- all were made and answered, and then the lines were written, or not where memory ran out
  module _ (drilled : Drilled) (a : AnswersMade replies people base number (Ok drilled) before now history)
      (taken readings : Option (List ℕ)) (sink : ℕ) (moment : Moment) (written : List ℕ)
      (reads : readings ≡ append_known now.readings (moment.0 ∷ []))
      (writes : taken ≡ append_known now.taken written) where
    abbrev after : Outside
    after = spoken now taken readings sink

    abbrev Cause : Type 0
    Cause = Rose before.counts.sink sink

    abbrev totals : List ℕ
    totals = totals_after base entries history moment

    abbrev all : Told
    all = told_then a.brought.told moment

    abbrev trace : Trace
    trace = trace_of before after written all

    -- what was counted makes the lines
    abbrev counted : List ℕ
    counted = lines drilled.refused totals (shown_by (option_map reply_of drilled.last))

    lines_are : counted ≡ lines_of a.brought.replies totals
    lines_are =
        ap (λ refused. lines refused totals (shown_by (option_map reply_of drilled.last))) a.counts.1
        ∙ ap (λ last. lines (refused_count a.brought.replies) totals (shown_by last)) a.counts.2

    says_lines : (status : Status) → WritesBy Cause status counted written
        → SaysLines Cause base entries history a.count a.brought.replies a.brought.told status all written
    says_lines status says = record {
      whole = a.counts.0;
      now = moment;
      reading = refl;
      writes = subst (λ text. WritesBy Cause status text written) lines_are says;
    }

    drills : (status : Status) → Says Cause counted status written
        → Ended course status [] now.left trace
    drills Done says = record {
      unread = refl;
      count = a.count;
      few = a.few;
      told = a.brought.told;
      answered = answered after a.count a.brought written all refl refl refl a.brings;
      ends = says_lines Done says;
    }
    drills (SinkFault put) says = record {
      unread = refl;
      count = a.count;
      few = a.few;
      told = a.brought.told;
      answered = answered after a.count a.brought written all refl refl refl a.brings;
      ends = says_lines (SinkFault put) says;
    }
    drills Memory says = record {
      unread = refl;
      count = a.count;
      few = a.few;
      told = a.brought.told;
      answered = answered after a.count a.brought written all refl refl refl a.brings;
      ends = record { unwritten = says; reading = inr (moment, refl) };
    }
    drills Words says = absurd says
    drills (Damaged at entry) says = absurd says
    drills OpenFault says = absurd says
    drills (People line) says = absurd says
    drills SourceFault says = absurd says
    drills EdgeFault says = absurd says
    drills (Cut bytes) says = absurd says
    drills (BadMessage place) says = absurd says
    drills Enough says = absurd says

    pub run_saying : (status : Status) → Says Cause counted status written
        → Runs course status before after
    run_saying status says = record {
      input = [];
      trace = trace;
      reads = sym left_is ∙ sym (prepend_known-nil now.left);
      passed = passed_by before after written all (writes ∙ ap (λ t. append_known t written) taken_is)
          (told_more before.readings now.readings readings a.brought.told.readings (moment.0 ∷ []) a.brings.readings
          reads)
          (a.brings.drawn ∙ ap (append_known before.drawn) (sym (append-nil a.brought.told.drawn)));
      ended = drills status says;
    }

-- what was written of a text is said
pub says_by : (cause : Type 0) (text written : List ℕ) (status : Status) → WritesBy cause status text written
    → Says cause text status written
says_by cause text written Done writes = writes
says_by cause text written Words writes = absurd writes
says_by cause text written (Damaged at entry) writes = absurd writes
says_by cause text written OpenFault writes = absurd writes
says_by cause text written Memory writes = absurd writes
says_by cause text written (People line) writes = absurd writes
says_by cause text written (SinkFault put) writes = writes
says_by cause text written SourceFault writes = absurd writes
says_by cause text written EdgeFault writes = absurd writes
says_by cause text written (Cut bytes) writes = absurd writes
says_by cause text written (BadMessage place) writes = absurd writes
says_by cause text written Enough writes = absurd writes

pub says_opened : (cause : Type 0) (text written : List ℕ) (status : Status) → Says cause text status written
    → WasOpened status
says_opened cause text written Done says = tt
says_opened cause text written Words says = says
says_opened cause text written (Damaged at entry) says = says
says_opened cause text written OpenFault says = says
says_opened cause text written Memory says = tt
says_opened cause text written (People line) says = says
says_opened cause text written (SinkFault put) says = tt
says_opened cause text written SourceFault says = tt
says_opened cause text written EdgeFault says = tt
says_opened cause text written (Cut bytes) says = tt
says_opened cause text written (BadMessage place) says = tt
says_opened cause text written Enough says = tt

-- ---- as far as a drill has come

-- So many messages of a number were answered, from before to now: what they brought, how many were refused, and the
-- last reply.
pub record Made (replies : Replies) (people : Persons) (base : Base) (number index : ℕ) (before now : Outside)
    (history : History) (refused : ℕ) (last : Option Answered) : Type 0 where
  pub brought : Brought
  pub brings : Brings replies people base before now history (messages_of number index) brought
  pub many : length brought.replies ≡ index
  pub refused_is : refused ≡ refused_count brought.replies
  pub last_is : (place : ℕ) → index ≡ place + 1 → last ≡ slice_get brought.replies place

pub made_first : (replies : Replies) (people : Persons) (base : Base) (number : ℕ) (outside : Outside)
    (history : History) → history ≡ [] → Made replies people base number 0 outside outside history 0 None
made_first replies people base number outside history none = record {
  brought = brought_nothing (counts_in outside);
  brings = record {
    turns = refl;
    disk = refl;
    random = refl;
    rotator = refl;
    stands = none;
    readings = sym (append_known-nil outside.readings);
    drawn = sym (append_known-nil outside.drawn);
  };
  many = refl;
  refused_is = refl;
  last_is = λ place is. absurd (omega (arith, is));
}

messages_next : (number index : ℕ) → messages_of number (index + 1)
    ≡ messages_of number index ++ message_of number index ∷ []
messages_next number index =
    let next : index + 1 ≡ suc index = omega arith in
    ap (messages_of number) next

-- one message more
pub made_more : (replies : Replies) (people : Persons) (base : Base) (number index : ℕ) (before : Outside) (s : Step)
    (refused : ℕ) (last : Option Answered) → Made replies people base number index before s.now s.history refused last
    → Turned replies people base s → Later base s → content s.message ≡ message_of number index
    → (refused' : ℕ) → refused' ≡ refused + (if s.reply.status == 200 then 0 else 1)
    → Made replies people base number (index + 1) before s.after s.history' refused' (Some s.reply)
made_more replies people base number index before s refused last m turned later is refused' counted =
    let so_far = messages_of number index in
    let brought = brought_more replies people base before s so_far m.brought m.brings turned later in
    let more = brings_more replies people base before s so_far m.brought m.brings turned later in
    record {
      brought = brought;
      brings = subst (λ messages. Brings replies people base before s.after s.history' messages brought)
          (ap (λ message. messages_of number index ++ message ∷ []) is ∙ sym (messages_next number index)) more;
      many = omega (arith, length-append m.brought.replies (s.reply ∷ []), m.many);
      refused_is = counted ∙ ap (λ n. n + (if s.reply.status == 200 then 0 else 1)) m.refused_is
          ∙ sym (refused_push m.brought.replies s.reply);
      last_is = λ place is.
          let at : place ≡ length m.brought.replies = omega (arith, is, m.many) in
          sym (ap (slice_get (m.brought.replies ++ s.reply ∷ [])) at ∙ got_last m.brought.replies s.reply);
    }

-- as many were answered as could be made
pub made_lacking : (replies : Replies) (people : Persons) (base : Base) (number index : ℕ) (before now : Outside)
    (history : History) (refused : ℕ) (last : Option Answered) (lacks : NoMemory) → index ≤ MESSAGES
    → Made replies people base number index before now history refused last
    → AnswersMade replies people base number (Err lacks) before now history
made_lacking replies people base number index before now history refused last lacks few m =
    record { count = index; few = few; brought = m.brought; brings = m.brings; counts = tt }

-- all were made and answered
pub made_all : (replies : Replies) (people : Persons) (base : Base) (number index : ℕ) (before now : Outside)
    (history : History) (refused : ℕ) (last : Option Said) → index ≡ MESSAGES
    → Made replies people base number index before now history refused (option_map reply_of last)
    → AnswersMade replies people base number (Ok (record { refused = refused; last = last })) before now history
made_all replies people base number index before now history refused last all m = record {
  count = index;
  few = omega (arith, all);
  brought = m.brought;
  brings = m.brings;
  counts = (all, m.refused_is, m.last_is 9_999 (omega (arith, all)));
}
