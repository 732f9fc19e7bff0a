-- What a run gives where nothing of the outside failed.
use Rattle.std.proofs.Common.{◌≡◌, ◌⊎◌, ℕ, ◌<◌, ◌≤◌, List, [], ◌∷◌, ◌++◌, length, take, Option, Some, None, Result, refl, sym, ap, ◌∙◌, subst, append-nil, length-append, inl, inr, arith}
use Rattle.std.proofs.lemmas.List.{take_all}
use Rattle.std.proofs.Math.Seq.{take-append_seam}
use Rattle.std.specs.Io.KnownBytes.{prepend_known, IsAtEnd}
use Rattle.sm_base.specs.Faults.{Rose, Steady}
use Rattle.sm_base.specs.declared.bad_kind.BadKind.{BadKind}
use Rattle.sm_model.specs.declared.why.Why.{Why}
use Rattle.sm_account.specs.States.{Base}
use Rattle.sm_drill.specs.Messages.{messages_of}
use Rattle.sm_http.specs.Messages.{Message, End, Closing, Bad, Rest, Messages}
use Rattle.sm_http.proofs.ChainLemmas.{stays_read}
use Rattle.sm_http.proofs.OneReadingLemmas.{one_reading}
use Rattle.sm_pool.specs.Rounds.{Counts, NoneFell}
use Rattle.sm_pool.proofs.RoundLemmas.{rotated_fell}
use Rattle.sm_reply.specs.Shown.{Answered}
use Rattle.sm_rotation.specs.Vouched.{Replies}
use Rattle.sm_server.specs.declared.status.Status.{Status}
use Rattle.sm_server.specs.declared.status.Status.TheVariants.{Done, Words, Damaged, OpenFault, Memory, People, SinkFault, SourceFault, EdgeFault, Cut, BadMessage, Enough}
use Rattle.sm_principal.specs.declared.people.People.{People as Persons}
use Rattle.sm_principal.specs.Callers.{people_of}
use Rattle.sm_command_line.specs.Reading.{settings_of}
use Rattle.sm_account.specs.SeatTraces.{History}
use Rattle.sm_session.specs.Answer.{Asked, heard}
use Rattle.sm_session.specs.Endings.{joined}
use Rattle.sm_session.specs.Replies.{framed_answer}
use Rattle.sm_session.specs.Streams.{message_limit, StartWith, EndsWell}
use Rattle.sm_session.specs.Told.{Growth}
use Rattle.sm_session.proofs.StreamLemmas.{start_prefix, start_more, no_messages}
use Rattle.sm_session.proofs.TurnLemmas.{turn_weaker}
use Rattle.sm_server.specs.declared.asked.RunTask.{RunTask}
use Rattle.sm_server.specs.declared.asked.RunTask.TheVariants.{Answer, Practise, Ship, Summarize}
use Rattle.sm_server.specs.Asked.{WordsDecide, PeopleDecide}
use Rattle.sm_server.specs.Complete.{NoneFailed, ModelRound, ModelRounds, AnswersEach, ReadsWhole, Orders, Ran}
use Rattle.sm_server.specs.Outside.{Outside, Trace, growth}
use Rattle.sm_server.specs.Ran.{Course, AreAnswered, Answers, EndedAt, Ended, Story, course_of, Runs}
use Rattle.sm_server.specs.Status.{WasOpened}
use Rattle.sm_server.specs.MessageRounds.{MessageRound, MessageRoundOf, seat, marked, counts_first, Brought, MessageRounds}
use Rattle.sm_server.proofs.MessageRoundsLemmas.{counts_last}

-- known bytes in which something was read first
known_parts : (input : List ℕ) (left : Option (List ℕ)) (bytes : List ℕ) → Some bytes ≡ prepend_known input left
    → (rest : List ℕ) × (left ≡ Some rest) × (bytes ≡ input ++ rest)
known_parts input None bytes is = absurd (let h = is in cc)
known_parts input (Some rest) bytes is = (rest, refl, let h : Some bytes ≡ Some (input ++ rest) = is in cc)

-- no count fell
grew : (replies : Replies) (people : Persons) (base : Base) (history : History) (messages : List Message)
    (brought : Brought) → MessageRounds replies people base history messages brought
    → NoneFell (counts_first brought) (counts_last brought)
grew replies people base history [] brought is =
    subst (λ (b : Brought). NoneFell (counts_first b) (counts_last b)) (sym is)
    (record { disk = omega arith; words = omega arith; rotator = omega arith })
grew replies people base history (m ∷ messages) brought (turn, others, turned, goes, more, follow, is) =
    let later = grew replies people base (history ++ marked turn) messages others more in
    subst (λ (b : Brought). NoneFell (counts_first b) (counts_last b)) (sym is) (record {
      disk = omega (arith, goes.fell.disk, ap (λ (c : Counts). c.disk) follow, later.disk);
      words = omega (arith, goes.fell.words, ap (λ (c : Counts). c.words) follow, later.words);
      rotator = omega (arith, goes.fell.rotator, ap (λ (c : Counts). c.rotator) follow, later.rotator);
    })

-- a count that did not rise over a longer time did not rise
steady_within : (from before now to : ℕ) → Steady from to → from ≤ before → now ≤ to → Steady before now
steady_within from before now to steady first last rose = steady (omega (arith, rose, first, last))

-- a turn in which nothing failed
model_turn : (replies : Replies) (base : Base) (history : History) (asked : Result Asked Why) (turn : MessageRound)
    → MessageRoundOf replies base history asked turn → Steady turn.disk.before turn.disk.after
    → Steady turn.random.before turn.random.after → ModelRound replies base history asked turn
model_turn replies base history asked turn t disk random =
    let fell = rotated_fell replies base seat _ t.round _ t.rotated in
    record {
      of = t;
      model = turn_weaker _ ⊥ _ ⊥
          (steady_within turn.disk.before turn.disk.before t.between.disk turn.disk.after disk (omega arith) fell.disk)
          (steady_within turn.random.before turn.random.before t.between.words turn.random.after random (omega arith)
          fell.words) base history asked t.own t.answered;
    }

-- turns in which nothing failed
model_turns : (replies : Replies) (people : Persons) (base : Base) (history : History) (messages : List Message)
    (brought : Brought) → MessageRounds replies people base history messages brought
    → Steady brought.disk.before brought.disk.after → Steady brought.random.before brought.random.after
    → ModelRounds replies people base history messages brought.replies
model_turns replies people base history [] brought is disk random = ap (λ (b : Brought). b.replies) is
model_turns replies people base history (m ∷ messages) brought (turn, others, turned, goes, more, follow, is) disk
    random
    =
    let fell = grew replies people base (history ++ marked turn) messages others more in
    let at : turn.disk.after ≡ others.disk.before = ap (λ (c : Counts). c.disk) follow in
    let at_random : turn.random.after ≡ others.random.before = ap (λ (c : Counts). c.words) follow in
    let d : Steady turn.disk.before others.disk.after =
    subst (λ (b : Brought). Steady b.disk.before b.disk.after) is disk in
    let r : Steady turn.random.before others.random.after =
    subst (λ (b : Brought). Steady b.random.before b.random.after) is random in (
      turn,
      others.replies,
      model_turn replies base history (heard people m) turn turned
          (steady_within turn.disk.before turn.disk.before turn.disk.after others.disk.after d (omega arith)
          (omega (arith, fell.disk, at)))
          (steady_within turn.random.before turn.random.before turn.random.after others.random.after r (omega arith)
          (omega (arith, fell.words, at_random))),
      model_turns replies people base (history ++ marked turn) messages others more
          (steady_within turn.disk.before others.disk.before others.disk.after others.disk.after d
          (omega (arith, goes.fell.disk, at)) (omega arith))
          (steady_within turn.random.before others.random.before others.random.after others.random.after r
          (omega (arith, goes.fell.words, at_random)) (omega arith)),
      ap (λ (b : Brought). b.replies) is,
    )

-- messages that are all, or as many as are answered at most, are the first of all
first_of_all : (messages all : List Message) → messages ≡ all → length messages < message_limit
    → take message_limit all ≡ messages
first_of_all messages all same few =
    ap (take message_limit) (sym same) ∙ take_all message_limit messages (omega (arith, few))

first_of_more : (messages all more : List Message) → all ≡ messages ++ more → length messages ≡ message_limit
    → take message_limit all ≡ messages
first_of_more messages all more is size =
    ap (take message_limit) is ∙ ap (λ n. take n (messages ++ more)) (sym size) ∙ take-append_seam messages more

module _ (course : Course) (before after : Outside) (trace : Trace)
    (disk_is : trace.disk ≡ growth (λ c. c.disk) before after)
    (random_is : trace.random ≡ growth (λ c. c.random) before after) (none : NoneFailed before.counts after.counts)
  where
    -- the replies to messages that were answered, and something behind them, are the model's
    pub answers_model : (messages : List Message) (a : AreAnswered course messages trace)
        → ModelRounds course.replies course.people course.base [] messages a.brought.replies
    answers_model messages a =
        let disk : Steady trace.disk.before trace.disk.after =
        subst (λ (g : Growth). Steady g.before g.after) (sym disk_is) none.disk in
        let random : Steady trace.random.before trace.random.after =
        subst (λ (g : Growth). Steady g.before g.after) (sym random_is) none.random in
        model_turns course.replies course.people course.base [] messages a.brought a.turns
        (steady_within trace.disk.before a.brought.disk.before a.brought.disk.after trace.disk.after disk a.disk.0
        a.disk.1)
        (subst (λ (g : Growth). Steady g.before g.after) a.random random)

    each_of : (input : List ℕ) (messages : List Message) (a : AreAnswered course messages trace) (more : List ℕ)
        → trace.written ≡ joined a.brought.replies ++ more
        → ((all : List Message) (end : End) → Messages input 0 all end → take message_limit all ≡ messages)
        → AnswersEach course input trace.written
    each_of input messages a more writes first all end are = (
      a.brought.replies,
      more,
      subst (λ ms. ModelRounds course.replies course.people course.base [] ms a.brought.replies)
          (sym (first all end are))
          (answers_model messages a),
      writes,
    )

    -- the replies alone were written
    alone : (replies : List Answered) → trace.written ≡ joined replies → trace.written ≡ joined replies ++ []
    alone replies writes = writes ∙ sym (append-nil (joined replies))

    one_of : (input : List ℕ) (messages : List Message) (end : End) → Messages input 0 messages end
        → length messages < message_limit → (all : List Message) (other : End) → Messages input 0 all other
        → take message_limit all ≡ messages
    one_of input messages end are few all other others =
        first_of_all messages all (one_reading input 0 messages all end other are others).0 few

    -- where nothing was read no message was
    each_none : (input : List ℕ) → input ≡ [] → AnswersEach course input trace.written
    each_none input nothing all end are =
        let none : all ≡ [] = no_messages all end (subst (λ bytes. Messages bytes 0 all end) nothing are) in
        let no : List Answered = [] in
        let turns : ModelRounds course.replies course.people course.base [] (take message_limit all) no =
        subst (λ ms. ModelRounds course.replies course.people course.base [] (take message_limit ms) no) (sym none)
        refl in
        (no, trace.written, turns, refl)

    module _ (sink_is : trace.sink ≡ growth (λ c. c.sink) before after)
        (source_is : trace.source ≡ growth (λ c. c.source) before after) (input : List ℕ) (left : Option (List ℕ)) where
      no_sink_fault : Rose trace.sink.before trace.sink.after → ⊥
      no_sink_fault rose = none.sink (subst (λ (g : Growth). Rose g.before g.after) sink_is rose)

      no_source_fault : Rose trace.source.before trace.source.after → ⊥
      no_source_fault rose = none.source (subst (λ (g : Growth). Rose g.before g.after) source_is rose)

      each_done : Answers course Done input left trace → AnswersEach course input trace.written
      each_done e =
          each_of input e.messages e.answered [] (alone e.answered.brought.replies e.ends.1)
          (elim e.ends.2 [
            | inl closed ↦ one_of input e.messages Closing closed e.ends.0
            | inr rest ↦ one_of input e.messages (Rest 0) rest.0 e.ends.0
          ])

      each_answered : (status : Status) → Answers course status input left trace → (status ≡ Memory → ⊥)
          → AnswersEach course input trace.written
      each_answered Done e other = each_done e
      each_answered Words e other = absurd e.ends
      each_answered (Damaged at entry) e other = absurd e.ends
      each_answered OpenFault e other = absurd e.ends
      each_answered Memory e other = absurd (other refl)
      each_answered (People line) e other = absurd e.ends
      each_answered (SinkFault counted) e other = absurd (no_sink_fault e.ends.1)
      each_answered SourceFault e other = absurd (no_source_fault e.ends.4)
      each_answered EdgeFault e other = absurd e.ends
      each_answered (Cut n) e other =
          each_of input e.messages e.answered [] (alone e.answered.brought.replies e.ends.1)
          (one_of input e.messages (Rest n) e.ends.2 e.ends.0)
      each_answered (BadMessage at) e other =
          let bad = e.ends.1.1 in
          each_of input e.messages e.answered (framed_answer bad.last) bad.writes
          (one_of input e.messages (Bad e.ends.0 bad.place) bad.ends e.ends.1.0)
      each_answered Enough e other =
          each_of input e.messages e.answered [] (alone e.answered.brought.replies e.ends.1)
          (λ all end are. let more = start_prefix input e.messages all end e.ends.2 are in
          first_of_more e.messages all more.0 more.1 e.ends.0)

      each_at : (task : RunTask) (status : Status) → EndedAt task course status input left trace → (status ≡ Memory → ⊥)
          → AnswersEach course input trace.written
      each_at Answer status e other = each_answered status e other
      each_at Summarize status e other = each_none input e.unread
      each_at (Practise number) status e other = each_none input e.unread
      each_at (Ship position) status e other = each_none input e.unread

      pub each_by : (status : Status) → Ended course status input left trace → (status ≡ Memory → ⊥)
          → AnswersEach course input trace.written
      each_by Done e other = each_at course.task Done e other
      each_by Words e other = each_none input e.0
      each_by (Damaged at entry) e other = each_none input e.0
      each_by OpenFault e other = each_none input e.0
      each_by Memory e other = absurd (other refl)
      each_by (People line) e other = each_none input e.0
      each_by (SinkFault counted) e other = each_at course.task (SinkFault counted) e other
      each_by SourceFault e other = each_at course.task SourceFault e other
      each_by EdgeFault e other = each_at course.task EdgeFault e other
      each_by (Cut n) e other = each_at course.task (Cut n) e other
      each_by (BadMessage at) e other = each_at course.task (BadMessage at) e other
      each_by Enough e other = each_at course.task Enough e other

      -- the source's bytes are those that were read and the rest
      module _ (rest : List ℕ) (all : List Message) (end : End) (are : Messages (input ++ rest) 0 all end)
          (well : EndsWell end) (few : length all < message_limit) (left_is : left ≡ Some rest) where
        not_cut : (n : ℕ) (messages : List Message) → Messages input 0 messages (Rest n) → 0 < n → IsAtEnd left → ⊥
        not_cut n messages others some at_end =
            let nothing : rest ≡ [] = subst IsAtEnd left_is at_end in
            let whole : Messages input 0 all end =
            subst (λ bytes. Messages bytes 0 all end) (ap (λ xs. input ++ xs) nothing ∙ append-nil input) are in
            let same : end ≡ Rest n = (one_reading input 0 all messages end (Rest n) whole others).1 in
            let zero : n ≡ 0 = subst EndsWell same well in
            omega (arith, zero, some)

        not_bad : (kind : BadKind) (place : ℕ) (messages : List Message) → Messages input 0 messages (Bad kind place)
            → ⊥
        not_bad kind place messages others =
            let stays : Messages (input ++ rest) 0 messages (Bad kind place) =
            stays_read input rest 0 messages (Bad kind place) tt others in
            subst EndsWell (one_reading (input ++ rest) 0 all messages end (Bad kind place) are stays).1 well

        not_enough : (messages : List Message) → StartWith input messages → length messages ≡ message_limit → ⊥
        not_enough messages start size =
            let more = start_prefix (input ++ rest) messages all end (start_more input rest messages start) are in
            omega (arith, ap length more.1, length-append messages more.0, size, few)

        whole_answered : (status : Status) → Answers course status input left trace
            → (status ≡ Done) ⊎ (status ≡ Memory)
        whole_answered Done e = inl refl
        whole_answered Words e = absurd e.ends
        whole_answered (Damaged at entry) e = absurd e.ends
        whole_answered OpenFault e = absurd e.ends
        whole_answered Memory e = inr refl
        whole_answered (People line) e = absurd e.ends
        whole_answered (SinkFault counted) e = absurd (no_sink_fault e.ends.1)
        whole_answered SourceFault e = absurd (no_source_fault e.ends.4)
        whole_answered EdgeFault e = absurd e.ends
        whole_answered (Cut n) e = absurd (not_cut n e.messages e.ends.2 e.ends.3 e.ends.4)
        whole_answered (BadMessage at) e = absurd (not_bad e.ends.0 e.ends.1.1.place e.messages e.ends.1.1.ends)
        whole_answered Enough e = absurd (not_enough e.messages e.ends.2 e.ends.0)

        whole_at : (task : RunTask) → task ≡ Answer → (status : Status) → EndedAt task course status input left trace
            → (status ≡ Done) ⊎ (status ≡ Memory)
        whole_at Answer is status e = whole_answered status e
        whole_at Summarize is status e = absurd (let h : Summarize ≡ Answer = is in cc)
        whole_at (Practise number) is status e = absurd (let h : Practise number ≡ Answer = is in cc)
        whole_at (Ship position) is status e = absurd (let h : Ship position ≡ Answer = is in cc)

        whole_of : course.task ≡ Answer → (status : Status) → WasOpened status
            → Ended course status input left trace → (status ≡ Done) ⊎ (status ≡ Memory)
        whole_of answers Done opened e = inl refl
        whole_of answers Words opened e = absurd opened
        whole_of answers (Damaged at entry) opened e = absurd opened
        whole_of answers OpenFault opened e = absurd opened
        whole_of answers Memory opened e = inr refl
        whole_of answers (People line) opened e = absurd opened
        whole_of answers (SinkFault counted) opened e = whole_at course.task answers (SinkFault counted) e
        whole_of answers SourceFault opened e = whole_at course.task answers SourceFault e
        whole_of answers EdgeFault opened e = whole_at course.task answers EdgeFault e
        whole_of answers (Cut n) opened e = whole_at course.task answers (Cut n) e
        whole_of answers (BadMessage at) opened e = whole_at course.task answers (BadMessage at) e
        whole_of answers Enough opened e = whole_at course.task answers Enough e

      pub whole_by : (status : Status) → WasOpened status → Ended course status input left trace
          → (first : Option (List ℕ)) → first ≡ prepend_known input left → ReadsWhole course.task status first
      whole_by status opened e first reads answers bytes known (all, end, are, well, few) =
          let parts = known_parts input left bytes (sym known ∙ reads) in
          whole_of parts.0 all end (subst (λ xs. Messages xs 0 all end) parts.2 are) well few parts.1 answers status
          opened e

-- a run under these orders that ended so
unfoldable pub ran_by : (replies : Replies) (orders : Orders) (status : Status) (before after : Outside) (story : Story)
    → WordsDecide status (settings_of orders.words) story.task
    → PeopleDecide status (people_of orders.people) story.people
    → Runs (course_of replies story) status before after → Ran replies orders status before after story
ran_by replies orders status before after story decide people runs =
    let course : Course = course_of replies story in
    record {
      words_decide = decide;
      people_decide = people;
      runs = runs;
      each = λ none other. each_by course before after runs.trace runs.passed.disk_count runs.passed.random_count none
          runs.passed.sink_count runs.passed.source_count runs.input after.left status runs.ended other;
      practised = λ none number drills.
          answers_model course before after (record runs.trace { told = drills.told }) runs.passed.disk_count
          runs.passed.random_count none (messages_of number drills.count) drills.answered;
      whole = λ none opened. whole_by course before after runs.trace runs.passed.disk_count runs.passed.random_count
          none runs.passed.sink_count runs.passed.source_count runs.input after.left status opened runs.ended
          before.left runs.reads;
    }
