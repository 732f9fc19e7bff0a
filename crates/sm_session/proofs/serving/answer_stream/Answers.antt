use Rattle.std.proofs.Common.{◌≡◌, ◌≤◌, List, [], ◌∷◌, ◌++◌, refl, sym, ap, subst, arith, ◌∙◌}
use Rattle.std.proofs.lemmas.Bool.{not-true, not-false}
use Rattle.sm_base.specs.Faults.{Rose}
use Rattle.sm_account.specs.Accounts.{base}
use Rattle.sm_http.specs.declared.answer.Next.TheVariants as next
use Rattle.sm_http.specs.Framed.{Sends}
use Rattle.sm_http.specs.Reading.{Reads, content, stopped}
use Rattle.sm_lock.specs.Handles.{built_with, number, seen}
use Rattle.sm_session.specs.Answer.{heard}
use Rattle.sm_session.specs.declared.ended.Ended.TheVariants as ended
use Rattle.sm_session.specs.declared.trace.TraceItem.{TraceItem}
use Rattle.sm_session.specs.Endings.{Sides, Finishes, StopsBy}
use Rattle.sm_session.specs.Replies.{reply_of, framed_answer}
use Rattle.sm_session.specs.Sessions.{Place, LocalState, Around, Serves, TakesTurn}
use Rattle.sm_session.specs.Views.{around_by, sides_by, local_state_by}
use Rattle.sm_session.proofs.CompleteLemmas.{listed}
use Rattle.sm_session.proofs.SessionLemmas.{so_far_first, so_far_listed, so_far_more, session_cut, session_enough, session_memory, session_stops}
use Rattle.sm_session.proofs.serving.answer_stream.Goals as goal

pub loop-number-init : goal.loop-number-init
loop-number-init g c =
    let place : Place = record { base = base (built_with c.args.gate.now); seat = number c.args.pass } in
    let old : Around = around_by g.K.Source g.K.Sink g.C.Clock g.W.Words (seen c.args.pass) c.args.conn.now
    c.args.clock.now c.args.words.now in
    record {
      gate = c.requires.gate;
      numbered = refl;
      source_later = omega arith;
      sink_later = omega arith;
      random_later = omega arith;
      so_far = so_far_first c.args.people.now place old c.new-reader.result c.args.items.now.items
          c.new-reader.ensures c.requires.fresh;
    }

pub returns-in_default-clause-served : goal.returns-in_default-clause-served
returns-in_default-clause-served g c =
    let i = c.loop-number.invariant in
    let place : Place = record { base = base (built_with c.args.gate.now); seat = number c.args.pass } in
    let old : Around = around_by g.K.Source g.K.Sink g.C.Clock g.W.Words (seen c.args.pass) c.args.conn.now
    c.args.clock.now c.args.words.now in
    let now : Around = around_by g.K.Source g.K.Sink g.C.Clock g.W.Words (seen c.loop-number.pass) c.loop-number.conn
    c.loop-number.clock c.loop-number.words in
    subst (λ (items : List TraceItem). Serves c.args.people.now place old now ended.Memory items)
    (sym c.reserve.ensures.items)
    (session_memory c.args.people.now place old c.loop-number.number now c.loop-number.reader c.loop-number.count
    c.loop-number.items.items i.so_far c.loop-number-test.true)

pub returns-in-Err-clause-served : goal.returns-in-Err-clause-served
returns-in-Err-clause-served g c =
    let i = c.loop-number.invariant in
    let place : Place = record { base = base (built_with c.args.gate.now); seat = number c.args.pass } in
    let old : Around = around_by g.K.Source g.K.Sink g.C.Clock g.W.Words (seen c.args.pass) c.args.conn.now
    c.args.clock.now c.args.words.now in
    let now : Around = around_by g.K.Source g.K.Sink g.C.Clock g.W.Words (seen c.loop-number.pass) c.loop-number.conn
    c.loop-number.clock c.loop-number.words in
    let sides : Sides = sides_by g.K.Source g.K.Sink c.conclude-ended.new.conn in
    let why = c.in-Err.stop in
    let e = c.conclude-ended.result in
    let reads : Reads c.loop-number.reader (stopped why) c.receive.new.reader now.sides.left sides.left =
    subst (λ l. Reads c.loop-number.reader (stopped why) c.receive.new.reader now.sides.left l)
    (sym c.conclude-ended.ensures.left) c.in-Err.ensures.reads in
    let stops : StopsBy c.loop-number.reader.ended why now.sides.left sides.left (Rose now.sides.source sides.source) =
    subst (λ n. StopsBy c.loop-number.reader.ended why now.sides.left sides.left (Rose now.sides.source n))
    (sym c.conclude-ended.ensures.source)
    (subst (λ l. StopsBy c.loop-number.reader.ended why now.sides.left l
    (Rose now.sides.source (g.K.Source.source_faults c.receive.new.conn))) (sym c.conclude-ended.ensures.left)
    c.in-Err.ensures.stops) in
    let finishes : Finishes why c.loop-number.count e now.sides.taken sides.taken now.sides.sink sides.sink =
    subst (λ t. Finishes why c.loop-number.count e t sides.taken now.sides.sink sides.sink) c.receive.ensures.taken
    (subst (λ n. Finishes why c.loop-number.count e (g.K.Sink.taken c.receive.new.conn) sides.taken n sides.sink)
    c.receive.ensures.sink c.conclude-ended.ensures.finishes) in
    let after : Around = record { sides = sides; own = now.own } in
    subst (λ (items : List TraceItem). Serves c.args.people.now place old after e items)
    (sym c.reserve.ensures.items)
    (session_stops c.args.people.now place old c.loop-number.number now c.loop-number.reader c.loop-number.count
    c.loop-number.items.items i.so_far c.receive.new.reader sides why e c.loop-number-test.true reads stops finishes)

pub returns-then-not-sent-clause-served : goal.returns-then-not-sent-clause-served
returns-then-not-sent-clause-served g c =
    let i = c.loop-number.invariant in
    let place : Place = record { base = base (built_with c.args.gate.now); seat = number c.args.pass } in
    let old : Around = around_by g.K.Source g.K.Sink g.C.Clock g.W.Words (seen c.args.pass) c.args.conn.now
    c.args.clock.now c.args.words.now in
    let now : Around = around_by g.K.Source g.K.Sink g.C.Clock g.W.Words (seen c.loop-number.pass) c.loop-number.conn
    c.loop-number.clock c.loop-number.words in
    let taken = c.take_turn-after in
    let sides : Sides = sides_by g.K.Source g.K.Sink c.reply-sent.new.conn in
    let own : LocalState =
    local_state_by g.C.Clock g.W.Words (seen taken.result.pass) taken.new.clock taken.new.words in
    let turn : TakesTurn place (heard c.args.people.now (content c.in-Ok-receive.message)) now.own own
    (reply_of taken.result.said) taken.result.item =
    subst (λ n. TakesTurn (record { base = place.base; seat = n })
    (heard c.args.people.now (content c.in-Ok-receive.message))
    now.own own (reply_of taken.result.said) taken.result.item) i.numbered taken.ensures.turn in
    let reads : Reads c.loop-number.reader (next.Message c.in-Ok-receive.message) c.receive.new.reader now.sides.left
    sides.left =
    subst (λ l. Reads c.loop-number.reader (next.Message c.in-Ok-receive.message) c.receive.new.reader now.sides.left l)
    (sym c.reply-sent.ensures.left) c.in-Ok-receive.ensures.reads in
    let sends : Sends c.reply-sent.result (framed_answer (reply_of taken.result.said)) now.sides.taken sides.taken
    now.sides.sink sides.sink =
    subst (λ t. Sends c.reply-sent.result (framed_answer (reply_of taken.result.said)) t sides.taken now.sides.sink
    sides.sink) c.receive.ensures.taken
    (subst (λ n. Sends c.reply-sent.result (framed_answer (reply_of taken.result.said))
    (g.K.Sink.taken c.receive.new.conn) sides.taken n sides.sink) c.receive.ensures.sink c.reply-sent.ensures.sent) in
    let source : now.sides.source ≤ sides.source =
    omega (arith, c.receive.ensures.later, c.reply-sent.ensures.source) in
    let sink : now.sides.sink ≤ sides.sink = omega (arith, c.receive.ensures.sink, c.reply-sent.ensures.later) in
    let added : c.push_reserved.new.self.items ≡ c.loop-number.items.items ++ taken.result.item ∷ [] =
    c.push_reserved.ensures.items ∙ ap (λ l. l ++ taken.result.item ∷ []) c.reserve.ensures.items in
    listed added
    (session_cut c.args.people.now place old c.loop-number.number now c.loop-number.reader c.loop-number.count
    c.loop-number.items.items i.so_far c.receive.new.reader sides c.in-Ok-receive.message own
    (reply_of taken.result.said) taken.result.item turn reads source sink c.reply-sent.result sends
    c.saturating_add-count.result c.saturating_add-count.ensures c.loop-number-test.true
    (not-true c.reply-sent.result.whole c.if-not-sent.true))

pub loop-number-preserved : goal.loop-number-preserved
loop-number-preserved g c =
    let i = c.loop-number.invariant in
    let place : Place = record { base = base (built_with c.args.gate.now); seat = number c.args.pass } in
    let old : Around = around_by g.K.Source g.K.Sink g.C.Clock g.W.Words (seen c.args.pass) c.args.conn.now
    c.args.clock.now c.args.words.now in
    let now : Around = around_by g.K.Source g.K.Sink g.C.Clock g.W.Words (seen c.loop-number.pass) c.loop-number.conn
    c.loop-number.clock c.loop-number.words in
    let taken = c.take_turn-after in
    let sides : Sides = sides_by g.K.Source g.K.Sink c.reply-sent.new.conn in
    let own : LocalState =
    local_state_by g.C.Clock g.W.Words (seen taken.result.pass) taken.new.clock taken.new.words in
    let turn : TakesTurn place (heard c.args.people.now (content c.in-Ok-receive.message)) now.own own
    (reply_of taken.result.said) taken.result.item =
    subst (λ n. TakesTurn (record { base = place.base; seat = n })
    (heard c.args.people.now (content c.in-Ok-receive.message))
    now.own own (reply_of taken.result.said) taken.result.item) i.numbered taken.ensures.turn in
    let reads : Reads c.loop-number.reader (next.Message c.in-Ok-receive.message) c.receive.new.reader now.sides.left
    sides.left =
    subst (λ l. Reads c.loop-number.reader (next.Message c.in-Ok-receive.message) c.receive.new.reader now.sides.left l)
    (sym c.reply-sent.ensures.left) c.in-Ok-receive.ensures.reads in
    let sends : Sends c.reply-sent.result (framed_answer (reply_of taken.result.said)) now.sides.taken sides.taken
    now.sides.sink sides.sink =
    subst (λ t. Sends c.reply-sent.result (framed_answer (reply_of taken.result.said)) t sides.taken now.sides.sink
    sides.sink) c.receive.ensures.taken
    (subst (λ n. Sends c.reply-sent.result (framed_answer (reply_of taken.result.said))
    (g.K.Sink.taken c.receive.new.conn) sides.taken n sides.sink) c.receive.ensures.sink c.reply-sent.ensures.sent) in
    let source : now.sides.source ≤ sides.source =
    omega (arith, c.receive.ensures.later, c.reply-sent.ensures.source) in
    let sink : now.sides.sink ≤ sides.sink = omega (arith, c.receive.ensures.sink, c.reply-sent.ensures.later) in
    let added : c.push_reserved.new.self.items ≡ c.loop-number.items.items ++ taken.result.item ∷ [] =
    c.push_reserved.ensures.items ∙ ap (λ l. l ++ taken.result.item ∷ []) c.reserve.ensures.items in
    record {
      gate = taken.ensures.gate;
      numbered = taken.ensures.number ∙ i.numbered;
      source_later = omega (arith, i.source_later, source);
      sink_later = omega (arith, i.sink_later, sink);
      random_later = omega (arith, i.random_later, taken.ensures.later);
      so_far = so_far_listed added
          (so_far_more c.args.people.now place old c.loop-number.number now c.loop-number.reader c.loop-number.count
          c.loop-number.items.items i.so_far c.receive.new.reader sides c.in-Ok-receive.message own
          (reply_of taken.result.said) taken.result.item turn reads source sink c.reply-sent.result sends
          c.saturating_add-count.result c.saturating_add-count.ensures
          (not-false c.reply-sent.result.whole c.if-not-sent.false));
    }

pub returns-clause-served : goal.returns-clause-served
returns-clause-served g c =
    let place : Place = record { base = base (built_with c.args.gate.now); seat = number c.args.pass } in
    let old : Around = around_by g.K.Source g.K.Sink g.C.Clock g.W.Words (seen c.args.pass) c.args.conn.now
    c.args.clock.now c.args.words.now in
    let now : Around = around_by g.K.Source g.K.Sink g.C.Clock g.W.Words (seen c.loop-number.pass) c.loop-number.conn
    c.loop-number.clock c.loop-number.words in
    session_enough c.args.people.now place old c.loop-number.number now c.loop-number.reader c.loop-number.count
    c.loop-number.items.items c.loop-number.invariant.so_far
    (omega (arith, c.loop-number.auto.number-end, c.loop-number-test.false))
