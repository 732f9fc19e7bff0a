use Rattle.std.proofs.Common.{sym, ◌∙◌}
use Rattle.sm_http.proofs.ChainLemmas.{none_counted, counted_shorter, counted_more, counted_last, counted_bad, counted_rest}
use Rattle.sm_http.proofs.laws.whole_messages.Goals as goal

pub loop-message-init : goal.loop-message-init
loop-message-init c = (none_counted c.args.bytes.now, c.field_room-room.ensures)

pub returns-then-message : goal.returns-then-message
returns-then-message c =
    let front = c.in-Whole.ensures in
    counted_last _ _ _ c.loop-message.invariant.0 front.0 _ front.1 (sym front.2.closing ∙ c.if-message.true)

pub loop-message-smaller : goal.loop-message-smaller
loop-message-smaller c =
    let front = c.in-Whole.ensures in
    rw c.split_at.ensures.back (counted_shorter _ _ _ c.loop-message.invariant.0 front.0 _ front.1)

pub loop-message-preserved : goal.loop-message-preserved
loop-message-preserved c =
    let front = c.in-Whole.ensures in (
      rw c.split_at.ensures.back (counted_more _ _ _ c.loop-message.invariant.0 front.0 _ front.1
          (sym front.2.closing ∙ c.if-message.false)),
      c.front_of.auto.room ∙ c.loop-message.invariant.1,
    )

pub returns-in-Bad : goal.returns-in-Bad
returns-in-Bad c = counted_bad _ _ _ c.loop-message.invariant.0 _ c.in-Bad.ensures

pub returns-in-Partial : goal.returns-in-Partial
returns-in-Partial c = counted_rest _ _ _ c.loop-message.invariant.0 c.in-Partial.ensures
