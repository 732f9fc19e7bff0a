use Rattle.std.proofs.Common.{◌∙◌}
use Rattle.sm_http.proofs.AheadLemmas.{moves_more}
use Rattle.sm_replication.proofs.AwaitLemmas.{item_whole, item_over, item_open, item_told, items_are, grown}
use Rattle.sm_replication.proofs.await_frame.await_items.Goals as goal

pub returns-in-Over-clause-awaited : goal.returns-in-Over-clause-awaited
returns-in-Over-clause-awaited g c =
    item_over c.args.count c.loop.room c.args.start c.loop.passed c.loop.counter c.loop.ahead
    c.await_octets.new.ahead _ _
    (grown c.args.start _ _ _ _ c.requires.begins c.loop.invariant.0) c.loop.invariant.3 c.loop-test.true
    c.in-Over.ensures.moves
    c.in-Over.ensures.awaited

pub returns-in-Over-clause-still : goal.returns-in-Over-clause-still
returns-in-Over-clause-still g c =
    λ told. c.await_octets.ensures.still
    (item_told c.args.count c.loop.room c.args.start c.loop.passed c.loop.counter c.args.ahead.now c.loop.ahead _ _
    c.requires.begins c.loop.invariant.0 c.loop.invariant.3 c.loop-test.true told)
    ∙ c.loop.invariant.4 told

pub returns-in-End-clause-awaited : goal.returns-in-End-clause-awaited
returns-in-End-clause-awaited g c =
    item_open c.args.count c.loop.room c.args.start c.loop.passed c.loop.counter c.loop.ahead
    c.await_octets.new.ahead _ _
    (grown c.args.start _ _ _ _ c.requires.begins c.loop.invariant.0) c.loop.invariant.3 c.loop-test.true
    c.in-End.ensures.moves
    c.in-End.ensures.awaited

pub returns-in-End-clause-still : goal.returns-in-End-clause-still
returns-in-End-clause-still g c =
    λ told. c.await_octets.ensures.still
    (item_told c.args.count c.loop.room c.args.start c.loop.passed c.loop.counter c.args.ahead.now c.loop.ahead _ _
    c.requires.begins c.loop.invariant.0 c.loop.invariant.3 c.loop-test.true told)
    ∙ c.loop.invariant.4 told

pub returns-in-Failed-clause-awaited : goal.returns-in-Failed-clause-awaited
returns-in-Failed-clause-awaited g c =
    item_open c.args.count c.loop.room c.args.start c.loop.passed c.loop.counter c.loop.ahead
    c.await_octets.new.ahead _ _
    (grown c.args.start _ _ _ _ c.requires.begins c.loop.invariant.0) c.loop.invariant.3 c.loop-test.true
    c.in-Failed.ensures.moves
    c.in-Failed.ensures.awaited

pub returns-in-Failed-clause-still : goal.returns-in-Failed-clause-still
returns-in-Failed-clause-still g c =
    λ told. c.await_octets.ensures.still
    (item_told c.args.count c.loop.room c.args.start c.loop.passed c.loop.counter c.args.ahead.now c.loop.ahead _ _
    c.requires.begins c.loop.invariant.0 c.loop.invariant.3 c.loop-test.true told)
    ∙ c.loop.invariant.4 told

pub returns-in-Memory-clause-awaited : goal.returns-in-Memory-clause-awaited
returns-in-Memory-clause-awaited g c =
    item_open c.args.count c.loop.room c.args.start c.loop.passed c.loop.counter c.loop.ahead
    c.await_octets.new.ahead _ _
    (grown c.args.start _ _ _ _ c.requires.begins c.loop.invariant.0) c.loop.invariant.3 c.loop-test.true
    c.in-Memory.ensures.moves
    c.in-Memory.ensures.awaited

pub returns-in-Memory-clause-still : goal.returns-in-Memory-clause-still
returns-in-Memory-clause-still g c =
    λ told. c.await_octets.ensures.still
    (item_told c.args.count c.loop.room c.args.start c.loop.passed c.loop.counter c.args.ahead.now c.loop.ahead _ _
    c.requires.begins c.loop.invariant.0 c.loop.invariant.3 c.loop-test.true told)
    ∙ c.loop.invariant.4 told

pub loop-preserved : goal.loop-preserved
loop-preserved g c = (
  moves_more _ _ _ _ _ _ c.loop.invariant.0 c.in-Whole.ensures.moves,
  c.in-Whole.ensures.no_other ∙ c.loop.invariant.1,
  c.in-Whole.ensures.beside ∙ c.loop.invariant.2,
  item_whole c.args.count c.loop.room c.args.start c.loop.passed c.loop.counter c.loop.ahead
      c.await_octets.new.ahead _ _
      (grown c.args.start _ _ _ _ c.requires.begins c.loop.invariant.0) c.loop.invariant.3 c.loop-test.true
      c.in-Whole.ensures.moves
      c.in-Whole.used c.in-Whole.ensures.awaited,
  λ told. c.await_octets.ensures.still
      (item_told c.args.count c.loop.room c.args.start c.loop.passed c.loop.counter c.args.ahead.now c.loop.ahead _ _
      c.requires.begins c.loop.invariant.0 c.loop.invariant.3 c.loop-test.true told)
      ∙ c.loop.invariant.4 told,
)

pub returns-clause-awaited : goal.returns-clause-awaited
returns-clause-awaited g c =
    items_are c.args.count c.loop.room c.args.start c.loop.passed c.loop.counter c.loop.ahead c.loop.invariant.3
    c.loop-test.false
