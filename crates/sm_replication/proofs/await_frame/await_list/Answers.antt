use Rattle.std.proofs.Common.{ap, ◌∙◌}
use Rattle.sm_replication.specs.Extents.{further}
use Rattle.sm_replication.proofs.AwaitLemmas.{list_items}
use Rattle.sm_replication.proofs.await_frame.await_list.Goals as goal

pub returns-in-Whole-clause-awaited : goal.returns-in-Whole-clause-awaited
returns-in-Whole-clause-awaited g c =
    list_items c.args.most c.args.at c.number_at-count.result c.as_slice.result.now c.args.ahead.now
    c.await_items.new.ahead _ _ c.as_slice.ensures c.requires.begins c.number_at-count.ensures c.if-most-count.false
    c.in-Whole.ensures.moves
    ∙ ap (further 4) c.in-Whole.ensures.awaited

pub returns-in-Over-clause-awaited : goal.returns-in-Over-clause-awaited
returns-in-Over-clause-awaited g c =
    list_items c.args.most c.args.at c.number_at-count.result c.as_slice.result.now c.args.ahead.now
    c.await_items.new.ahead _ _ c.as_slice.ensures c.requires.begins c.number_at-count.ensures c.if-most-count.false
    c.in-Over.ensures.moves
    ∙ ap (further 4) c.in-Over.ensures.awaited

pub returns-in-End-clause-awaited : goal.returns-in-End-clause-awaited
returns-in-End-clause-awaited g c =
    list_items c.args.most c.args.at c.number_at-count.result c.as_slice.result.now c.args.ahead.now
    c.await_items.new.ahead _ _ c.as_slice.ensures c.requires.begins c.number_at-count.ensures c.if-most-count.false
    c.in-End.ensures.moves
    ∙ ap (further 4) c.in-End.ensures.awaited

pub returns-in-Failed-clause-awaited : goal.returns-in-Failed-clause-awaited
returns-in-Failed-clause-awaited g c =
    list_items c.args.most c.args.at c.number_at-count.result c.as_slice.result.now c.args.ahead.now
    c.await_items.new.ahead _ _ c.as_slice.ensures c.requires.begins c.number_at-count.ensures c.if-most-count.false
    c.in-Failed.ensures.moves
    ∙ ap (further 4) c.in-Failed.ensures.awaited

pub returns-in-Memory-clause-awaited : goal.returns-in-Memory-clause-awaited
returns-in-Memory-clause-awaited g c =
    list_items c.args.most c.args.at c.number_at-count.result c.as_slice.result.now c.args.ahead.now
    c.await_items.new.ahead _ _ c.as_slice.ensures c.requires.begins c.number_at-count.ensures c.if-most-count.false
    c.in-Memory.ensures.moves
    ∙ ap (further 4) c.in-Memory.ensures.awaited
