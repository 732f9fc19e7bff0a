use Rattle.std.proofs.Common.{ap, ◌∙◌}
use Rattle.sm_replication.specs.Extents.{further}
use Rattle.sm_replication.proofs.AwaitLemmas.{list_told, placed_later}
use Rattle.sm_replication.proofs.WalkLemmas.{placed_there}
use Rattle.sm_replication.proofs.await_frame.await_placed.Goals as goal

pub returns-in-Whole-clause-awaited : goal.returns-in-Whole-clause-awaited
returns-in-Whole-clause-awaited g c =
    placed_later c.args.most c.await_bytes.new.ahead c.await_list.new.ahead _ _ c.in-Got.ensures.there
    c.in-Whole.ensures.moves
    ∙ ap (further 8) c.in-Whole.ensures.awaited

pub returns-in-Over-clause-awaited : goal.returns-in-Over-clause-awaited
returns-in-Over-clause-awaited g c =
    placed_later c.args.most c.await_bytes.new.ahead c.await_list.new.ahead _ _ c.in-Got.ensures.there
    c.in-Over.ensures.moves
    ∙ ap (further 8) c.in-Over.ensures.awaited

pub returns-in-Whole-clause-still : goal.returns-in-Whole-clause-still
returns-in-Whole-clause-still g c =
    λ told. c.await_list.ensures.still
    (list_told c.args.most c.args.ahead.now c.await_bytes.new.ahead _ _ c.requires c.await_bytes.ensures.moves
    c.in-Got.ensures.there told)
    ∙ c.await_bytes.ensures.still (placed_there c.args.most c.args.ahead.now told)

pub returns-in-Over-clause-still : goal.returns-in-Over-clause-still
returns-in-Over-clause-still g c =
    λ told. c.await_list.ensures.still
    (list_told c.args.most c.args.ahead.now c.await_bytes.new.ahead _ _ c.requires c.await_bytes.ensures.moves
    c.in-Got.ensures.there told)
    ∙ c.await_bytes.ensures.still (placed_there c.args.most c.args.ahead.now told)

pub returns-in-End-await_list-clause-still : goal.returns-in-End-await_list-clause-still
returns-in-End-await_list-clause-still g c =
    λ told. c.await_list.ensures.still
    (list_told c.args.most c.args.ahead.now c.await_bytes.new.ahead _ _ c.requires c.await_bytes.ensures.moves
    c.in-Got.ensures.there told)
    ∙ c.await_bytes.ensures.still (placed_there c.args.most c.args.ahead.now told)

pub returns-in-Failed-await_list-clause-still : goal.returns-in-Failed-await_list-clause-still
returns-in-Failed-await_list-clause-still g c =
    λ told. c.await_list.ensures.still
    (list_told c.args.most c.args.ahead.now c.await_bytes.new.ahead _ _ c.requires c.await_bytes.ensures.moves
    c.in-Got.ensures.there told)
    ∙ c.await_bytes.ensures.still (placed_there c.args.most c.args.ahead.now told)

pub returns-in-Memory-await_list-clause-still : goal.returns-in-Memory-await_list-clause-still
returns-in-Memory-await_list-clause-still g c =
    λ told. c.await_list.ensures.still
    (list_told c.args.most c.args.ahead.now c.await_bytes.new.ahead _ _ c.requires c.await_bytes.ensures.moves
    c.in-Got.ensures.there told)
    ∙ c.await_bytes.ensures.still (placed_there c.args.most c.args.ahead.now told)
