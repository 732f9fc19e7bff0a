use Rattle.std.proofs.Common.{Some, option_copied}
use Rattle.std.proofs.lemmas.Result.{err_from_is_err_and}
use Rattle.sm_agent.specs.Queries.{pairs_of}
use Rattle.sm_agent.proofs.QueryLemmas.{Comes, refusal}
use Rattle.sm_agent.proofs.path.members_of.Goals as goal

pub returns-in_err-add-clause-refused : goal.returns-in_err-add-clause-refused
returns-in_err-add-clause-refused c =
    let comes : Comes (pairs_of c.args.query.now) c.loop-left.members (Some c.in-Some.text.now) =
    rw c.in-Some.is at c.loop-left.invariant in
    let gone = err_from_is_err_and c.from_residual.result c.from_residual.ensures.1 in
    rw (gone.1, gone.2)
    (refusal (pairs_of c.args.query.now) c.loop-left.members c.in-Some.text.now c.first_piece.result.0.now
    (option_copied c.first_piece.result.1) c.first_piece.ensures.pieces comes c.in_err-add.field-0.0
    c.in_err-add.ensures.refused)
