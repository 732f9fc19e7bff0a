use Rattle.sm_agent.proofs.CutLemmas.{first_piece}
use Rattle.sm_agent.proofs.cut.first_piece.Goals as goal

pub returns-in-Some-clause-pieces : goal.returns-in-Some-clause-pieces
returns-in-Some-clause-pieces c =
    first_piece c.args.mark c.args.text.now c.in-Some.piece.now c.in-Some.rest.now c.in-Some.ensures.around
