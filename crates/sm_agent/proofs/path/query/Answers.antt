use Rattle.sm_agent.specs.Queries.{read_told}
use Rattle.sm_agent.proofs.QueryLemmas.{read_text, no_text}
use Rattle.sm_agent.proofs.path.query.Goals as goal

pub returns-in-Ok : goal.returns-in-Ok
returns-in-Ok c =
    read_text c.args.path.now c.in-Ok.path.now (read_told c.text_query.result) c.in-Ok.ensures.cases.1
    c.in-Ok.ensures.cases.0 c.text_query.ensures

pub returns-in-Err : goal.returns-in-Err
returns-in-Err c = no_text c.args.path.now c.in-Err.ensures.cases.0
