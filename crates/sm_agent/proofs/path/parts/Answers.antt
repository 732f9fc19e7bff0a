use Rattle.sm_agent.proofs.CutLemmas.{all_before, none_behind}
use Rattle.sm_agent.proofs.path.parts.Goals as goal

pub returns-in-None-clause-path : goal.returns-in-None-clause-path
returns-in-None-clause-path c = all_before 63 c.args.path.now c.in-None.ensures.uncut

pub returns-in-None-clause-query : goal.returns-in-None-clause-query
returns-in-None-clause-query c = none_behind 63 c.args.path.now c.in-None.ensures.uncut
