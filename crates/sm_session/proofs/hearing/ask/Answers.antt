use Rattle.sm_session.proofs.HearLemmas.{asks_short}
use Rattle.sm_session.proofs.hearing.ask.Goals as goal

pub returns-in-Is-clause-short : goal.returns-in-Is-clause-short
returns-in-Is-clause-short c = asks_short c.ask_as.result c.in-Is.person c.ask_as.ensures.same c.in-Is.ensures.short
