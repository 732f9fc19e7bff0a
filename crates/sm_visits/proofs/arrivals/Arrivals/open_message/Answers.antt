use Rattle.sm_visits.proofs.OpenLemmas.{opens_limit}
use Rattle.sm_visits.proofs.arrivals.Arrivals.open_message.Goals as goal

pub returns-then-self-eq-CONNECTION_LIMIT : goal.returns-then-self-eq-CONNECTION_LIMIT
returns-then-self-eq-CONNECTION_LIMIT c =
    opens_limit _ _ c.args.used c.args.closing c.self.view_is c.requires.may c.requires.stands c.if-closing.false
    c.if-self-eq-CONNECTION_LIMIT.true
