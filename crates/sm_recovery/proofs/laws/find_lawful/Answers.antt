use Rattle.sm_recovery.proofs.LawfulLaws.{made_only, makes_one_more, stays_lawful}
use Rattle.sm_recovery.proofs.laws.find_lawful.Goals as goal

pub returns-clause-only : goal.returns-clause-only
returns-clause-only c = made_only

pub returns-clause-more : goal.returns-clause-more
returns-clause-more c = makes_one_more

pub returns-clause-stays : goal.returns-clause-stays
returns-clause-stays c = stays_lawful
