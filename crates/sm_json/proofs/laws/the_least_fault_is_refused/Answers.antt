use Rattle.sm_json.proofs.TableLaws.{ascend, least, fit}
use Rattle.sm_json.proofs.laws.the_least_fault_is_refused.Goals as goal

pub returns-clause-ascend : goal.returns-clause-ascend
returns-clause-ascend c = ascend

pub returns-clause-least : goal.returns-clause-least
returns-clause-least c = least

pub returns-clause-fit : goal.returns-clause-fit
returns-clause-fit c = fit
