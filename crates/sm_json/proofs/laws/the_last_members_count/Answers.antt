use Rattle.sm_json.proofs.AlikeLaws.{only_members}
use Rattle.sm_json.proofs.TextLaws.{last, order}
use Rattle.sm_json.proofs.laws.the_last_members_count.Goals as goal

pub returns-clause-only : goal.returns-clause-only
returns-clause-only c = only_members

pub returns-clause-last : goal.returns-clause-last
returns-clause-last c = last

pub returns-clause-order : goal.returns-clause-order
returns-clause-order c = order
