use Rattle.sm_forms.proofs.MemberOrderLemmas.{members_first, ascend, named}
use Rattle.sm_forms.proofs.laws.forms_go_by_names.Goals as goal

pub returns-clause-members : goal.returns-clause-members
returns-clause-members c = members_first

pub returns-clause-ascend : goal.returns-clause-ascend
returns-clause-ascend c = ascend

pub returns-clause-named : goal.returns-clause-named
returns-clause-named c = named
