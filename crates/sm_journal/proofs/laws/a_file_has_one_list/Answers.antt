use Rattle.sm_journal.proofs.Front.{one_list, one_format, not_damaged}
use Rattle.sm_journal.proofs.laws.a_file_has_one_list.Goals as goal

pub returns-clause-list : goal.returns-clause-list
returns-clause-list c = one_list

pub returns-clause-sound : goal.returns-clause-sound
returns-clause-sound c = not_damaged

pub returns-clause-format : goal.returns-clause-format
returns-clause-format c = one_format
