use Rattle.sm_record.proofs.SpellingLaws.{decoded_from_spelling, is_read_again, spells_one, tells_editions}
use Rattle.sm_record.proofs.spelling.one_spelling.Goals as goal

pub returns-clause-exactly : goal.returns-clause-exactly
returns-clause-exactly c = decoded_from_spelling

pub returns-clause-again : goal.returns-clause-again
returns-clause-again c = is_read_again

pub returns-clause-one : goal.returns-clause-one
returns-clause-one c = spells_one

pub returns-clause-editions : goal.returns-clause-editions
returns-clause-editions c = tells_editions
