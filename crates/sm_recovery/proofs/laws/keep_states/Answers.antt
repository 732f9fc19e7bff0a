use Rattle.sm_recovery.proofs.KeepingLaws.{held_keeps, replaced_keeps}
use Rattle.sm_recovery.proofs.laws.keep_states.Goals as goal

pub returns-clause-held : goal.returns-clause-held
returns-clause-held c = held_keeps

pub returns-clause-replaced : goal.returns-clause-replaced
returns-clause-replaced c = replaced_keeps
