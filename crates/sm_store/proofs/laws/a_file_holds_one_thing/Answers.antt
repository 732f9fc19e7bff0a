use Rattle.sm_store.proofs.HeldLaws.{one_held, held_not_damaged, held_not_foreign}
use Rattle.sm_store.proofs.HeldProofs.{either_held_prop}
use Rattle.sm_store.proofs.laws.a_file_holds_one_thing.Goals as goal

pub returns-clause-held : goal.returns-clause-held
returns-clause-held c = one_held

pub returns-clause-sound : goal.returns-clause-sound
returns-clause-sound c = held_not_damaged

pub returns-clause-spelled : goal.returns-clause-spelled
returns-clause-spelled c = held_not_foreign

pub returns-clause-proof : goal.returns-clause-proof
returns-clause-proof c = either_held_prop
