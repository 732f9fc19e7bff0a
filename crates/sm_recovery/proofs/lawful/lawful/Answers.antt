use Rattle.sm_store.specs.Openings.{held_of}
use Rattle.sm_recovery.proofs.JudgedLemmas.{unsound_told}
use Rattle.sm_recovery.proofs.lawful.lawful.Goals as goal

pub returns-in-Err-clause-refused : goal.returns-in-Err-clause-refused
returns-in-Err-clause-refused c =
    unsound_told c.args.edition (held_of c.args.loaded.now) c.in-Err.why c.in-Err.ensures.refused
