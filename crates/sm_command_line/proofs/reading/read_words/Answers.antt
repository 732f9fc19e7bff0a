use Rattle.sm_command_line.proofs.BoundLemmas.{settings-in_bounds}
use Rattle.sm_command_line.proofs.reading.read_words.Goals as goal

pub returns-in-Ok-clause-bounds : goal.returns-in-Ok-clause-bounds
returns-in-Ok-clause-bounds c =
    settings-in_bounds _ _ _ c.in-Ok.ensures.faults c.in-Ok.ensures.found c.in_ok-settings-in-Ok.ensures
