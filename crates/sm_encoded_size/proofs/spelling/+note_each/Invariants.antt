use Rattle.std.proofs.Common.{length}
use Rattle.sm_encoded_size.proofs.spelling.+note_each.Given as goal

abbrev pub decreases-note_each : goal.decreases-note_each
decreases-note_each l = length l.texts.now
