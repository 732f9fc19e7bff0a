use Rattle.std.proofs.Common.{length}
use Rattle.sm_encoded_size.proofs.typed.+note_tags.Given as goal

abbrev pub decreases-note_tags : goal.decreases-note_tags
decreases-note_tags l = length l.tags.now
