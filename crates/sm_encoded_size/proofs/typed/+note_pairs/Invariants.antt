use Rattle.std.proofs.Common.{length}
use Rattle.sm_encoded_size.proofs.typed.+note_pairs.Given as goal

abbrev pub decreases-note_pairs : goal.decreases-note_pairs
decreases-note_pairs l = length l.pairs.now
