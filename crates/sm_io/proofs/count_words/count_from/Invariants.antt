use Rattle.std.proofs.Common.{◌≡◌}
use Rattle.sm_io.specs.CountWords.{count_up}
use Rattle.sm_io.proofs.count_words.count_from.Given as goal

abbrev pub invariant-loop-k : goal.invariant-loop-k
invariant-loop-k l = l.vec.items ≡ count_up l.first l.k
