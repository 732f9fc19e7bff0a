use Rattle.std.proofs.Common.{length}
use Rattle.sm_sigv4.specs.Texts.{single_spaced}
use Rattle.sm_sigv4.proofs.FeedLemmas.{Fed}
use Rattle.sm_sigv4.proofs.canonical.put_spaced.Given as goal

abbrev pub invariant-loop-place : goal.invariant-loop-place
invariant-loop-place l = Fed l.fn.hasher l.hasher (single_spaced l.left) (single_spaced l.text)

abbrev pub decreases-loop-place : goal.decreases-loop-place
decreases-loop-place l = length l.left
