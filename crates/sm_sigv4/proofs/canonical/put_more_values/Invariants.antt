use Rattle.std.proofs.Common.{length, map}
use Rattle.sm_http.specs.Heads.{values_of}
use Rattle.sm_http.specs.Reading.{pair_of}
use Rattle.sm_sigv4.specs.Canonical.{more_values}
use Rattle.sm_sigv4.proofs.FeedLemmas.{Fed}
use Rattle.sm_sigv4.proofs.canonical.put_more_values.Given as goal

abbrev pub invariant-loop-value : goal.invariant-loop-value
invariant-loop-value l = Fed l.fn.hasher l.hasher (more_values (values_of l.name (map pair_of l.left)))
    (more_values (values_of l.name (map pair_of l.fields)))

abbrev pub decreases-loop-value : goal.decreases-loop-value
decreases-loop-value l = length l.left
