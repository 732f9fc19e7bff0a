use Rattle.std.proofs.Common.{length, map}
use Rattle.sm_http.specs.Reading.{pair_of}
use Rattle.sm_sigv4.specs.Names.{names_of}
use Rattle.sm_sigv4.specs.Canonical.{lines}
use Rattle.sm_sigv4.proofs.FeedLemmas.{Fed}
use Rattle.sm_sigv4.proofs.canonical.put_lines.Given as goal

abbrev pub invariant-loop-name : goal.invariant-loop-name
invariant-loop-name l = Fed l.fn.hasher l.hasher (lines (map pair_of l.fields) (names_of l.left))
    (lines (map pair_of l.fields) (names_of l.names))

abbrev pub decreases-loop-name : goal.decreases-loop-name
decreases-loop-name l = length l.left
