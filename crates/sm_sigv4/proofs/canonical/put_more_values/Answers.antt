use Rattle.std.proofs.Common.{◌++◌, codes, ap}
use Rattle.sm_sigv4.specs.Texts.{trimmed}
use Rattle.sm_sigv4.specs.Canonical.{more_values}
use Rattle.sm_sigv4.proofs.FeedLemmas.{feeds_both, fed_more}
use Rattle.sm_sigv4.proofs.canonical.put_more_values.Goals as goal

pub loop-value-preserved : goal.loop-value-preserved
loop-value-preserved c =
    fed_more _ _ _ (codes "," ++ trimmed c.in-Some.value.now) _ _ _ c.loop-value.invariant
    (ap more_values c.in-Some.ensures.first) (feeds_both _ _ _ _ _ c.update.ensures c.put_value.ensures)
