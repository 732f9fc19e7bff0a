use Rattle.std.proofs.Common.{arith}
use Rattle.std.proofs.lemmas.Grind.{common_steps}
use Rattle.sm_versions.proofs.LabelLemmas.{labels_on_more}
use Rattle.sm_versions.proofs.labels.labels_on.Goals as goal

pub loop-pair-preserved : goal.loop-pair-preserved
loop-pair-preserved c =
    grind (
      arith,
      common_steps,
      labels_on_more c.args.pairs.now c.loop-pair.pair-index c.pair-item.result c.args.id.now
          c.loop-pair-test.true c.pair-item.is,
    )
