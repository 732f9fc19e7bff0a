use Rattle.std.proofs.Common.{arith}
use Rattle.sm_cron.proofs.PartedLemmas.{parted_further}
use Rattle.sm_cron.proofs.reading.parted.Goals as goal

pub loop-place-preserved : goal.loop-place-preserved
loop-place-preserved c =
    parted_further c.args.mark c.loop-place.place c.args.text.now (omega arith) c.if-byte-mark.false
    c.loop-place.invariant
