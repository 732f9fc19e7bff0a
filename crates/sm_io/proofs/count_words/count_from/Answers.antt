use Rattle.std.proofs.Common.{arith}
use Rattle.std.proofs.lemmas.Grind.{common_steps}
use Rattle.sm_io.proofs.Counting.{count_up-push}
use Rattle.sm_io.proofs.count_words.count_from.Goals as goal

pub loop-k-preserved : goal.loop-k-preserved
loop-k-preserved c = let more = count_up-push c.args.first c.loop-k.k in grind (arith, common_steps)
