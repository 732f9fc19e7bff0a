use Rattle.std.proofs.Common.{arith}
use Rattle.sm_cron.proofs.SpellingLemmas.{fault_found}
use Rattle.sm_cron.proofs.spelling.first_fault.Goals as goal

pub returns : goal.returns
returns c =
    fault_found c.args.text.now c.loop-good.good c.loop-good.bad c.requires c.loop-good.invariant
    (omega (arith, c.loop-good-test.false))
