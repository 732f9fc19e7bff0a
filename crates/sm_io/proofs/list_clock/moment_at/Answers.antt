use Rattle.std.proofs.Common.{arith}
use Rattle.std.proofs.lemmas.Grind.{common_steps}
use Rattle.sm_io.proofs.Moments.{reading_at-get_or}
use Rattle.sm_io.proofs.list_clock.moment_at.Goals as goal

pub returns-else-is_empty-clause-exact : goal.returns-else-is_empty-clause-exact
returns-else-is_empty-clause-exact c =
    grind (arith, common_steps, reading_at-get_or c.args.moments.now c.args.at (record { 0 = 0 }))
