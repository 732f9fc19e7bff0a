use Rattle.std.proofs.Common.{arith}
use Rattle.std.proofs.lemmas.Grind.{common_steps}
use Rattle.sm_io.proofs.Moments.{reading_at-last, list_readings-push}
use Rattle.sm_io.proofs.list_clock.ListClockClock.now.Goals as goal

pub returns-then-self-len-clause-told : goal.returns-then-self-len-clause-told
returns-then-self-len-clause-told c =
    let last = reading_at-last c.self.inside.moments c.self.inside.count.value c.self.inside.at c.self.invariant.0 in
    let more = list_readings-push c.self.inside.moments c.self.inside.count.value in
    grind (arith, common_steps)

pub returns-else-self-len-clause-told : goal.returns-else-self-len-clause-told
returns-else-self-len-clause-told c =
    let last = reading_at-last c.self.inside.moments c.self.inside.count.value c.self.inside.at c.self.invariant.0 in
    let more = list_readings-push c.self.inside.moments c.self.inside.count.value in
    grind (arith, common_steps)

pub returns-else-self-len-clause-exact : goal.returns-else-self-len-clause-exact
returns-else-self-len-clause-exact c =
    let last = reading_at-last c.self.inside.moments c.self.inside.count.value c.self.inside.at c.self.invariant.0 in
    grind (arith, common_steps)
