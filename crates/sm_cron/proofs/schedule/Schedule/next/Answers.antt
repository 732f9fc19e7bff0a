use Rattle.sm_cron.proofs.NextLemmas.{found_right, never_right, within_right}
use Rattle.sm_cron.proofs.schedule.Schedule.next.Goals as goal

pub returns-in-Cron-clause-found : goal.returns-in-Cron-clause-found
returns-in-Cron-clause-found c =
    found_right c.args.self.now c.args.moment c.next_of.result (rw c.in-Cron.is c.next_of.ensures)

pub returns-in-Cron-clause-never : goal.returns-in-Cron-clause-never
returns-in-Cron-clause-never c =
    never_right c.args.self.now c.args.moment c.next_of.result (rw c.in-Cron.is c.next_of.ensures)

pub returns-in-Cron-clause-within : goal.returns-in-Cron-clause-within
returns-in-Cron-clause-within c = within_right c.in-Cron.cron c.args.moment c.next_of.result c.requires.moment
    c.next_of.ensures
