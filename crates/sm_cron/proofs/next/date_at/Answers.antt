use Rattle.std.proofs.Common.{arith}
use Rattle.std.proofs.lemmas.Int.{ints}
use Rattle.jiff_core.proofs.SignedLemmas.{signed_arith}
use Rattle.sm_cron.proofs.CalendarLemmas.{date_is_at}
use Rattle.sm_cron.proofs.next.date_at.Goals as goal

pub returns-clause-shows : goal.returns-clause-shows
returns-clause-shows c =
    date_is_at c.in-Ok.date c.args.day (omega (arith, signed_arith, ints, c.in-Ok.ensures.value))
