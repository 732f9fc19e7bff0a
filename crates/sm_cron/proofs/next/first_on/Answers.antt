use Rattle.std.proofs.Common.{◌≡◌, true, false, arith}
use Rattle.sm_cron.specs.Next.{is_day_of}
use Rattle.sm_cron.specs.Sets.{has}
use Rattle.sm_cron.proofs.DayLemmas.{none_of_day, none_of_hour, none_above, first_of_day}
use Rattle.sm_cron.proofs.next.first_on.Goals as goal
use Rattle.sm_cron.proofs.next.first_on.Goals.{else-moment-begin-via-then-moment-begin+else-has, else-moment-begin-via-else-moment-begin}

pub returns-then-not-is_day_of-clause-none : goal.returns-then-not-is_day_of-clause-none
returns-then-not-is_day_of-clause-none c =
    let off : is_day_of c.args.cron.now c.args.day ≡ false = cc (c.is_day_of.ensures, c.if-not-is_day_of.true) in
    none_of_day c.args.cron.now c.args.day c.args.moment off

pub returns-then-has-clause-found : goal.returns-then-has-clause-found
returns-then-has-clause-found c =
    let on : is_day_of c.args.cron.now c.args.day ≡ true = cc (c.is_day_of.ensures, c.if-not-is_day_of.false) in
    let named : has c.args.cron.now.hours c.loop-hour.hour ≡ true = cc (c.has.ensures, c.if-has.true) in
    first_of_day c.args.cron.now c.args.day c.loop-hour.hour c.args.moment (omega arith) (omega arith) named on
    c.loop-hour.invariant

pub loop-hour-preserved : goal.loop-hour-preserved
loop-hour-preserved c = elim c.else-moment-begin.branch [
  | else-moment-begin-via-then-moment-begin+else-has w ↦
      let unnamed : has c.args.cron.now.hours c.loop-hour.hour ≡ false = cc (w.has.ensures, w.if-has.false) in
      none_of_hour c.args.cron.now c.args.day c.loop-hour.hour c.args.moment unnamed (omega arith) c.loop-hour.invariant
  | else-moment-begin-via-else-moment-begin w ↦
      none_above c.args.cron.now c.args.day c.loop-hour.hour c.args.moment (omega (arith, w.if-moment-begin.false))
      (omega arith) c.loop-hour.invariant
]
