use Rattle.std.proofs.Common.{◌≡◌, pos, ◌*◌, arith}
use Rattle.std.proofs.lemmas.Int.{ints}
use Rattle.jiff_core.specs.DateTime.{civil_nanos}
use Rattle.jiff_core.proofs.SignedLemmas.{signed_arith}
use Rattle.sm_dates.proofs.DayLemmas.{day_of_civil}
use Rattle.sm_dates.proofs.dates.date_of.Goals as goal

pub returns : goal.returns
returns c =
    let nanos : civil_nanos c.to_datetime.result ≡ pos (c.args.moment.0 * 1_000_000_000) =
    omega (arith, signed_arith, ints, c.to_datetime.ensures, c.in-Ok.ensures.value) in
    rw c.date.ensures (day_of_civil c.to_datetime.result c.args.moment.0 nanos)
