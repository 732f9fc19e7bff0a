-- Days and their dates.
use Rattle.std.proofs.Common.{◌≡◌, ℕ, ◌*◌, ◌/◌, List, pos, refl, sym, ◌∙◌, arith}
use Rattle.sm_base.specs.declared.moment.Moment.{Moment}
use Rattle.jiff_core.specs.declared.civil.date.Date.{Date}
use Rattle.jiff_core.specs.declared.civil.datetime.DateTime.{DateTime}
use Rattle.jiff_core.specs.Date.{epoch_day}
use Rattle.jiff_core.specs.DateTime.{civil_nanos}
use Rattle.jiff_core.proofs.SignedLemmas.{signed_arith}
use Rattle.jiff_core.proofs.DateLemmas.{epoch_day_injective}
use Rattle.jiff_core.proofs.DateTimeLemmas.{civil_nanos-parts, time_nanos_bound}
use Rattle.jiff_fmt.specs.Text.{date_text}
use Rattle.sm_dates.specs.Days.{IsDateOf}

-- the date of what a clock in UTC shows is that of the whole days
pub day_of_civil : (shown : DateTime) (seconds : ℕ) → civil_nanos shown ≡ pos (seconds * 1_000_000_000) →
    epoch_day shown.date ≡ pos (seconds / 86_400)
day_of_civil shown seconds same =
    omega (arith, signed_arith, civil_nanos-parts shown, time_nanos_bound shown.time)

date_text_same : (a b : Date) → a.year ≡ b.year → a.month ≡ b.month → a.day ≡ b.day → date_text a ≡ date_text b
date_text_same a b year month day = rw (year, month, day) refl

-- a moment has one date
pub one_date : (moment : Moment) (text other : List ℕ) → IsDateOf moment text → IsDateOf moment other → other ≡ text
one_date moment text other first second =
    let same = epoch_day_injective second.0 first.0 (second.1 ∙ sym first.1) in
    second.2 ∙ date_text_same second.0 first.0 same.0 same.1 same.2 ∙ sym first.2
