-- The days of the calendar in UTC, one after the other from 1 January 1970.
use Rattle.std.specs.Prelude.{◌≡◌, ℕ, zero, suc, ◌+◌, ◌%◌, Bool, not, ◌==◌, if◌then◌else◌, pos}
use Rattle.jiff_core.specs.declared.civil.date.Date.{Date}
use Rattle.jiff_core.specs.Calendar.{days_in_month}

-- a day of the calendar
pub record Civil : Type 0 where
  pub year : ℕ
  pub month : ℕ
  pub day : ℕ

-- the day is the last of its month
abbrev pub is_last_of_month : Civil → Bool
is_last_of_month civil = civil.day == days_in_month (pos civil.year) civil.month

-- the day that follows
abbrev pub tomorrow : Civil → Civil
tomorrow civil =
    if not (is_last_of_month civil) then record { year = civil.year; month = civil.month; day = civil.day + 1 }
    else (if civil.month == 12 then record { year = civil.year + 1; month = 1; day = 1 }
    else record { year = civil.year; month = civil.month + 1; day = 1 })

-- the day that comes so many days after 1 January 1970
unfoldable pub civil_at : ℕ → Civil
civil_at zero = record { year = 1970; month = 1; day = 1 }
civil_at (suc n) = tomorrow (civil_at n)

-- its weekday, from 1 for Sunday: 1 January 1970 was a Thursday
abbrev pub weekday_at : ℕ → ℕ
weekday_at day = (day + 4) % 7 + 1

-- the date is the day
pub record Shows (date : Date) (civil : Civil) : Type 0 where
  pub year : date.year ≡ pos civil.year
  pub month : date.month ≡ civil.month
  pub day : date.day ≡ civil.day
