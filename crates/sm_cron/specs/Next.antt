-- When a schedule comes next.
-- AWS Secrets Manager User Guide: "Schedule expressions in Secrets Manager rotation".
use Rattle.std.specs.Prelude.{◌≡◌, ℕ, zero, suc, ◌+◌, ◌*◌, ◌/◌, ◌%◌, ◌<◌, ◌≤◌, Bool, false, IsTrue, ◌&&◌, ◌||◌, ◌==◌, if◌then◌else◌, Option, Some, None, ⊤}
use Rattle.sm_cron.specs.declared.schedule.Cron.{Cron}
use Rattle.sm_cron.specs.declared.schedule.Schedule.{Schedule}
use Rattle.sm_cron.specs.declared.schedule.Schedule.TheVariants.{Rate, Cron as ByCron}
use Rattle.sm_cron.specs.Civil.{Civil, civil_at, is_last_of_month, weekday_at}
use Rattle.sm_cron.specs.Sets.{has}

-- the month is in the set of months, and the day in that of days, or the month's last where that is meant
abbrev pub is_date_of : Cron → Civil → Bool
is_date_of cron civil = has cron.months civil.month
    && (has cron.days civil.day || (cron.last_day && is_last_of_month civil))

-- the day, so many days after 1 January 1970, is one of the schedule's: its date is, and its weekday is in the set
unfoldable pub is_day_of : Cron → ℕ → Bool
is_day_of cron day = is_date_of cron (civil_at day) && has cron.weekdays (weekday_at day)

-- the schedule names the moment: it begins an hour, in UTC, which is in the set of hours, on a day of the schedule
unfoldable pub matches : Cron → ℕ → Bool
matches cron moment = (moment % 3_600 == 0) && has cron.hours (moment / 3_600 % 24) && is_day_of cron (moment / 86_400)

-- the first of so many hours that begins at a moment of the schedule
unfoldable pub first_of_hours : Cron → ℕ → ℕ → Option ℕ
first_of_hours cron zero hour = None
first_of_hours cron (suc n) hour =
    if matches cron (hour * 3_600) then Some (hour * 3_600) else first_of_hours cron n (hour + 1)

-- The first moment of the schedule above a moment, among the hours of 146,097 days: then the calendar repeats.
unfoldable pub next_of_cron : Cron → ℕ → Option ℕ
next_of_cron cron moment = first_of_hours cron 3_506_328 (moment / 3_600 + 1)

-- when a schedule comes next after a moment
abbrev pub next_of : Schedule → ℕ → Option ℕ
next_of (Rate seconds) moment = Some (moment + seconds)
next_of (ByCron cron) moment = next_of_cron cron moment

-- the least moment of the schedule above a moment
pub record IsLeastAbove (cron : Cron) (moment at : ℕ) : Type 0 where
  pub above : moment < at
  pub matched : IsTrue (matches cron at)
  pub least : (other : ℕ) → moment < other → other < at → matches cron other ≡ false

-- the schedule names no moment above a moment
abbrev pub IsNeverAbove : Cron → ℕ → Type 0
IsNeverAbove cron moment = (other : ℕ) → moment < other → matches cron other ≡ false

-- the moment is the schedule's next after a moment
abbrev pub IsNext : Schedule → ℕ → ℕ → Type 0
IsNext (Rate seconds) moment at = at ≡ moment + seconds
IsNext (ByCron cron) moment at = IsLeastAbove cron moment at

-- the schedule never comes after a moment
abbrev pub IsNever : Schedule → ℕ → Type 0
IsNever (Rate seconds) moment = ⊥
IsNever (ByCron cron) moment = IsNeverAbove cron moment

-- a rate is at most 1,000 days
abbrev pub IsInReach : Schedule → Type 0
IsInReach (Rate seconds) = seconds ≤ 86_400_000
IsInReach (ByCron cron) = ⊤
