-- How schedules are spelled, in UTC.
-- AWS Secrets Manager User Guide: "Schedule expressions in Secrets Manager rotation".
use Rattle.std.specs.Prelude.{ℕ, ◌+◌, ◌*◌, Bool, true, false, ◌&&◌, nat_le, List, [], ◌∷◌, length, codes, Option}
use Rattle.std.specs.Option.{is_some}
use Rattle.sm_cron.specs.declared.days.Days.{Days as DaySet}
use Rattle.sm_cron.specs.declared.field.Field.{Field}
use Rattle.sm_cron.specs.declared.field.Field.TheVariants.{Hours, Days, Months, Weekdays}
use Rattle.sm_cron.specs.declared.schedule.Cron.{Cron}
use Rattle.sm_cron.specs.declared.schedule.Schedule.{Schedule}
use Rattle.sm_cron.specs.declared.schedule.Schedule.TheVariants.{Rate, Cron as ByCron}
use Rattle.sm_base.specs.FirstFault.{IsFirstFault}
use Rattle.sm_base.specs.declared.limits.TheConstants.{SCHEDULE_LIMIT}
use Rattle.sm_cron.specs.declared.schedule.ScheduleRefused.{ScheduleRefused}
use Rattle.sm_cron.specs.declared.schedule.ScheduleRefused.TheVariants.{Spelling}
use Rattle.sm_cron.specs.declared.spelling.Kind.{Kind}
use Rattle.sm_cron.specs.declared.spelling.Kind.TheVariants.{OfRate, OfCron}
use Rattle.sm_cron.specs.declared.steps.Steps.{Steps}
use Rattle.sm_cron.specs.Languages.{Language, word, either, where_true, meaning, words_of, joined, listed, numbers}
use Rattle.sm_cron.specs.Sets.{is_step, set_of, set_of_all}

-- ---- the fields of a cron

abbrev pub least : Field → ℕ
least Hours = 0
least Days = 1
least Months = 1
least Weekdays = 1

abbrev pub greatest : Field → ℕ
greatest Hours = 23
greatest Days = 31
greatest Months = 12
greatest Weekdays = 7

-- the names of its numbers from 1 on
unfoldable pub names : Field → List (List ℕ)
names Hours = []
names Days = []
names Months = codes "JAN" ∷ codes "FEB" ∷ codes "MAR" ∷ codes "APR" ∷ codes "MAY" ∷ codes "JUN" ∷ codes "JUL"
    ∷ codes "AUG" ∷ codes "SEP" ∷ codes "OCT" ∷ codes "NOV" ∷ codes "DEC" ∷ []
names Weekdays = codes "SUN" ∷ codes "MON" ∷ codes "TUE" ∷ codes "WED" ∷ codes "THU" ∷ codes "FRI" ∷ codes "SAT" ∷ []

-- a number of the field from low on, or its name
unfoldable pub point : Field → ℕ → Language ℕ
point field low = either (numbers low (greatest field)) (words_of low 1 (names field))

-- the numbers from one to another in steps
abbrev pub steps : ℕ → ℕ → ℕ → Steps
steps first last by = record { first = first; last = last; by = by }

-- one number: a
unfoldable pub single : Field → Language Steps
single field = meaning (λ number. steps number number 1) (point field (least field))

-- the numbers from one to another: a-b
unfoldable pub range : Field → Language Steps
range field = joined 45 (point field (least field)) (λ first. meaning (λ last. steps first last 1) (point field first))

-- where steps begin: at a number, at the least with * and with nothing
unfoldable pub start : Field → Language ℕ
start field =
    either (point field (least field)) (either (word (codes "*") (least field)) (word (codes "") (least field)))

-- the numbers from one to the greatest in steps: a/s, */s and /s
unfoldable pub stepped : Field → Language Steps
stepped field = joined 47 (start field) (λ first. meaning (λ by. steps first (greatest field) by) (numbers 1 31))

-- one item of a field
unfoldable pub item : Field → Language Steps
item field = either (single field) (either (range field) (stepped field))

-- all numbers of the field
abbrev pub everything : Field → ℕ
everything field = set_of (is_step (steps (least field) (greatest field) 1)) (greatest field + 1)

-- a field may be ?, which is *
abbrev pub may_be_open : Field → Bool
may_be_open Hours = false
may_be_open Days = true
may_be_open Months = false
may_be_open Weekdays = true

-- a field, and the set that it says: items with commas between them, or * or ?
unfoldable pub items : Field → Language ℕ
items field = meaning (set_of_all (greatest field)) (listed 44 (item field))

unfoldable pub whole : Field → Language ℕ
whole field = either (word (codes "*") (everything field)) (where_true (may_be_open field) (word (codes "?")
    (everything field)))

unfoldable pub field_of : Field → Language ℕ
field_of field = either (items field) (whole field)

abbrev pub day_set : ℕ → Bool → DaySet
day_set set last = record { set = set; last = last }

-- the field of days, which may also be L, the month's last day
unfoldable pub days_field : Language DaySet
days_field = either (meaning (λ set. day_set set false) (field_of Days)) (word (codes "L") (day_set 0 true))

-- ---- a cron: 0 <hours> <days> <months> <weekdays> *

abbrev pub cron_of : ℕ → DaySet → ℕ → ℕ → Cron
cron_of hours days months weekdays =
    record { hours = hours; days = days.set; last_day = days.last; months = months; weekdays = weekdays }

unfoldable pub cron_from_weekdays : ℕ → DaySet → ℕ → Language Cron
cron_from_weekdays hours days months =
    joined 32 (field_of Weekdays) (λ weekdays. word (codes "*") (cron_of hours days months weekdays))

unfoldable pub cron_from_months : ℕ → DaySet → Language Cron
cron_from_months hours days = joined 32 (field_of Months) (λ months. cron_from_weekdays hours days months)

unfoldable pub cron_from_days : ℕ → Language Cron
cron_from_days hours = joined 32 days_field (λ days. cron_from_months hours days)

unfoldable pub cron_from_hours : Language Cron
cron_from_hours = joined 32 (field_of Hours) (λ hours. cron_from_days hours)

unfoldable pub cron : Language Cron
cron = joined {V = ℕ} 32 (word (codes "0") 0) (λ minute. cron_from_hours)

-- ---- a rate: <number> <unit>, as seconds

-- so many hours, from 4 on, or days, up to 1,000
unfoldable pub unit : ℕ → Language ℕ
unit number =
    either
    (where_true (nat_le 4 number)
    (either (word (codes "hour") (number * 3_600)) (word (codes "hours") (number * 3_600))))
    (where_true (nat_le number 1_000)
    (either (word (codes "day") (number * 86_400)) (word (codes "days") (number * 86_400))))

unfoldable pub rate : Language ℕ
rate = joined 32 (numbers 1 24_000) unit

-- ---- a schedule: rate(..) or cron(..)

unfoldable pub kind : Language Kind
kind = either (word (codes "rate") OfRate) (word (codes "cron") OfCron)

unfoldable pub inner : Kind → Language Schedule
inner OfRate = joined 41 rate (λ seconds. word (codes "") (Rate seconds))
inner OfCron = joined 41 cron (λ cron. word (codes "") (ByCron cron))

unfoldable pub schedule : Language Schedule
schedule = joined 40 kind inner

-- what a text says, where it is a spelling
abbrev pub schedule_of : List ℕ → Option Schedule
schedule_of text = schedule.value text

-- the text is a spelling
abbrev pub is_schedule : List ℕ → Bool
is_schedule text = is_some (schedule_of text)

-- the spelling of a schedule, of at most 256 bytes
abbrev pub is_schedule_expression : List ℕ → Bool
is_schedule_expression text = nat_le (length text) SCHEDULE_LIMIT && is_schedule text

-- why a text is refused: it is no spelling, with the first place that no spelling continues
abbrev pub IsRefused : List ℕ → ScheduleRefused → Type 0
IsRefused text (Spelling place) = IsFirstFault is_schedule text place
