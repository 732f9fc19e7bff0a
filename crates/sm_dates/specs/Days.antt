-- Days, their dates in UTC, and when a secret is rotated next.
-- AWS Secrets Manager API Reference: DeleteSecret (RecoveryWindowInDays, DeletionDate), RotationRulesType
-- (AutomaticallyAfterDays, ScheduleExpression), DescribeSecret (NextRotationDate).
use Rattle.std.specs.Prelude.{◌≡◌, ℕ, ◌+◌, ◌*◌, ◌/◌, pos, List, Option, Some, None, option_map, option_and_then}
use Rattle.sm_base.specs.declared.moment.Moment.{Moment}
use Rattle.sm_model.specs.declared.rows.Rotation.{Rotation}
use Rattle.sm_cron.specs.declared.schedule.Schedule.{Schedule}
use Rattle.sm_cron.specs.Spelling.{schedule_of}
use Rattle.sm_cron.specs.Next.{next_of}
use Rattle.jiff_core.specs.declared.civil.date.Date.{Date}
use Rattle.jiff_core.specs.Date.{epoch_day}
use Rattle.jiff_fmt.specs.Text.{date_text}

-- so many days of 86,400 seconds after a moment
abbrev pub days_after : Moment → ℕ → Moment
days_after moment days = record { 0 = moment.0 + 86_400 * days }

abbrev pub at_second : ℕ → Moment
at_second second = record { 0 = second }

-- the schedule that a rotation keeps, where the text that it keeps is a spelling
abbrev pub kept_schedule : Rotation → Option Schedule
kept_schedule rotation = option_and_then schedule_of rotation.schedule

-- when a schedule comes next after a moment; without a schedule so many days later, where there are days
abbrev pub next_by : Option Schedule → Option ℕ → Moment → Option Moment
next_by (Some schedule) days moment = option_map at_second (next_of schedule moment.0)
next_by None days moment = option_map (days_after moment) days

-- when a secret is rotated next after a rotation at a moment: by the kept schedule, else by the kept days
abbrev pub rotation_after : Rotation → Moment → Option Moment
rotation_after rotation moment = next_by (kept_schedule rotation) rotation.days moment

-- The text is the date, as year, month and day, whose number of days since 1 January 1970 is that of the moment in UTC.
abbrev pub IsDateOf : Moment → List ℕ → Type 0
IsDateOf moment text =
    (date : Date) × (epoch_day date ≡ pos (moment.0 / 86_400)) × (text ≡ date_text date)
