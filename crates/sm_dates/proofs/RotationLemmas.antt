-- When a secret is rotated next is a date that it may keep.
use Rattle.std.proofs.Common.{◌≡◌, ℕ, ◌≤◌, true, List, Option, Some, None, IfSome, IsTrue, refl, arith, option_map, option_and_then}
use Rattle.std.proofs.lemmas.Bool.Decides.{nat_tests}
use Rattle.sm_base.specs.declared.moment.Moment.{Moment}
use Rattle.sm_base.specs.declared.moment.TheConstants.{LAST_READING}
use Rattle.sm_base.specs.declared.limits.TheConstants.{LAST_ROTATION_DATE}
use Rattle.sm_model.specs.declared.rows.Rotation.{Rotation}
use Rattle.sm_model.specs.Bounds.{fits, are_days, is_rotation_date}
use Rattle.sm_cron.specs.declared.schedule.Schedule.{Schedule}
use Rattle.sm_cron.specs.declared.schedule.Schedule.TheVariants.{Rate, Cron as ByCron}
use Rattle.sm_cron.specs.Spelling.{schedule_of}
use Rattle.sm_cron.specs.Next.{next_of, next_of_cron, IsInReach}
use Rattle.sm_cron.proofs.NextLemmas.{within_right}
use Rattle.sm_cron.proofs.SpellingLemmas.{says_schedule}
use Rattle.sm_dates.specs.Days.{days_after, at_second, kept_schedule, next_by, rotation_after}

-- a kept schedule is a rate of at most 1,000 days, or a cron
kept_in_reach : (rotation : Rotation) → IfSome (kept_schedule rotation) IsInReach
kept_in_reach rotation = by rotation.schedule
  where
    read : (text : List ℕ) (o : Option Schedule) → schedule_of text ≡ o → IfSome o IsInReach
    read text None is = tt
    read text (Some s) is = says_schedule.says text s is

    by : (o : Option (List ℕ)) → IfSome (option_and_then schedule_of o) IsInReach
    by None = tt
    by (Some text) = read text (schedule_of text) refl

cron_fits : (o : Option ℕ) → IfSome o (λ at. at ≤ LAST_ROTATION_DATE)
    → fits is_rotation_date (option_map at_second o) ≡ true
cron_fits None within = refl
cron_fits (Some second) within = grind (arith, nat_tests)

schedule_fits : (s : Schedule) (moment : Moment) → moment.0 ≤ LAST_READING → IsInReach s
    → fits is_rotation_date (option_map at_second (next_of s moment.0)) ≡ true
schedule_fits (Rate seconds) moment early reach = grind (arith, nat_tests)
schedule_fits (ByCron cron) moment early reach =
    cron_fits (next_of_cron cron moment.0) (within_right cron moment.0 (next_of_cron cron moment.0) early refl)

days_fit : (days : Option ℕ) (moment : Moment) → moment.0 ≤ LAST_READING → fits are_days days ≡ true
    → fits is_rotation_date (option_map (days_after moment) days) ≡ true
days_fit None moment early fit = refl
days_fit (Some days) moment early fit = grind (arith, nat_tests)

next_fits : (o : Option Schedule) (days : Option ℕ) (moment : Moment) → moment.0 ≤ LAST_READING
    → IfSome o IsInReach → fits are_days days ≡ true → fits is_rotation_date (next_by o days moment) ≡ true
next_fits (Some s) days moment early reach fit = schedule_fits s moment early reach
next_fits None days moment early reach fit = days_fit days moment early fit

-- the next date of a rotation is one that a secret may keep, whatever schedule it keeps
pub rotation_after_fits : (rotation : Rotation) (moment : Moment) → moment.0 ≤ LAST_READING
    → IsTrue (fits are_days rotation.days) → IsTrue (fits is_rotation_date (rotation_after rotation moment))
rotation_after_fits rotation moment early fit =
    next_fits (kept_schedule rotation) rotation.days moment early (kept_in_reach rotation) fit
