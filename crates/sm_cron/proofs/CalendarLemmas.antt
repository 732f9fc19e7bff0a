-- The days of the calendar and jiff's dates.
use Rattle.std.proofs.Common.{◌≡◌, ◌≢◌, ℕ, zero, suc, ◌+◌, ◌%◌, ◌<◌, ◌≤◌, refl, sym, ◌∙◌, ap, subst, inl, inr, arith, ℤ, pos, nat_eq, ◌==◌, rules}
use Rattle.std.proofs.lemmas.Bool.{cases_Bool, eqb-true, eqb-false}
use Rattle.jiff_core.specs.declared.civil.date.Date.{Date}
use Rattle.jiff_core.specs.Calendar.{days_in_month, days_from_civil, day_count, days_of_years, days_of_months, is_leap_year}
use Rattle.jiff_core.specs.Date.{epoch_day, weekday_of}
use Rattle.jiff_core.proofs.SignedLemmas.{signed_arith}
use Rattle.jiff_core.proofs.DateLemmas.{epoch_day_injective, epoch_day_range, days_from_civil-day, days_from_civil-next_month, days_from_civil-next_year, days_from_civil-max}
use Rattle.jiff_core.proofs.CalendarLemmas.{weekday_number-parts, days_in_month_bounds}
use Rattle.jiff_core.proofs.StandardFacts.{known_days}
use Rattle.sm_cron.specs.Civil.{Civil, Shows, is_last_of_month, tomorrow, civil_at, weekday_at}

-- the day number of a day of the calendar
abbrev pub number : Civil → ℤ
number civil = days_from_civil (pos civil.year) civil.month civil.day

-- a day of the calendar, with the day number n
pub record IsDay (civil : Civil) (n : ℕ) : Type 0 where
  pub year : civil.year ≤ 9999
  pub month : (1 ≤ civil.month) × (civil.month ≤ 12)
  pub day : (1 ≤ civil.day) × (civil.day ≤ days_in_month (pos civil.year) civil.month)
  pub is : number civil ≡ pos n

-- within a month
day_within : (civil : Civil) (n : ℕ) → IsDay civil n → civil.day ≢ days_in_month (pos civil.year) civil.month
    → IsDay (record { year = civil.year; month = civil.month; day = civil.day + 1 }) (suc n)
day_within civil n day before = record {
  year = day.year;
  month = day.month;
  day = (omega (arith, day.day), omega (arith, day.day, before));
  is = omega (
    arith,
    signed_arith,
    day.is,
    day.day,
    days_from_civil-day (pos civil.year) civil.month civil.day (civil.day + 1) (omega (arith, day.day)) (omega arith),
  );
}

-- from a month to the next
month_within : (civil : Civil) (n : ℕ) → IsDay civil n → civil.day ≡ days_in_month (pos civil.year) civil.month
    → civil.month ≢ 12 → IsDay (record { year = civil.year; month = civil.month + 1; day = 1 }) (suc n)
month_within civil n day last before = record {
  year = day.year;
  month = (omega (arith, day.month), omega (arith, day.month, before));
  day = (omega arith, omega (arith, days_in_month_bounds (pos civil.year) (civil.month + 1)));
  is = omega (
    arith,
    signed_arith,
    day.is,
    day.month,
    days_from_civil-next_month (pos civil.year) civil.month civil.day (omega (arith, day.month)) last,
  );
}

-- from a year to the next
year_within : (civil : Civil) (n : ℕ) → n < 2_932_896 → IsDay civil n
    → civil.day ≡ days_in_month (pos civil.year) civil.month → civil.month ≡ 12
    → IsDay (record { year = civil.year + 1; month = 1; day = 1 }) (suc n)
year_within civil n below day last december =
    let long : days_in_month (pos civil.year) civil.month ≡ 31 = rw december refl in
    let end : days_from_civil (pos civil.year) 12 31 ≡ pos n =
    subst (λ m. days_from_civil (pos civil.year) m 31 ≡ pos n) december
    (subst (λ d. days_from_civil (pos civil.year) civil.month d ≡ pos n) (last ∙ long) day.is) in
    let not_last : civil.year ≢ 9999 = λ e. absurd (omega (
      arith,
      signed_arith,
      sym (subst (λ y. days_from_civil (pos y) 12 31 ≡ pos n) e end) ∙ days_from_civil-max,
    )) in
    record {
      year = omega (arith, day.year, not_last);
      month = (omega arith, omega arith);
      day = (omega arith, omega arith);
      is = omega (
        arith,
        signed_arith,
        end,
        days_from_civil-next_year (pos civil.year) (pos (civil.year + 1)) (omega (arith, signed_arith)) (omega
            (arith, signed_arith)),
      );
    }

-- before the last day of the year 9999, the day that follows has the next number
next_day : (civil : Civil) (n : ℕ) → n < 2_932_896 → IsDay civil n → IsDay (tomorrow civil) (suc n)
next_day civil n below day = elim (cases_Bool (is_last_of_month civil)) [
  | inl last ↦ elim (cases_Bool (nat_eq civil.month 12)) [
    | inl december ↦ rw (last, december) (year_within civil n below day (eqb-true _ _ last) (eqb-true _ _ december))
    | inr other ↦ rw (last, other) (month_within civil n day (eqb-true _ _ last) (eqb-false _ _ other))
  ]
  | inr within ↦ rw within (day_within civil n day (eqb-false _ _ within))
]

pub is_day_at : (n : ℕ) → n ≤ 2_932_896 → IsDay (civil_at n) n
unfolding civil_at
is_day_at zero h = record {
  year = omega arith;
  month = (omega arith, omega arith);
  day = (omega arith, omega arith);
  is = known_days.0;
}
is_day_at (suc n) h = next_day (civil_at n) n (omega arith) (is_day_at n (omega arith))

-- a date whose day number is n is the day that comes n days after 1 January 1970
pub date_is_at : (date : Date) (n : ℕ) → epoch_day date ≡ pos n → Shows date (civil_at n)
date_is_at date n is =
    let day = is_day_at n (omega (arith, signed_arith, epoch_day_range date)) in
    let here : Date = record {
      year = pos (civil_at n).year;
      month = (civil_at n).month;
      day = (civil_at n).day;
      year_in = (omega (arith, signed_arith), omega (arith, signed_arith, day.year));
      month_in = day.month;
      day_in = day.day;
    } in
    let same = epoch_day_injective date here (is ∙ sym day.is) in
    record { year = same.0; month = same.1; day = same.2 }

-- and it is the last of its month where its day is
pub last_shown : (date : Date) (civil : Civil) → Shows date civil
    → (date.day == days_in_month date.year date.month) ≡ is_last_of_month civil
last_shown date civil same = rw (same.year, same.month, same.day) refl

-- weekdays, from Monday and from Sunday
pub weekday_is : (date : Date) (n : ℕ) → epoch_day date ≡ pos n → (weekday_of date + 1) % 7 + 1 ≡ weekday_at n
weekday_is date n is = omega (arith, signed_arith, weekday_number-parts (epoch_day date))

-- ---- the calendar repeats

-- the day of a year, a month and a day
abbrev made : ℕ → ℕ → ℕ → Civil
made year month day = record { year = year; month = month; day = day }

-- 400 years later
abbrev pub later : Civil → Civil
later civil = record { year = civil.year + 400; month = civil.month; day = civil.day }

leap_later : (y : ℕ) → is_leap_year (pos (y + 400)) ≡ is_leap_year (pos y)
leap_later y =
    let four : (y + 400) % 4 ≡ y % 4 = omega arith in
    let hundred : (y + 400) % 100 ≡ y % 100 = omega arith in
    let all : (y + 400) % 400 ≡ y % 400 = omega arith in
    rw (four, hundred, all) refl

month_later : (y m : ℕ) → days_in_month (pos (y + 400)) m ≡ days_in_month (pos y) m
month_later y m = rw (leap_later y) refl

pub last_later : (civil : Civil) → is_last_of_month (later civil) ≡ is_last_of_month civil
last_later civil = rw (month_later civil.year civil.month) refl

tomorrow_later : (civil : Civil) → tomorrow (later civil) ≡ later (tomorrow civil)
tomorrow_later civil = elim (cases_Bool (is_last_of_month civil)) [
  | inl last ↦ elim (cases_Bool (nat_eq civil.month 12)) [
    | inl december ↦ rw (month_later civil.year civil.month, last, december) (ap (λ y. made y 1 1) (omega arith))
    | inr other ↦ rw (month_later civil.year civil.month, last, other) refl
  ]
  | inr within ↦ rw (month_later civil.year civil.month, within) refl
]

first_day : civil_at 0 ≡ record { year = 1970; month = 1; day = 1 }
unfolding civil_at
first_day = refl

cycle_day : days_from_civil (pos 2370) 1 1 ≡ pos 146_097
unfolding days_from_civil day_count days_of_years days_of_months
cycle_day = refl

cycle_date : Date
cycle_date = record {
  year = pos 2370;
  month = 1;
  day = 1;
  year_in = search rules;
  month_in = search rules;
  day_in = search rules;
}

cycle_start : civil_at 146_097 ≡ later (civil_at 0)
unfolding cycle_date
cycle_start =
    let shown = date_is_at cycle_date 146_097 cycle_day in
    let year : (civil_at 146_097).year ≡ 2370 = omega (arith, signed_arith, shown.year) in
    let month : (civil_at 146_097).month ≡ 1 = sym shown.month in
    let day : (civil_at 146_097).day ≡ 1 = sym shown.day in
    rw first_day (parts (civil_at 146_097) year month day)
  where
    parts : (civil : Civil) → civil.year ≡ 2370 → civil.month ≡ 1 → civil.day ≡ 1
        → civil ≡ record { year = 2370; month = 1; day = 1 }
    parts civil year month day =
        ap (λ y. made y civil.month civil.day) year ∙ ap (λ m. made 2370 m civil.day) month
        ∙ ap (λ d. made 2370 1 d) day

pub civil_later : (n : ℕ) → civil_at (n + 146_097) ≡ later (civil_at n)
unfolding civil_at
civil_later zero = cycle_start
civil_later (suc n) =
    let next : suc n + 146_097 ≡ suc (n + 146_097) = omega arith in
    rw next (ap tomorrow (civil_later n) ∙ tomorrow_later (civil_at n))
