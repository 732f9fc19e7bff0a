-- The search for the next moment, a day at a time.
use Rattle.std.proofs.Common.{◌≡◌, ℕ, ◌+◌, ◌*◌, ◌/◌, ◌%◌, ◌<◌, ◌≤◌, true, false, ◌==◌, Some, None, refl, inl, inr, arith}
use Rattle.std.proofs.lemmas.Bool.{cases_lt, and_left, and_right, false_from_ne_true}
use Rattle.sm_cron.specs.declared.schedule.Cron.{Cron}
use Rattle.sm_cron.specs.Days.{IsFirstOn, IsNoneOn, IsNoneBefore, IsNoneUntil}
use Rattle.sm_cron.specs.Next.{is_day_of, matches, next_of_cron}
use Rattle.sm_cron.specs.Sets.{has}
use Rattle.sm_cron.proofs.NextLemmas.{matched_hour, never_after, next_is, never_is}

-- the hours of a day
hour_named : (cron : Cron) (day hour : ℕ) → hour < 24 → has cron.hours hour ≡ true → is_day_of cron day ≡ true
    → matches cron (day * 86_400 + hour * 3_600) ≡ true
unfolding matches
hour_named cron day hour within named on =
    let begins : (day * 86_400 + hour * 3_600) % 3_600 ≡ 0 = omega arith in
    let of_day : (day * 86_400 + hour * 3_600) / 3_600 % 24 ≡ hour = omega arith in
    let is_day : (day * 86_400 + hour * 3_600) / 86_400 ≡ day = omega arith in
    rw (begins, of_day, is_day, named, on) refl

hour_unnamed : (cron : Cron) (hour other : ℕ) → other / 3_600 % 24 ≡ hour → has cron.hours hour ≡ false
    → matches cron other ≡ false
unfolding matches
hour_unnamed cron hour other is unnamed =
    rw is (and_left _ (is_day_of cron (other / 86_400)) (and_right (other % 3_600 == 0) _ unnamed))

-- no moment of a day that is none of the schedule's
pub none_of_day : (cron : Cron) (day moment : ℕ) → is_day_of cron day ≡ false → IsNoneOn cron day moment
unfolding matches
none_of_day cron day moment off other above on = rw on (and_right _ _ off)

-- nor of an hour that isn't
pub none_of_hour : (cron : Cron) (day hour moment : ℕ) → has cron.hours hour ≡ false → hour < 24
    → IsNoneBefore cron day moment hour → IsNoneBefore cron day moment (hour + 1)
none_of_hour cron day hour moment unnamed within before other above on under =
    elim (cases_lt other (day * 86_400 + hour * 3_600)) [
      | inl earlier ↦ before other above on earlier
      | inr here ↦ hour_unnamed cron hour other (omega arith) unnamed
    ]

-- nor of one that does not begin above the moment
pub none_above : (cron : Cron) (day hour moment : ℕ) → day * 86_400 + hour * 3_600 ≤ moment → hour < 24
    → IsNoneBefore cron day moment hour → IsNoneBefore cron day moment (hour + 1)
none_above cron day hour moment begun within before other above on under =
    elim (cases_lt other (day * 86_400 + hour * 3_600)) [
      | inl earlier ↦ before other above on earlier
      | inr here ↦ false_from_ne_true _ (λ matched. absurd (omega (arith, matched_hour cron other matched)))
    ]

pub first_of_day : (cron : Cron) (day hour moment : ℕ) → hour < 24 → moment < day * 86_400 + hour * 3_600
    → has cron.hours hour ≡ true → is_day_of cron day ≡ true → IsNoneBefore cron day moment hour
    → IsFirstOn cron day moment (day * 86_400 + hour * 3_600)
first_of_day cron day hour moment within above named on before = record {
  above = above;
  on = omega arith;
  matched = hour_named cron day hour within named on;
  least = before;
}

pub none_begun : (cron : Cron) (day moment : ℕ) → IsNoneBefore cron day moment 0
none_begun cron day moment other above on under = absurd (omega arith)

pub none_of_hours : (cron : Cron) (day moment : ℕ) → IsNoneBefore cron day moment 24 → IsNoneOn cron day moment
none_of_hours cron day moment before other above on = before other above on (omega arith)

-- one day after the other
pub none_today : (cron : Cron) (moment : ℕ) → IsNoneUntil cron moment (moment / 86_400)
none_today cron moment other above under = absurd (omega arith)

pub none_more : (cron : Cron) (moment day : ℕ) → IsNoneUntil cron moment day → IsNoneOn cron day moment
    → IsNoneUntil cron moment (day + 1)
none_more cron moment day until on other above under = elim (cases_lt (other / 86_400) day) [
  | inl earlier ↦ until other above earlier
  | inr here ↦ on other above (omega arith)
]

pub found_on : (cron : Cron) (moment day at : ℕ) → IsNoneUntil cron moment day → IsFirstOn cron day moment at
    → next_of_cron cron moment ≡ Some at
found_on cron moment day at until first = next_is cron moment at (record {
  above = first.above;
  matched = first.matched;
  least = λ other above under. elim (cases_lt (other / 86_400) day) [
    | inl earlier ↦ until other above earlier
    | inr here ↦ first.least other above (omega (arith, first.on)) under
  ];
})

pub never_found : (cron : Cron) (moment : ℕ) → IsNoneUntil cron moment (moment / 86_400 + 146_097 + 1)
    → next_of_cron cron moment ≡ None
never_found cron moment until =
    never_is cron moment (never_after cron moment (λ other above within. until other above (omega arith)))
