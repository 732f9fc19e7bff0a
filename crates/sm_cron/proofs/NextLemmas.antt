-- The least moment of a schedule above another, and that there is none where the calendar's whole round has none.
use Rattle.std.proofs.Common.{◌≡◌, ℕ, zero, suc, ◌+◌, ◌-◌, ◌*◌, ◌/◌, ◌%◌, ◌<◌, ◌≤◌, true, false, Option, Some, None, IfSome, IfNone, refl, sym, ◌∙◌, ap, subst, inl, inr, arith}
use Rattle.std.proofs.lemmas.Bool.{cases_Bool, cases_lt, cases_order, and_parts, eqb-true, false_from_ne_true, both_ways}
use Rattle.std.proofs.lemmas.Option.{none-some}
use Rattle.sm_cron.specs.declared.schedule.Cron.{Cron}
use Rattle.sm_cron.specs.Civil.{Civil, civil_at, weekday_at}
use Rattle.sm_base.specs.declared.limits.TheConstants.{LAST_ROTATION_DATE}
use Rattle.sm_base.specs.declared.moment.TheConstants.{LAST_READING}
use Rattle.sm_cron.specs.declared.schedule.Schedule.{Schedule}
use Rattle.sm_cron.specs.declared.schedule.Schedule.TheVariants.{Rate, Cron as ByCron}
use Rattle.sm_cron.specs.Next.{is_date_of, is_day_of, matches, first_of_hours, next_of_cron, next_of, IsLeastAbove, IsNeverAbove, IsNext, IsNever}
use Rattle.sm_cron.proofs.CalendarLemmas.{later, last_later, civil_later}

-- ---- the moments of a schedule begin hours, and come again after 146,097 days

pub matched_hour : (cron : Cron) (moment : ℕ) → matches cron moment ≡ true → moment ≡ moment / 3_600 * 3_600
unfolding matches
matched_hour cron moment matched =
    let whole : moment % 3_600 ≡ 0 = eqb-true _ _ (and_parts _ _ (and_parts _ _ matched).0).0 in
    omega (arith, whole)

date_later : (cron : Cron) (civil : Civil) → is_date_of cron (later civil) ≡ is_date_of cron civil
date_later cron civil = rw (last_later civil) refl

day_later : (cron : Cron) (day : ℕ) → is_day_of cron (day + 146_097) ≡ is_day_of cron day
unfolding is_day_of
day_later cron day =
    let week : weekday_at (day + 146_097) ≡ weekday_at day = omega arith in
    rw (week, civil_later day, date_later cron (civil_at day)) refl

pub matches_later : (cron : Cron) (moment : ℕ) → matches cron (moment + 12_622_780_800) ≡ matches cron moment
unfolding matches
matches_later cron moment =
    let whole : (moment + 12_622_780_800) % 3_600 ≡ moment % 3_600 = omega arith in
    let hour : (moment + 12_622_780_800) / 3_600 % 24 ≡ moment / 3_600 % 24 = omega arith in
    let day : (moment + 12_622_780_800) / 86_400 ≡ moment / 86_400 + 146_097 = omega arith in
    rw (whole, hour, day, day_later cron (moment / 86_400)) refl

-- ---- the first of so many hours

first_here : (cron : Cron) (n first : ℕ) → matches cron (first * 3_600) ≡ true
    → first_of_hours cron (suc n) first ≡ Some (first * 3_600)
unfolding first_of_hours
first_here cron n first matched = rw matched refl

first_further : (cron : Cron) (n first : ℕ) → matches cron (first * 3_600) ≡ false
    → first_of_hours cron (suc n) first ≡ first_of_hours cron n (first + 1)
unfolding first_of_hours
first_further cron n first unmatched = rw unmatched refl

first_of_none : (cron : Cron) (first : ℕ) → first_of_hours cron 0 first ≡ None
unfolding first_of_hours
first_of_none cron first = refl

-- what holds of the first of some hours and of the later ones
from_first : (P : ℕ → Type 0) (first hour : ℕ) → P first → (first + 1 ≤ hour → P hour) → first ≤ hour → P hour
from_first P first hour here further from = elim (cases_order first hour) [
  | inl same ↦ subst P same here
  | inr (inl under) ↦ further (omega arith)
  | inr (inr over) ↦ absurd (omega arith)
]

-- an hour of a schedule, from a first one on, with none before it
pub record IsFirstHour (cron : Cron) (n first at : ℕ) : Type 0 where
  pub hour : ℕ
  pub is : at ≡ hour * 3_600
  pub from : first ≤ hour
  pub to : hour < first + n
  pub matched : matches cron (hour * 3_600) ≡ true
  pub before : (other : ℕ) → first ≤ other → other < hour → matches cron (other * 3_600) ≡ false

pub first_found : (cron : Cron) (n first at : ℕ) → first_of_hours cron n first ≡ Some at → IsFirstHour cron n first at
first_found cron zero first at found = absurd (none-some at (sym (first_of_none cron first) ∙ found))
first_found cron (suc n) first at found = elim (cases_Bool (matches cron (first * 3_600))) [
  | inl matched ↦ record {
    hour = first;
    is = some-same (sym found ∙ first_here cron n first matched);
    from = omega arith;
    to = omega arith;
    matched = matched;
    before = λ other from to. absurd (omega arith);
  }
  | inr unmatched ↦
      let further = first_found cron n (first + 1) at (sym (first_further cron n first unmatched) ∙ found) in
      record {
        hour = further.hour;
        is = further.is;
        from = omega (arith, further.from);
        to = omega (arith, further.to);
        matched = further.matched;
        before = λ other from to. from_first (λ h. matches cron (h * 3_600) ≡ false) first other unmatched
            (λ more. further.before other more to) from;
      }
]
  where
    some-same : {a b : ℕ} → Some a ≡ Some b → a ≡ b
    some-same e = cc

pub first_none : (cron : Cron) (n first : ℕ) → first_of_hours cron n first ≡ None
    → (hour : ℕ) → first ≤ hour → hour < first + n → matches cron (hour * 3_600) ≡ false
first_none cron zero first none hour from to = absurd (omega arith)
first_none cron (suc n) first none hour from to = elim (cases_Bool (matches cron (first * 3_600))) [
  | inl matched ↦ absurd (none-some (first * 3_600) (sym none ∙ first_here cron n first matched))
  | inr unmatched ↦ from_first (λ h. matches cron (h * 3_600) ≡ false) first hour unmatched
      (λ more. first_none cron n (first + 1) (sym (first_further cron n first unmatched)
      ∙ none) hour more (omega arith))
      from
]

-- ---- the next moment

-- a moment of a schedule above another begins one of the hours that follow
hour_above : (cron : Cron) (moment at : ℕ) → matches cron at ≡ true → moment < at → moment / 3_600 + 1 ≤ at / 3_600
hour_above cron moment at matched above = omega (arith, matched_hour cron at matched)

-- where none of 146,097 days' hours is named, none is ever
pub never_after : (cron : Cron) (moment : ℕ)
    → ((other : ℕ) → moment < other → other ≤ moment + 12_622_780_800 → matches cron other ≡ false)
    → IsNeverAbove cron moment
never_after cron moment none other above = rounds other other above (omega arith)
  where
    rounds : (n at : ℕ) → moment < at → at ≤ moment + n * 12_622_780_800 → matches cron at ≡ false
    rounds zero at low high = absurd (omega arith)
    rounds (suc n) at low high = elim (cases_lt (moment + 12_622_780_800) at) [
      | inr near ↦ none at low near
      | inl far ↦
          let back : ℕ = at - 12_622_780_800 in
          let same : back + 12_622_780_800 ≡ at = omega arith in
          subst (λ m. matches cron m ≡ false) same
          (matches_later cron back ∙ rounds n back (omega arith) (omega arith))
    ]

none_named : (cron : Cron) (moment : ℕ) → next_of_cron cron moment ≡ None
    → (other : ℕ) → moment < other → other ≤ moment + 12_622_780_800 → matches cron other ≡ false
unfolding next_of_cron
none_named cron moment none other above within = false_from_ne_true _ (λ matched.
    let hour = matched_hour cron other matched in
    let unmatched = first_none cron 3_506_328 (moment / 3_600 + 1) none (other / 3_600)
    (hour_above cron moment other matched above) (omega arith) in
    both_ways _ unmatched (subst (λ m. matches cron m ≡ true) hour matched))

-- None means never.
pub next_none : (cron : Cron) (moment : ℕ) → next_of_cron cron moment ≡ None → IsNeverAbove cron moment
next_none cron moment none = never_after cron moment (none_named cron moment none)

-- What is found is the least, and lies within 146,097 days.
pub next_found : (cron : Cron) (moment at : ℕ) → next_of_cron cron moment ≡ Some at
    → IsLeastAbove cron moment at × (at ≤ moment + 12_622_780_800)
unfolding next_of_cron
next_found cron moment at found =
    let first = first_found cron 3_506_328 (moment / 3_600 + 1) at found in (
      record {
        above = omega (arith, first.is, first.from);
        matched = subst (λ m. matches cron m ≡ true) (sym first.is) first.matched;
        least = λ other above under. false_from_ne_true _ (λ matched.
            let hour = matched_hour cron other matched in
            let unmatched = first.before (other / 3_600) (hour_above cron moment other matched above)
            (omega (arith, first.is)) in
            both_ways _ unmatched (subst (λ m. matches cron m ≡ true) hour matched));
      },
      omega (arith, first.is, first.to),
    )

-- The least is what is found.
pub next_is : (cron : Cron) (moment at : ℕ) → IsLeastAbove cron moment at → next_of_cron cron moment ≡ Some at
next_is cron moment at is = by (next_of_cron cron moment) refl
  where
    by : (o : Option ℕ) → next_of_cron cron moment ≡ o → next_of_cron cron moment ≡ Some at
    by None none = absurd (both_ways _ (next_none cron moment none at is.above) is.matched)
    by (Some other) found =
        let least = (next_found cron moment other found).0 in
        elim (cases_order other at) [
          | inl same ↦ found ∙ ap (λ m. Some m) same
          | inr (inl under) ↦ absurd (both_ways _ (is.least other least.above under) least.matched)
          | inr (inr over) ↦ absurd (both_ways _ (least.least at is.above over) is.matched)
        ]

pub never_is : (cron : Cron) (moment : ℕ) → IsNeverAbove cron moment → next_of_cron cron moment ≡ None
never_is cron moment never = by (next_of_cron cron moment) refl
  where
    by : (o : Option ℕ) → next_of_cron cron moment ≡ o → next_of_cron cron moment ≡ None
    by None none = none
    by (Some at) found =
        let least = (next_found cron moment at found).0 in
        absurd (both_ways _ (never at least.above) least.matched)

-- ---- what the answer says of a schedule

pub found_right : (schedule : Schedule) (moment : ℕ) (o : Option ℕ) → o ≡ next_of schedule moment
    → IfSome o (λ at. IsNext schedule moment at)
found_right (Rate seconds) moment None is = tt
found_right (Rate seconds) moment (Some at) is = (let same : at ≡ moment + seconds = cc in same)
found_right (ByCron cron) moment None is = tt
found_right (ByCron cron) moment (Some at) is = (next_found cron moment at (sym is)).0

pub never_right : (schedule : Schedule) (moment : ℕ) (o : Option ℕ) → o ≡ next_of schedule moment
    → IfNone o (IsNever schedule moment)
never_right (Rate seconds) moment None is = absurd (none-some (moment + seconds) is)
never_right (Rate seconds) moment (Some at) is = tt
never_right (ByCron cron) moment None is = next_none cron moment (sym is)
never_right (ByCron cron) moment (Some at) is = tt

pub within_right : (cron : Cron) (moment : ℕ) (o : Option ℕ) → moment ≤ LAST_READING → o ≡ next_of_cron cron moment
    → IfSome o (λ at. at ≤ LAST_ROTATION_DATE)
within_right cron moment None low is = tt
within_right cron moment (Some at) low is = omega (arith, (next_found cron moment at (sym is)).1)
