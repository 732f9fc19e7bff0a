-- The spelling of schedules: each of its languages is right, and can be told from what follows it.
use Rattle.std.proofs.Common.{◌≡◌, ℕ, ◌+◌, ◌*◌, ◌^◌, ◌<◌, ◌≤◌, Bool, true, false, ◌==◌, nat_le, List, [], ◌∷◌, length, take, codes, IsTrue, bit_or, Option, Some, None, refl, sym, ◌∙◌, ap, subst, inl, inr, arith}
use Rattle.std.proofs.lemmas.Bool.{and_parts, leb-true, le-leb, ne_eqb, cases_lt, false≢true}
use Rattle.std.specs.Char.{is_ascii_digit}
use Rattle.std.specs.List.{list_all}
use Rattle.sm_cron.specs.declared.days.Days.{Days as DaySet}
use Rattle.sm_cron.specs.declared.field.Field.{Field}
use Rattle.sm_cron.specs.declared.field.Field.TheVariants.{Hours, Days, Months, Weekdays}
use Rattle.sm_cron.specs.declared.schedule.Cron.{Cron}
use Rattle.sm_cron.specs.declared.schedule.Schedule.{Schedule}
use Rattle.sm_cron.specs.declared.schedule.Schedule.TheVariants.{Rate, Cron as ByCron}
use Rattle.sm_cron.specs.declared.spelling.Kind.{Kind}
use Rattle.sm_cron.specs.declared.spelling.Kind.TheVariants.{OfRate, OfCron}
use Rattle.sm_cron.specs.declared.steps.Steps.{Steps}
use Rattle.sm_cron.specs.Languages.{Language, IsRight, word, meaning, listed, numbers, parted, reading, reading_of}
use Rattle.sm_cron.specs.declared.reading.Reading.{Reading}
use Rattle.sm_cron.specs.declared.reading.Reading.TheVariants.{Text, Front, Fault}
use Rattle.sm_cron.specs.Next.{IsInReach}
use Rattle.sm_cron.specs.Spelling.{least, greatest, names, point, single, range, start, stepped, item, items, whole, field_of, days_field, may_be_open, cron_of, cron_from_weekdays, cron_from_months, cron_from_days, cron_from_hours, cron, unit, rate, kind, inner, schedule, is_schedule, steps}
use Rattle.sm_base.specs.FirstFault.{IsFirstFault}
use Rattle.std.specs.Option.{is_some}
use Rattle.sm_cron.specs.Sets.{set_of, set_of_all, is_step}
use Rattle.sm_cron.proofs.JoinedLemmas.{GoesOn, right-joined, avoids-joined, says-joined, lively-joined}
use Rattle.sm_cron.proofs.ReadingLemmas.{said_of, meaning_same, with_meaning}
use Rattle.sm_cron.proofs.SetLemmas.{set_bound, set_first, set_with}
use Rattle.sm_cron.proofs.LanguageLemmas.{Avoids, Says, text_begins, right-word, avoids-word, says-word, right-either, avoids-either, says-either, lively_one, lively_other, right-where_true, avoids-where_true, says-where_true, lively-where_true, right-meaning, lively-meaning, lively-word, avoids-meaning, says-meaning, right-words_of, avoids-words_of, says-words_of, AreUnmarked}
use Rattle.sm_cron.proofs.ListedLemmas.{right-listed, avoids-listed, lively-listed, gathered_more, gathered_broken, gathered_last}
use Rattle.sm_cron.proofs.NumberLemmas.{IsFair, right-numbers, avoids-numbers, says-numbers, lively-numbers}
use Rattle.sm_cron.proofs.PartedLemmas.{parted_none, unparted_on}

-- ---- what a language does not have

-- a mark that is neither a digit nor a capital letter
record IsMark (mark : ℕ) : Type 0 where
  no_digit : is_ascii_digit mark ≡ false
  no_letter : mark < 65

letters_unmarked : (mark : ℕ) (name : List ℕ) → mark < 65 → list_all (nat_le 65) name ≡ true → parted mark name ≡ None
letters_unmarked mark [] low all = parted_none mark
letters_unmarked mark (byte ∷ rest) low all =
    let parts = and_parts _ _ all in
    let above : 65 ≤ byte = leb-true 65 byte parts.0 in
    unparted_on mark byte rest (ne_eqb byte mark (λ same. absurd (omega arith)))
    (letters_unmarked mark rest low parts.1)

unmarked_all : (mark : ℕ) (all : List (List ℕ)) → mark < 65 → list_all (list_all (nat_le 65)) all ≡ true
    → AreUnmarked mark all
unmarked_all mark [] low letters = tt
unmarked_all mark (name ∷ more) low letters =
    (let parts = and_parts _ _ letters in
    (letters_unmarked mark name low parts.0, unmarked_all mark more low parts.1))

names_are_letters : (field : Field) → list_all (list_all (nat_le 65)) (names field) ≡ true
unfolding names
names_are_letters Hours = refl
names_are_letters Days = refl
names_are_letters Months = refl
names_are_letters Weekdays = refl

names_fit : (field : Field) → 1 + length (names field) ≤ greatest field + 1
unfolding names
names_fit Hours = omega arith
names_fit Days = omega arith
names_fit Months = omega arith
names_fit Weekdays = omega arith

greatest_small : (field : Field) → (greatest field ≤ 31) × (least field ≤ greatest field)
greatest_small Hours = (omega arith, omega arith)
greatest_small Days = (omega arith, omega arith)
greatest_small Months = (omega arith, omega arith)
greatest_small Weekdays = (omega arith, omega arith)

-- ---- points

avoids_point : (mark : ℕ) (field : Field) (low : ℕ) → IsMark mark → Avoids mark (point field low)
unfolding point
avoids_point mark field low is =
    avoids-either mark _ _ (avoids-numbers mark low (greatest field) is.no_digit)
    (avoids-words_of mark low 1 (names field) (unmarked_all mark (names field) is.no_letter (names_are_letters field)))

pub says_point : (field : Field) (low : ℕ) → Says (λ n. (low ≤ n) × (n ≤ greatest field)) (point field low)
unfolding point
says_point field low =
    says-either _ _ _ (says-numbers low (greatest field)) (says-words_of low 1 (greatest field) (names field)
    (names_fit field))

right_point : (field : Field) (low : ℕ) → low ≤ greatest field → IsRight (point field low)
unfolding point
right_point field low within =
    let small = greatest_small field in
    right-either _ _ (right-numbers low (greatest field) (record {
      within = within;
      few = inr (omega
          (arith, small.0));
    }))
    (right-words_of low 1 (names field))

lively_point : (field : Field) (low : ℕ) → (point field low).can_begin [] ≡ true
unfolding point
lively_point field low = lively_one _ _ (lively-numbers low (greatest field))

least_point : (field : Field) → IsRight (point field (least field))
least_point field = right_point field (least field) (greatest_small field).1

-- ---- items

right_single : (field : Field) → IsRight (single field)
unfolding single
right_single field = right-meaning _ _ (least_point field)

avoids_single : (mark : ℕ) (field : Field) → IsMark mark → Avoids mark (single field)
unfolding single
avoids_single mark field is = avoids-meaning _ _ mark (avoids_point mark field (least field) is)

dash : IsMark 45
dash = record { no_digit = refl; no_letter = omega arith }

slash : IsMark 47
slash = record { no_digit = refl; no_letter = omega arith }

pub range_goes : (field : Field) → GoesOn 45 (point field (least field)) (λ first. meaning
    (λ last. steps first last 1) (point field first))
range_goes field = record {
  first = least_point field;
  apart = avoids_point 45 field (least field) dash;
  second = λ text first is. right-meaning _ _ (right_point field first ((says_point field
      (least field)).says text first is).1);
  lively = λ text first is. lively-meaning _ (point field first) (lively_point field first);
}

right_range : (field : Field) → IsRight (range field)
unfolding range
right_range field = right-joined _ _ _ (range_goes field)

avoids_range : (mark : ℕ) (field : Field) → IsMark mark → (45 == mark) ≡ false → Avoids mark (range field)
unfolding range
avoids_range mark field is apart =
    avoids-joined 45 _ _ mark apart (avoids_point mark field (least field) is)
    (λ text first said. avoids-meaning _ _ mark (avoids_point mark field first is))

right_start : (field : Field) → IsRight (start field)
unfolding start
right_start field = right-either _ _ (least_point field) (right-either _ _ (right-word _ _) (right-word _ _))

lively_start : (field : Field) → (start field).can_begin [] ≡ true
unfolding start
lively_start field = lively_one _ _ (lively_point field (least field))

avoids_start : (mark : ℕ) (field : Field) → IsMark mark → (42 == mark) ≡ false → Avoids mark (start field)
unfolding start
avoids_start mark field is apart =
    avoids-either mark _ _ (avoids_point mark field (least field) is)
    (avoids-either mark _ _ (avoids-word mark _ _ (unparted_on mark 42 [] apart (parted_none mark)))
    (avoids-word mark _ _ (parted_none mark)))

says_start : (field : Field) → Says (λ n. (least field ≤ n) × (n ≤ greatest field)) (start field)
unfolding start
says_start field =
    let within = (greatest_small field).1 in
    says-either _ _ _ (says_point field (least field))
    (says-either _ _ _ (says-word _ _ (least field) (omega arith, within)) (says-word _ _ (least field)
    (omega arith, within)))

steps_fair : IsFair 1 31
steps_fair = record { within = omega arith; few = inl (omega arith) }

pub stepped_goes : (field : Field) → GoesOn 47 (start field) (λ first. meaning (λ by. steps first
    (greatest field) by) (numbers 1 31))
stepped_goes field = record {
  first = right_start field;
  apart = avoids_start 47 field slash refl;
  second = λ text first is. right-meaning _ _ (right-numbers 1 31 steps_fair);
  lively = λ text first is. lively-meaning _ (numbers 1 31) (lively-numbers 1 31);
}

right_stepped : (field : Field) → IsRight (stepped field)
unfolding stepped
right_stepped field = right-joined _ _ _ (stepped_goes field)

avoids_stepped : (mark : ℕ) (field : Field) → IsMark mark → (47 == mark) ≡ false → (42 == mark) ≡ false
    → Avoids mark (stepped field)
unfolding stepped
avoids_stepped mark field is apart star =
    avoids-joined 47 _ _ mark apart (avoids_start mark field is star)
    (λ text first said. avoids-meaning _ _ mark (avoids-numbers mark 1 31 is.no_digit))

pub right_item : (field : Field) → IsRight (item field)
unfolding item
right_item field = right-either _ _ (right_single field) (right-either _ _ (right_range field) (right_stepped field))

lively_item : (field : Field) → (item field).can_begin [] ≡ true
unfolding item single
lively_item field = lively_one _ _ (lively-meaning _ (point field (least field)) (lively_point field (least field)))

-- a mark of none of the items
record IsOuter (mark : ℕ) : Type 0 where
  is : IsMark mark
  dash : (45 == mark) ≡ false
  slash : (47 == mark) ≡ false
  star : (42 == mark) ≡ false

avoids_item : (mark : ℕ) (field : Field) → IsOuter mark → Avoids mark (item field)
unfolding item
avoids_item mark field outer =
    avoids-either mark _ _ (avoids_single mark field outer.is)
    (avoids-either mark _ _ (avoids_range mark field outer.is outer.dash)
    (avoids_stepped mark field outer.is outer.slash outer.star))

-- steps go on
abbrev pub GoesUp : Steps → Type 0
GoesUp s = 0 < s.by

pub says_item : (field : Field) → Says GoesUp (item field)
unfolding item single range stepped
says_item field =
    says-either _ _ _ (says-meaning _ _ _ (record { says = λ text n is. omega arith }))
    (says-either _ _ _
    (says-joined 45 _ _ _ (λ text first is. says-meaning _ _ _ (record { says = λ rest n on. omega arith })))
    (says-joined 47 _ _ _ (λ text first is. says-meaning _ _ _
    (record { says = λ rest n on. omega (arith, ((says-numbers 1 31).says rest n on).0) }))))

-- ---- fields

comma : IsOuter 44
comma = record { is = record { no_digit = refl; no_letter = omega arith }; dash = refl; slash = refl; star = refl }

space : IsOuter 32
space = record { is = record { no_digit = refl; no_letter = omega arith }; dash = refl; slash = refl; star = refl }

bracket : IsOuter 41
bracket = record { is = record { no_digit = refl; no_letter = omega arith }; dash = refl; slash = refl; star = refl }

pub items_are : (field : Field) → IsRight (item field) × Avoids 44 (item field)
items_are field = (right_item field, avoids_item 44 field comma)

right_items : (field : Field) → IsRight (items field)
unfolding items
right_items field = right-meaning _ _ (right-listed 44 _ (right_item field) (avoids_item 44 field comma))

avoids_items : (mark : ℕ) (field : Field) → IsOuter mark → (44 == mark) ≡ false → Avoids mark (items field)
unfolding items
avoids_items mark field outer apart = avoids-meaning _ _ mark (avoids-listed 44 _ mark apart
    (avoids_item mark field outer))

lively_items : (field : Field) → (items field).can_begin [] ≡ true
unfolding items
lively_items field = lively-meaning _ _ (lively-listed 44 _ (lively_item field))

right_whole : (field : Field) → IsRight (whole field)
unfolding whole
right_whole field = right-either _ _ (right-word _ _) (right-where_true (may_be_open field) _ (right-word _ _))

avoids_whole : (mark : ℕ) (field : Field) → (42 == mark) ≡ false → (63 == mark) ≡ false → Avoids mark (whole field)
unfolding whole
avoids_whole mark field star question =
    avoids-either mark _ _ (avoids-word mark _ _ (unparted_on mark 42 [] star (parted_none mark)))
    (avoids-where_true mark (may_be_open field) _ (avoids-word mark _ _ (unparted_on mark 63 [] question
    (parted_none mark))))

right_field : (field : Field) → IsRight (field_of field)
unfolding field_of
right_field field = right-either _ _ (right_items field) (right_whole field)

lively_field : (field : Field) → (field_of field).can_begin [] ≡ true
unfolding field_of
lively_field field = lively_one _ _ (lively_items field)

-- a mark of none of the fields
record IsOutermost (mark : ℕ) : Type 0 where
  outer : IsOuter mark
  comma : (44 == mark) ≡ false
  question : (63 == mark) ≡ false
  last : (76 == mark) ≡ false
  zero : (48 == mark) ≡ false

between_fields : IsOutermost 32
between_fields = record { outer = space; comma = refl; question = refl; last = refl; zero = refl }

behind_all : IsOutermost 41
behind_all = record { outer = bracket; comma = refl; question = refl; last = refl; zero = refl }

avoids_field : (mark : ℕ) (field : Field) → IsOutermost mark → Avoids mark (field_of field)
unfolding field_of
avoids_field mark field is =
    avoids-either mark _ _ (avoids_items mark field is.outer is.comma)
    (avoids_whole mark field is.outer.star is.question)

right_days : IsRight days_field
unfolding days_field
right_days = right-either _ _ (right-meaning _ _ (right_field Days)) (right-word _ _)

lively_days : days_field.can_begin [] ≡ true
unfolding days_field
lively_days = lively_one _ _ (lively-meaning _ _ (lively_field Days))

avoids_days : (mark : ℕ) → IsOutermost mark → Avoids mark days_field
unfolding days_field
avoids_days mark is =
    avoids-either mark _ _ (avoids-meaning _ _ mark (avoids_field mark Days is))
    (avoids-word mark _ _ (unparted_on mark 76 [] is.last (parted_none mark)))

-- ---- crons

abbrev end_of : ℕ → DaySet → ℕ → ℕ → Language Cron
end_of hours days months weekdays = word (codes "*") (cron_of hours days months weekdays)

pub weekdays_go : (hours : ℕ) (days : DaySet) (months : ℕ)
    → GoesOn 32 (field_of Weekdays) (λ weekdays. word (codes "*") (cron_of hours days months weekdays))
weekdays_go hours days months = record {
  first = right_field Weekdays;
  apart = avoids_field 32 Weekdays between_fields;
  second = λ text weekdays is. right-word _ _;
  lively = λ text weekdays is. lively-word _ _;
}

right_from_weekdays : (hours : ℕ) (days : DaySet) (months : ℕ) → IsRight (cron_from_weekdays hours days months)
unfolding cron_from_weekdays
right_from_weekdays hours days months = right-joined _ _ _ (weekdays_go hours days months)

lively_from_weekdays : (hours : ℕ) (days : DaySet) (months : ℕ)
    → (cron_from_weekdays hours days months).can_begin [] ≡ true
unfolding cron_from_weekdays
lively_from_weekdays hours days months = lively-joined _ _ _ (lively_field Weekdays)

avoids_from_weekdays : (hours : ℕ) (days : DaySet) (months : ℕ) → Avoids 41 (cron_from_weekdays hours days months)
unfolding cron_from_weekdays
avoids_from_weekdays hours days months =
    avoids-joined 32 _ _ 41 refl (avoids_field 41 Weekdays behind_all)
    (λ text weekdays is. avoids-word 41 _ _ (unparted_on 41 42 [] refl (parted_none 41)))

pub months_go : (hours : ℕ) (days : DaySet) → GoesOn 32 (field_of Months)
    (λ months. cron_from_weekdays hours days months)
months_go hours days = record {
  first = right_field Months;
  apart = avoids_field 32 Months between_fields;
  second = λ text months is. right_from_weekdays hours days months;
  lively = λ text months is. lively_from_weekdays hours days months;
}

right_from_months : (hours : ℕ) (days : DaySet) → IsRight (cron_from_months hours days)
unfolding cron_from_months
right_from_months hours days = right-joined _ _ _ (months_go hours days)

lively_from_months : (hours : ℕ) (days : DaySet) → (cron_from_months hours days).can_begin [] ≡ true
unfolding cron_from_months
lively_from_months hours days = lively-joined _ _ _ (lively_field Months)

avoids_from_months : (hours : ℕ) (days : DaySet) → Avoids 41 (cron_from_months hours days)
unfolding cron_from_months
avoids_from_months hours days =
    avoids-joined 32 _ _ 41 refl (avoids_field 41 Months behind_all)
    (λ text months is. avoids_from_weekdays hours days months)

pub days_go : (hours : ℕ) → GoesOn 32 days_field (λ days. cron_from_months hours days)
days_go hours = record {
  first = right_days;
  apart = avoids_days 32 between_fields;
  second = λ text days is. right_from_months hours days;
  lively = λ text days is. lively_from_months hours days;
}

right_from_days : (hours : ℕ) → IsRight (cron_from_days hours)
unfolding cron_from_days
right_from_days hours = right-joined _ _ _ (days_go hours)

lively_from_days : (hours : ℕ) → (cron_from_days hours).can_begin [] ≡ true
unfolding cron_from_days
lively_from_days hours = lively-joined _ _ _ lively_days

avoids_from_days : (hours : ℕ) → Avoids 41 (cron_from_days hours)
unfolding cron_from_days
avoids_from_days hours =
    avoids-joined 32 _ _ 41 refl (avoids_days 41 behind_all) (λ text days is. avoids_from_months hours days)

pub hours_go : GoesOn 32 (field_of Hours) (λ hours. cron_from_days hours)
hours_go = record {
  first = right_field Hours;
  apart = avoids_field 32 Hours between_fields;
  second = λ text hours is. right_from_days hours;
  lively = λ text hours is. lively_from_days hours;
}

right_from_hours : IsRight cron_from_hours
unfolding cron_from_hours
right_from_hours = right-joined _ _ _ hours_go

lively_from_hours : cron_from_hours.can_begin [] ≡ true
unfolding cron_from_hours
lively_from_hours = lively-joined _ _ _ (lively_field Hours)

avoids_from_hours : Avoids 41 cron_from_hours
unfolding cron_from_hours
avoids_from_hours =
    avoids-joined 32 _ _ 41 refl (avoids_field 41 Hours behind_all) (λ text hours is. avoids_from_days hours)

abbrev minute : Language ℕ
minute = word (codes "0") 0

pub minute_goes : GoesOn 32 (word {V = ℕ} (codes "0") 0) (λ minute. cron_from_hours)
minute_goes = record {
  first = right-word _ _;
  apart = avoids-word 32 _ _ (unparted_on 32 48 [] refl (parted_none 32));
  second = λ text minute is. right_from_hours;
  lively = λ text minute is. lively_from_hours;
}

right_cron : IsRight cron
unfolding cron
right_cron = right-joined _ _ _ minute_goes

lively_cron : cron.can_begin [] ≡ true
unfolding cron
lively_cron = lively-joined _ _ _ (lively-word _ _)

avoids_cron : Avoids 41 cron
unfolding cron
avoids_cron =
    avoids-joined 32 _ _ 41 refl (avoids-word 41 _ _ (unparted_on 41 48 [] refl (parted_none 41)))
    (λ text minute is. avoids_from_hours)

-- ---- rates

right_unit : (number : ℕ) → IsRight (unit number)
unfolding unit
right_unit number =
    right-either _ _ (right-where_true (nat_le 4 number) _ (right-either _ _ (right-word _ _) (right-word _ _)))
    (right-where_true (nat_le number 1_000) _ (right-either _ _ (right-word _ _) (right-word _ _)))

lively_unit : (number : ℕ) → (unit number).can_begin [] ≡ true
unfolding unit
lively_unit number = elim (cases_lt number 4) [
  | inl few ↦ lively_other _ _ (lively-where_true (nat_le number 1_000) _ (le-leb number 1_000 (omega arith))
      (lively_one _ _ (lively-word _ _)))
  | inr many ↦ lively_one _ _ (lively-where_true (nat_le 4 number) _ (le-leb 4 number many)
      (lively_one _ _ (lively-word _ _)))
]

avoids_unit : (number : ℕ) → Avoids 41 (unit number)
unfolding unit
avoids_unit number =
    avoids-either 41 _ _
    (avoids-where_true 41 (nat_le 4 number) _ (avoids-either 41 _ _
    (avoids-word 41 _ _ (letters_unmarked 41 (codes "hour") (omega arith) refl))
    (avoids-word 41 _ _ (letters_unmarked 41 (codes "hours") (omega arith) refl))))
    (avoids-where_true 41 (nat_le number 1_000) _ (avoids-either 41 _ _
    (avoids-word 41 _ _ (letters_unmarked 41 (codes "day") (omega arith) refl))
    (avoids-word 41 _ _ (letters_unmarked 41 (codes "days") (omega arith) refl))))

says_unit : (number : ℕ) → number ≤ 24_000 → Says (λ seconds. seconds ≤ 86_400_000) (unit number)
unfolding unit
says_unit number within =
    says-either _ _ _
    (says-where_true _ (nat_le 4 number) _ (λ many. says-either _ _ _
    (says-word _ _ (number * 3_600) (omega arith)) (says-word _ _ (number * 3_600) (omega arith))))
    (says-where_true _ (nat_le number 1_000) _ (λ few. says-either _ _ _
    (says-word _ _ (number * 86_400) (omega (arith, leb-true number 1_000 few)))
    (says-word _ _ (number * 86_400) (omega (arith, leb-true number 1_000 few)))))

rate_fair : IsFair 1 24_000
rate_fair = record { within = omega arith; few = inl (omega arith) }

pub number_goes : GoesOn 32 (numbers 1 24_000) unit
number_goes = record {
  first = right-numbers 1 24_000 rate_fair;
  apart = avoids-numbers 32 1 24_000 refl;
  second = λ text number is. right_unit number;
  lively = λ text number is. lively_unit number;
}

right_rate : IsRight rate
unfolding rate
right_rate = right-joined _ _ _ number_goes

lively_rate : rate.can_begin [] ≡ true
unfolding rate
lively_rate = lively-joined _ _ _ (lively-numbers 1 24_000)

avoids_rate : Avoids 41 rate
unfolding rate
avoids_rate = avoids-joined 32 _ _ 41 refl (avoids-numbers 41 1 24_000 refl) (λ text number is. avoids_unit number)

says_rate : Says (λ seconds. seconds ≤ 86_400_000) rate
unfolding rate
says_rate = says-joined 32 _ _ _ (λ text number is. says_unit number ((says-numbers 1 24_000).says text number is).1)

-- ---- schedules

pub rate_goes : GoesOn 41 rate (λ seconds. word (codes "") (Rate seconds))
rate_goes = record {
  first = right_rate;
  apart = avoids_rate;
  second = λ text seconds is. right-word _ _;
  lively = λ text seconds is. lively-word _ _;
}

pub cron_goes : GoesOn 41 cron (λ cron. word (codes "") (ByCron cron))
cron_goes = record {
  first = right_cron;
  apart = avoids_cron;
  second = λ text cron is. right-word _ _;
  lively = λ text cron is. lively-word _ _;
}

right_inner : (kind : Kind) → IsRight (inner kind)
unfolding inner
right_inner OfRate = right-joined _ _ _ rate_goes
right_inner OfCron = right-joined _ _ _ cron_goes

lively_inner : (kind : Kind) → (inner kind).can_begin [] ≡ true
unfolding inner
lively_inner OfRate = lively-joined _ _ _ lively_rate
lively_inner OfCron = lively-joined _ _ _ lively_cron

says_inner : (kind : Kind) → Says IsInReach (inner kind)
unfolding inner
says_inner OfRate = says-joined 41 _ _ _ (λ text seconds is. says-word _ _ _ (says_rate.says text seconds is))
says_inner OfCron = says-joined 41 _ _ _ (λ text cron is. says-word _ _ _ tt)

right_kind : IsRight kind
unfolding kind
right_kind = right-either _ _ (right-word _ _) (right-word _ _)

avoids_kind : Avoids 40 kind
unfolding kind
avoids_kind =
    avoids-either 40 _ _ (avoids-word 40 _ _ (letters_unmarked 40 (codes "rate") (omega arith) refl))
    (avoids-word 40 _ _ (letters_unmarked 40 (codes "cron") (omega arith) refl))

pub kind_goes : GoesOn 40 kind inner
kind_goes = record {
  first = right_kind;
  apart = avoids_kind;
  second = λ text kind is. right_inner kind;
  lively = λ text kind is. lively_inner kind;
}

-- Bytes can begin a schedule exactly where some continuation is one.
pub right_schedule : IsRight schedule
unfolding schedule
right_schedule = right-joined _ _ _ kind_goes

pub lively_schedule : schedule.can_begin [] ≡ true
unfolding schedule kind
lively_schedule = lively-joined _ _ _ (lively_one _ _ (lively-word _ _))

-- What a schedule says is in reach.
pub says_schedule : Says IsInReach schedule
unfolding schedule
says_schedule = says-joined 40 _ _ _ (λ text kind is. says_inner kind)

-- ---- sets that fit

says_field : (field : Field) → Says (λ set. set < 2 ^ (greatest field + 1)) (field_of field)
unfolding field_of items whole
says_field field =
    says-either _ _ _ (says-meaning _ _ _ (record { says = λ text all is. set_bound _ (greatest field + 1) }))
    (says-either _ _ _ (says-word _ _ _ (set_bound _ (greatest field + 1)))
    (says-where_true _ (may_be_open field) _ (λ may. says-word _ _ _ (set_bound _ (greatest field + 1)))))

pub months_fit : (text : List ℕ) (set : ℕ) → Text set ≡ reading_of (field_of Months) text → set < 2 ^ 16
months_fit text set is = (let small = said_of _ (field_of Months) text set (says_field Months) is in
    omega (arith, small))

pub weekdays_fit : (text : List ℕ) (set : ℕ) → Text set ≡ reading_of (field_of Weekdays) text → set < 2 ^ 8
weekdays_fit text set is = (let small = said_of _ (field_of Weekdays) text set (says_field Weekdays) is in
    omega (arith, small))

pub item_goes_up : (field : Field) (text : List ℕ) (s : Steps) → Text s ≡ reading_of (item field) text → 0 < s.by
item_goes_up field text s is = said_of GoesUp (item field) text s (says_item field) is

-- ---- the first fault

-- a schedule can begin with so many bytes of a text, and with this greater number it cannot, or the text has fewer
pub record IsBound (text : List ℕ) (good bad : ℕ) : Type 0 where
  pub apart : good < bad
  pub within : bad ≤ length text + 1
  pub begins : schedule.can_begin (take good text) ≡ true
  pub breaks : bad ≤ length text → schedule.can_begin (take bad text) ≡ false

pub bound_first : (text : List ℕ) → IsBound text 0 (length text + 1)
bound_first text = record {
  apart = omega arith;
  within = omega arith;
  begins = lively_schedule;
  breaks = λ under. absurd (omega arith);
}

pub fault_found : (text : List ℕ) (good bad : ℕ) → ¬ IsTrue (is_schedule text) → IsBound text good bad → bad ≤ good + 1
    → IsFirstFault is_schedule text good
fault_found text good bad unspelled bound close = record {
  unspelled = unspelled;
  within = omega (arith, bound.within, bound.apart);
  before = right_schedule.begins (take good text) bound.begins;
  from_there = λ under can.
      let next : bad ≡ good + 1 = omega (arith, bound.apart) in
      false≢true (sym (subst (λ n. schedule.can_begin (take n text) ≡ false) next (bound.breaks (omega arith)))
      ∙ right_schedule.only (take (good + 1) text) can.0 can.1);
}

-- ---- what a text is to schedules

pub schedule_said : (text : List ℕ) (s : Schedule) → Text s ≡ reading_of schedule text → Some s ≡ schedule.value text
unfolding reading_of
schedule_said text s is = by (schedule.value text) (schedule.can_begin text) is
  where
    some_of_schedule : Schedule → Option Schedule
    some_of_schedule x = Some x

    by : (o : Option Schedule) (b : Bool) → Text s ≡ reading o b → Some s ≡ o
    by (Some u) b e = (let f : s ≡ u = cc in ap some_of_schedule f)
    by None true e = absurd (let f : Text s ≡ Front = e in cc)
    by None false e = absurd (let f : Text s ≡ Fault = e in cc)

pub schedule_in_reach : (text : List ℕ) (s : Schedule) → Text s ≡ reading_of schedule text → IsInReach s
schedule_in_reach text s is = said_of IsInReach schedule text s says_schedule is

-- what is not read says nothing
pub not_said : (text : List ℕ) (r : Reading Schedule) → r ≡ reading_of schedule text → ((s : Schedule) → r ≡ Text s → ⊥)
    → schedule.value text ≡ None
unfolding reading_of
not_said text r is not = by (schedule.value text) (schedule.can_begin text) is
  where
    by : (o : Option Schedule) (b : Bool) → r ≡ reading o b → o ≡ None
    by None b e = refl
    by (Some u) b e = absurd (not u e)

pub front_not_said : (text : List ℕ) → Front ≡ reading_of schedule text → schedule.value text ≡ None
front_not_said text is = not_said text Front is (λ s e. (let f : Front ≡ Text s = e in cc))

pub fault_not_said : (text : List ℕ) → Fault ≡ reading_of schedule text → schedule.value text ≡ None
fault_not_said text is = not_said text Fault is (λ s e. (let f : Fault ≡ Text s = e in cc))

pub unspelled : (text : List ℕ) → schedule.value text ≡ None → ¬ IsTrue (is_schedule text)
unspelled text none is = false≢true (sym (ap is_some none) ∙ is)

-- what can begin one
pub text_can_begin : (text : List ℕ) (s : Schedule) → Text s ≡ reading_of schedule text → true ≡ schedule.can_begin text
text_can_begin text s is = sym (text_begins schedule text s right_schedule (sym (schedule_said text s is)))

pub front_can_begin : (text : List ℕ) → Front ≡ reading_of schedule text → true ≡ schedule.can_begin text
unfolding reading_of
front_can_begin text is = by (schedule.value text) (schedule.can_begin text) is
  where
    by : (o : Option Schedule) (b : Bool) → Front ≡ reading o b → true ≡ b
    by (Some u) b e = absurd (let f : Front ≡ Text u = e in cc)
    by None true e = refl
    by None false e = absurd (let f : Front ≡ Fault = e in cc)

pub fault_begins_none : (text : List ℕ) → Fault ≡ reading_of schedule text → false ≡ schedule.can_begin text
unfolding reading_of
fault_begins_none text is = by (schedule.value text) (schedule.can_begin text) is
  where
    by : (o : Option Schedule) (b : Bool) → Fault ≡ reading o b → false ≡ b
    by (Some u) b e = absurd (let f : Fault ≡ Text u = e in cc)
    by None true e = absurd (let f : Fault ≡ Front = e in cc)
    by None false e = refl

-- ---- items gathered one after the other

-- what is gathered, and the items that follow
abbrev pub gathered : Field → ℕ → List Steps → ℕ
gathered field set all = bit_or set (set_of_all (greatest field) all)

pub items_first : (field : Field) (text : List ℕ)
    → reading_of (meaning (λ all. bit_or 0 (set_of_all (greatest field) all)) (listed 44
    (item field))) text ≡ reading_of (items field) text
unfolding items
items_first field text = meaning_same _ _ (listed 44 (item field)) text (λ all. set_first (greatest field) all)

pub items_more : (field : Field) (set : ℕ) (rest before behind : List ℕ) (s : Steps)
    → Some (before, behind) ≡ parted 44 rest → Text s ≡ reading_of (item field) before
    → reading_of (meaning (λ all. bit_or (bit_or set (set_of (is_step s) (greatest field + 1))) (set_of_all
    (greatest field) all)) (listed 44 (item field))) behind
    ≡ reading_of (meaning (λ all. bit_or set (set_of_all (greatest field) all)) (listed 44 (item field))) rest
items_more field set rest before behind s split is =
    gathered_more 44 (item field) (gathered field) set (bit_or set (set_of (is_step s)
    (greatest field + 1))) rest before behind s
    (λ more. set_with set (greatest field) s more) split is

pub items_front : (field : Field) (set : ℕ) (rest before behind : List ℕ) → Some (before, behind) ≡ parted 44 rest
    → Front ≡ reading_of (item field) before
    → Fault ≡ reading_of (meaning (λ all. bit_or set (set_of_all (greatest field) all)) (listed 44 (item field))) rest
items_front field set rest before behind split is =
    gathered_broken 44 (item field) (gathered field) set rest before behind split
    (λ v e. (let f : Text v ≡ Front = e ∙ sym is in cc))

pub items_fault : (field : Field) (set : ℕ) (rest before behind : List ℕ) → Some (before, behind) ≡ parted 44 rest
    → Fault ≡ reading_of (item field) before
    → Fault ≡ reading_of (meaning (λ all. bit_or set (set_of_all (greatest field) all)) (listed 44 (item field))) rest
items_fault field set rest before behind split is =
    gathered_broken 44 (item field) (gathered field) set rest before behind split
    (λ v e. (let f : Text v ≡ Fault = e ∙ sym is in cc))

pub items_last : (field : Field) (set : ℕ) (rest : List ℕ) (r : Reading Steps) → None ≡ parted 44 rest
    → r ≡ reading_of (item field) rest
    → with_meaning (λ s. bit_or set (set_of_all (greatest field) (s ∷ []))) r
    ≡ reading_of (meaning (λ all. bit_or set (set_of_all (greatest field) all)) (listed 44 (item field))) rest
items_last field set rest r none is = gathered_last 44 (item field) (gathered field) set rest r none is
