-- Numbers in decimal digits.
use Rattle.std.proofs.Common.{◌≡◌, ◌≢◌, ℕ, suc, ◌+◌, ◌-◌, ◌*◌, ◌/◌, ◌%◌, ◌<◌, ◌≤◌, ◌⊎◌, true, false, not, ◌&&◌, ◌||◌, ◌==◌, nat_lt, nat_le, if◌then◌else◌, List, [], ◌∷◌, ◌++◌, length, take, get_or, min, Some, None, refl, sym, ◌∙◌, ap, subst, inl, inr, arith}
use Rattle.std.proofs.lemmas.Bool.{cases_Bool, cases_lt, or_cases, or_left, or_right, and_parts, and_from, leb-true, le-leb, ltb-true, lt-ltb, eqb-true, eqb-false, ne_eqb, not-true, not_from_false, false_from_ne_true, false≢true}
use Rattle.std.proofs.lemmas.Bool.Decides.{nat_tests}
use Rattle.std.proofs.lemmas.List.{append-nil}
use Rattle.std.proofs.lemmas.List.Folds.{list_all-append}
use Rattle.std.proofs.lemmas.List.{take_more}
use Rattle.std.proofs.lemmas.Option.{none-some}
use Rattle.std.specs.Char.{is_ascii_digit}
use Rattle.std.specs.List.{list_all}
use Rattle.std.specs.Option.{is_some}
use Rattle.sm_cron.specs.Languages.{IsRight, numbers, number_from, number_of, is_number, is_empty, is_between, reading, reading_of, is_near, parted}
use Rattle.sm_cron.specs.declared.reading.Reading.{Reading}
use Rattle.sm_cron.specs.declared.reading.Reading.TheVariants.{Text, Front, Fault}
use Rattle.sm_cron.proofs.LanguageLemmas.{some_of, Avoids, Says}
use Rattle.sm_cron.proofs.PartedLemmas.{parted_none, unparted_on}

-- ---- what digits make

pub from_none : (number : ℕ) → number_from number [] ≡ number
unfolding number_from
from_none number = refl

from_more : (number byte : ℕ) (rest : List ℕ)
    → number_from number (byte ∷ rest) ≡ number_from (10 * number + (byte - 48)) rest
unfolding number_from
from_more number byte rest = refl

-- more digits make no smaller number
from_grows : (number : ℕ) (rest : List ℕ) → number ≤ number_from number rest
from_grows number [] = omega (arith, from_none number)
from_grows number (byte ∷ rest) =
    omega (arith, from_more number byte rest, from_grows (10 * number + (byte - 48)) rest)

pub from-append : (number : ℕ) (one other : List ℕ)
    → number_from number (one ++ other) ≡ number_from (number_from number one) other
from-append number [] other = ap (λ n. number_from n other) (sym (from_none number))
from-append number (byte ∷ one) other =
    from_more number byte (one ++ other) ∙ from-append (10 * number + (byte - 48)) one other
    ∙ ap (λ n. number_from n other) (sym (from_more number byte one))

digit_bounds : (byte : ℕ) → is_ascii_digit byte ≡ true → (48 ≤ byte) × (byte ≤ 57)
digit_bounds byte is = grind (arith, nat_tests)

digit_is : (byte : ℕ) → 48 ≤ byte → byte ≤ 57 → is_ascii_digit byte ≡ true
digit_is byte low high = grind (arith, nat_tests)

-- the digit behind others
last_digit : (front : List ℕ) (digit : ℕ) (more : List ℕ) → list_all is_ascii_digit (front ++ digit ∷ more) ≡ true
    → is_ascii_digit digit ≡ true
last_digit front digit more all =
    (and_parts _ _ (and_parts _ _ (sym (list_all-append is_ascii_digit front (digit ∷ more)) ∙ all)).1).0

-- ---- digits without leading zeros

-- the digits of a number that isn't zero begin with another digit
not_zero : (byte : ℕ) (rest : List ℕ) → is_number (byte ∷ rest) ≡ true → byte ≢ 48 → 0 < number_of (byte ∷ rest)
not_zero byte rest is other =
    let all = (and_parts _ _ is).0 in
    let digit = digit_bounds byte (and_parts _ _ all).0 in
    omega (arith, from_more 0 byte rest, from_grows (10 * 0 + (byte - 48)) rest)

-- one digit more
number_more : (front : List ℕ) (digit : ℕ) → is_number front ≡ true → 0 < number_of front → digit ≤ 9
    → is_number (front ++ (48 + digit) ∷ []) ≡ true
number_more [] digit is some low = absurd (false≢true is)
number_more (byte ∷ rest) digit is some low =
    let parts = and_parts _ _ is in
    let all : list_all is_ascii_digit (byte ∷ rest ++ (48 + digit) ∷ []) ≡ true =
    list_all-append is_ascii_digit (byte ∷ rest) ((48 + digit) ∷ [])
    ∙ and_from _ _ parts.0 (and_from _ _ (digit_is (48 + digit) (omega arith) (omega arith)) refl) in
    and_from _ _ all (or_left (not (byte == 48)) _ (lead (cases_Bool (byte == 48)) parts.1))
  where
    nothing_more : (more : List ℕ) → is_empty more ≡ true → byte ≡ 48 → 0 < number_of (byte ∷ more) → ⊥
    nothing_more [] none zeros above = omega (arith, from_more 0 byte [], from_none (10 * 0 + (byte - 48)))
    nothing_more (b ∷ more) none zeros above = false≢true none

    lead : ((byte == 48) ≡ true) ⊎ ((byte == 48) ≡ false) → (not (byte == 48) || is_empty rest) ≡ true
        → not (byte == 48) ≡ true
    lead (inr other) holds = not_from_false (byte == 48) other
    lead (inl zeros) holds = elim (or_cases _ _ holds) [
      | inl other ↦ other
      | inr none ↦ absurd (nothing_more rest none (eqb-true _ _ zeros) some)
    ]

-- the front of digits
front_is : (byte : ℕ) (front rest : List ℕ) → is_number (byte ∷ front ++ rest) ≡ true
    → is_number (byte ∷ front) ≡ true
front_is byte front rest is =
    let parts = and_parts _ _ is in
    let all : list_all is_ascii_digit (byte ∷ front) ≡ true =
    (and_parts _ _ (sym (list_all-append is_ascii_digit (byte ∷ front) rest) ∙ parts.0)).0 in
    and_from _ _ all (elim (or_cases _ _ parts.1) [
      | inl other ↦ or_left _ (is_empty front) other
      | inr none ↦ or_right _ (is_empty front) (none_of front none)
    ])
  where
    none_of : (f : List ℕ) → is_empty (f ++ rest) ≡ true → is_empty f ≡ true
    none_of [] e = refl
    none_of (b ∷ f) e = e

-- what follows a zero
zero_alone : (byte : ℕ) (more : List ℕ) → is_number (byte ∷ more) ≡ true → byte ≡ 48 → is_empty more ≡ true
zero_alone byte more is zeros = elim (or_cases _ _ (and_parts _ _ is).1) [
  | inl other ↦ absurd (eqb-false byte 48 (not-true _ other) zeros)
  | inr none ↦ none
]

-- digits that others follow are no zero
above_zero : (byte : ℕ) (front : List ℕ) (digit : ℕ) (more : List ℕ)
    → is_number (byte ∷ front ++ digit ∷ more) ≡ true → 0 < number_of (byte ∷ front)
above_zero byte front digit more is =
    not_zero byte front (front_is byte front (digit ∷ more) is)
    (λ zeros. longer front (zero_alone byte (front ++ digit ∷ more) is zeros))
  where
    longer : (f : List ℕ) → is_empty (f ++ digit ∷ more) ≡ true → ⊥
    longer [] e = false≢true e
    longer (b ∷ f) e = false≢true e

-- ---- the numbers between two others

-- some text says one of them, and two digits are enough for that, or one of them is 1
pub record IsFair (low greatest : ℕ) : Type 0 where
  pub within : low ≤ greatest
  pub few : (low ≤ 1) ⊎ (greatest ≤ 99)

between_from : (low greatest number : ℕ) → low ≤ number → number ≤ greatest → is_between low greatest number ≡ true
between_from low greatest number above under = and_from _ _ (le-leb low number above) (le-leb number greatest under)

between_parts : (low greatest number : ℕ) → is_between low greatest number ≡ true → (low ≤ number) × (number ≤ greatest)
between_parts low greatest number is =
    (let parts = and_parts _ _ is in (leb-true low number parts.0, leb-true number greatest parts.1))

-- a text that says a number
pub record IsNumber (low greatest : ℕ) (text : List ℕ) : Type 0 where
  pub digits : is_number text ≡ true
  pub above : low ≤ number_of text
  pub under : number_of text ≤ greatest

number_value : (low greatest : ℕ) (text : List ℕ) → IsNumber low greatest text
    → (numbers low greatest).value text ≡ Some (number_of text)
unfolding numbers
number_value low greatest text is =
    rw (is.digits, between_from low greatest (number_of text) is.above is.under) refl

value_number : (low greatest : ℕ) (text : List ℕ) (v : ℕ) → (numbers low greatest).value text ≡ Some v
    → IsNumber low greatest text × (v ≡ number_of text)
unfolding numbers
value_number low greatest text v is = elim (cases_Bool (is_number text && is_between low greatest (number_of text))) [
  | inl both ↦
      let parts = and_parts _ _ both in
      let range = between_parts low greatest (number_of text) parts.1 in
      let same : Some (number_of text) ≡ Some v = rw both at is in
      (record { digits = parts.0; above = range.0; under = range.1 }, (let e : v ≡ number_of text = cc in e))
  | inr not_both ↦ absurd (none-some v (rw not_both at is))
]

is_from_some : (low greatest : ℕ) (text : List ℕ) → is_some ((numbers low greatest).value text) ≡ true
    → IsNumber low greatest text
is_from_some low greatest text some =
    (let one = some_of ((numbers low greatest).value text) some in (value_number low greatest text one.0 one.1).0)

digit_more : (front : List ℕ) (digit : ℕ) → number_of (front ++ (48 + digit) ∷ []) ≡ 10 * number_of front + digit
digit_more front digit =
    from-append 0 front ((48 + digit) ∷ [])
    ∙ omega (arith, from_more (number_of front) (48 + digit) [], from_none (10 * number_of front + (48 + digit - 48)))

-- the text of the least number
sample : (low : ℕ) → low ≤ 99 → (text : List ℕ) × (is_number text ≡ true) × (number_of text ≡ low)
sample low two = elim (cases_lt low 10) [
  | inl one ↦ (
    (48 + low) ∷ [],
    and_from _ _ (and_from _ _ (digit_is (48 + low) (omega arith) (omega arith)) refl)
        (or_right (not (48 + low == 48)) true refl),
    omega (arith, from_more 0 (48 + low) [], from_none (10 * 0 + (48 + low - 48))),
  )
  | inr more ↦
      let first : ℕ = low / 10 in
      let second : ℕ = low % 10 in
      let front : List ℕ = (48 + first) ∷ [] in
      let made : number_of front ≡ first =
      omega (arith, from_more 0 (48 + first) [], from_none (10 * 0 + (48 + first - 48))) in
      let digits : is_number front ≡ true =
      and_from _ _ (and_from _ _ (digit_is (48 + first) (omega arith) (omega arith)) refl)
      (or_right (not (48 + first == 48)) true refl) in (
        front ++ (48 + second) ∷ [],
        number_more front second digits (omega (arith, made)) (omega arith),
        digit_more front second ∙ omega (arith, made),
      )
]

near_more : (low greatest : ℕ) (front : List ℕ) → IsFair low greatest → is_number front ≡ true
    → is_near low greatest (number_of front) ≡ true
    → (rest : List ℕ) × IsNumber low greatest (front ++ rest)
near_more low greatest front fair digits near = elim (or_cases _ _ near) [
  | inl here ↦
      let range = between_parts low greatest (number_of front) here in (
        [],
        subst (IsNumber low greatest) (sym (append-nil front))
            (record { digits = digits; above = range.0; under = range.1 }),
      )
  | inr further ↦
      let parts = and_parts _ _ further in
      let first = and_parts _ _ parts.0 in
      let above : 0 < number_of front = ltb-true 0 (number_of front) first.0 in
      let low_in : low ≤ 10 * number_of front + 9 = leb-true low (10 * number_of front + 9) first.1 in
      let under : 10 * number_of front ≤ greatest = leb-true (10 * number_of front) greatest parts.1 in
      elim (cases_lt (10 * number_of front) low) [
        | inl below ↦ by (low - 10 * number_of front) above (omega arith) (omega arith) (omega (arith, fair.within))
        | inr enough ↦ by 0 above (omega arith) (omega arith) (omega arith)
      ]
]
  where
    by : (digit : ℕ) → 0 < number_of front → digit ≤ 9 → low ≤ 10 * number_of front + digit
        → 10 * number_of front + digit ≤ greatest → (rest : List ℕ) × IsNumber low greatest (front ++ rest)
    by digit above small low_in under = (
      (48 + digit) ∷ [],
      record {
        digits = number_more front digit digits above small;
        above = omega (arith, digit_more front digit);
        under = omega (arith, digit_more front digit);
      },
    )

near_only : (low greatest : ℕ) (byte : ℕ) (front rest : List ℕ) → IsFair low greatest
    → IsNumber low greatest (byte ∷ front ++ rest) → is_near low greatest (number_of (byte ∷ front)) ≡ true
near_only low greatest byte front [] fair is =
    let same : byte ∷ front ++ [] ≡ byte ∷ front = append-nil (byte ∷ front) in
    let here = subst (IsNumber low greatest) same is in
    or_left _ _ (between_from low greatest _ here.above here.under)
near_only low greatest byte front (digit ∷ []) fair is =
    let n : ℕ = number_of (byte ∷ front) in
    let some = above_zero byte front digit [] is.digits in
    let made : number_of (byte ∷ front ++ digit ∷ []) ≡ 10 * n + (digit - 48) =
    from-append 0 (byte ∷ front) (digit ∷ []) ∙ from_more n digit [] ∙ from_none (10 * n + (digit - 48)) in
    let small = digit_bounds digit (last_digit (byte ∷ front) digit [] (and_parts _ _ is.digits).0) in
    or_right _ _ (and_from _ _ (and_from _ _ (lt-ltb 0 n some) (le-leb low (10 * n + 9) (omega (arith, is.above))))
    (le-leb (10 * n) greatest (omega (arith, is.under))))
near_only low greatest byte front (digit ∷ next ∷ more) fair is =
    let n : ℕ = number_of (byte ∷ front) in
    let some = above_zero byte front digit (next ∷ more) is.digits in
    let made : number_of (byte ∷ front ++ digit ∷ next ∷ more)
    ≡ number_from (10 * (10 * n + (digit - 48)) + (next - 48)) more =
    from-append 0 (byte ∷ front) (digit ∷ next ∷ more) ∙ from_more n digit (next ∷ more)
    ∙ from_more (10 * n + (digit - 48)) next more in
    let grows = from_grows (10 * (10 * n + (digit - 48)) + (next - 48)) more in
    let many : 100 * n ≤ greatest = omega (arith, is.under) in
    let least : low ≤ 1 = elim fair.few [ inl one ↦ one | inr few ↦ absurd (omega arith) ] in
    or_left _ _ (between_from low greatest n (omega arith) (omega arith))

pub right-numbers : (low greatest : ℕ) → IsFair low greatest → IsRight (numbers low greatest)
unfolding numbers
right-numbers low greatest fair = record {
  begins = λ front can. by_begins front can;
  only = λ front rest some. by_only front rest (is_from_some low greatest (front ++ rest) some);
}
  where
    by_begins : (front : List ℕ)
        → (is_empty front || (is_number front && is_near low greatest (number_of front))) ≡ true
        → (rest : List ℕ) × (is_some ((numbers low greatest).value (front ++ rest)) ≡ true)
    by_begins [] can =
        let least = sample low (elim fair.few [ inl one ↦ omega arith | inr few ↦ omega (arith, fair.within) ]) in (
          least.0,
          ap is_some (number_value low greatest least.0 (record {
            digits = least.1;
            above = omega (arith, least.2);
            under = omega (arith, least.2, fair.within);
          })),
        )
    by_begins (byte ∷ front) can =
        let parts = and_parts (is_number (byte ∷ front)) (is_near low greatest (number_of (byte ∷ front))) can in
        let more = near_more low greatest (byte ∷ front) fair parts.0 parts.1 in
        (more.0, ap is_some (number_value low greatest (byte ∷ front ++ more.0) more.1))

    by_only : (front rest : List ℕ) → IsNumber low greatest (front ++ rest)
        → (is_empty front || (is_number front && is_near low greatest (number_of front))) ≡ true
    by_only [] rest is = refl
    by_only (byte ∷ front) rest is =
        and_from (is_number (byte ∷ front)) (is_near low greatest (number_of (byte ∷ front)))
        (front_is byte front rest is.digits) (near_only low greatest byte front rest fair is)

pub lively-numbers : (low greatest : ℕ) → (numbers low greatest).can_begin [] ≡ true
unfolding numbers
lively-numbers low greatest = refl

pub says-numbers : (low greatest : ℕ) → Says (λ n. (low ≤ n) × (n ≤ greatest)) (numbers low greatest)
says-numbers low greatest = record {
  says = λ text v is. (let from = value_number low greatest text v is in
      (omega (arith, from.1, from.0.above), omega (arith, from.1, from.0.under)));
}

-- digits are no marks
unmarked_digits : (mark : ℕ) (text : List ℕ) → is_ascii_digit mark ≡ false → list_all is_ascii_digit text ≡ true
    → parted mark text ≡ None
unmarked_digits mark [] no_digit all = parted_none mark
unmarked_digits mark (byte ∷ rest) no_digit all =
    let parts = and_parts _ _ all in
    unparted_on mark byte rest
    (ne_eqb byte mark (λ same. false≢true (sym no_digit ∙ subst (λ b. is_ascii_digit b ≡ true) same parts.0)))
    (unmarked_digits mark rest no_digit parts.1)

digits_of : (text : List ℕ) → is_number text ≡ true → list_all is_ascii_digit text ≡ true
digits_of [] is = refl
digits_of (byte ∷ rest) is = (and_parts _ _ is).0

pub avoids-numbers : (mark low greatest : ℕ) → is_ascii_digit mark ≡ false → Avoids mark (numbers low greatest)
avoids-numbers mark low greatest no_digit = record {
  unmarked = λ text v is. unmarked_digits mark text no_digit (digits_of text
      (value_number low greatest text v is).0.digits);
}

-- ---- what a text is to them

pub is_number_by : (text : List ℕ) → 0 < length text
    → is_number text ≡ (list_all is_ascii_digit text && (not (get_or text 0 0 == 48) || (length text == 1)))
is_number_by [] some = absurd (omega arith)
is_number_by (byte ∷ rest) some =
    ap (λ b. list_all is_ascii_digit (byte ∷ rest) && (not (byte == 48) || b)) (empty_by rest)
  where
    empty_by : (more : List ℕ) → is_empty more ≡ (suc (length more) == 1)
    empty_by [] = refl
    empty_by (b ∷ more) = sym (ne_eqb (suc (suc (length more))) 1 (λ e. absurd (omega arith)))

pub number_step : (text : List ℕ) (place : ℕ) → place < length text
    → number_of (take (place + 1) text) ≡ 10 * number_of (take place text) + (get_or text place 0 - 48)
number_step text place within =
    let digit : ℕ = get_or text place 0 in
    let n : ℕ = number_of (take place text) in
    ap number_of (take_more text place 0 within) ∙ from-append 0 (take place text) (digit ∷ [])
    ∙ from_more n digit [] ∙ from_none (10 * n + (digit - 48))

module _ (low greatest : ℕ) (text : List ℕ) where
  pub reading_empty : length text ≡ 0 → Front ≡ reading_of (numbers low greatest) text
  unfolding numbers reading_of
  reading_empty none = by text none
    where
      by : (t : List ℕ) → length t ≡ 0 → Front ≡ reading_of (numbers low greatest) t
      by [] e = refl
      by (b ∷ t) e = absurd (omega arith)

  pub reading_no_number : 0 < length text → is_number text ≡ false → Fault ≡ reading_of (numbers low greatest) text
  unfolding numbers reading_of
  reading_no_number some not = by text some not
    where
      by : (t : List ℕ) → 0 < length t → is_number t ≡ false → Fault ≡ reading_of (numbers low greatest) t
      by [] h e = absurd (omega arith)
      by (b ∷ t) h e = rw e refl

  not_empty : (t : List ℕ) → is_number t ≡ true → is_empty t ≡ false
  not_empty [] is = absurd (false≢true is)
  not_empty (b ∷ t) is = refl

  reading_by : is_number text ≡ true
      → reading_of (numbers low greatest) text
      ≡ reading (if is_between low greatest (number_of text) then Some (number_of text) else None)
      (is_near low greatest (number_of text))
  unfolding numbers reading_of
  reading_by is = rw (not_empty text is, is) refl

  pub reading_in : (number : ℕ) → is_number text ≡ true → number ≡ min (number_of text) 4_294_967_295
      → greatest ≤ 24_000 → low ≤ number → number ≤ greatest → Text number ≡ reading_of (numbers low greatest) text
  reading_in number is fits few above under =
      let same : number ≡ number_of text = omega arith in
      let within : is_between low greatest (number_of text) ≡ true =
      between_from low greatest (number_of text) (omega arith) (omega arith) in
      ap (λ n. number_said n) same ∙ sym (reading_by is ∙ rw within refl)
    where
      number_said : ℕ → Reading ℕ
      number_said n = Text n

  not_between : (number : ℕ) → (low ≤ number → number ≤ greatest → ⊥) → is_between low greatest number ≡ false
  not_between number out = false_from_ne_true _ (λ is.
      (let parts = between_parts low greatest number is in out parts.0 parts.1))

  pub reading_near : (number : ℕ) → is_number text ≡ true → number ≡ min (number_of text) 4_294_967_295
      → greatest ≤ 24_000 → (low ≤ number → number ≤ greatest → ⊥) → 0 < number → number ≤ greatest / 10
      → low ≤ 10 * number + 9 → Front ≡ reading_of (numbers low greatest) text
  reading_near number is fits few out some under above =
      let same : number_of text ≡ number = omega arith in
      let outside : is_between low greatest number ≡ false = not_between number out in
      let near : is_near low greatest number ≡ true =
      or_right _ _ (and_from _ _ (and_from _ _ (lt-ltb 0 number some) (le-leb low (10 * number + 9) above))
      (le-leb (10 * number) greatest (omega arith))) in
      sym (reading_by is ∙ rw (same, near, outside) refl)

  pub reading_far : (number : ℕ) → is_number text ≡ true → number ≡ min (number_of text) 4_294_967_295
      → greatest ≤ 24_000 → (low ≤ number → number ≤ greatest → ⊥)
      → (0 < number → number ≤ greatest / 10 → low ≤ 10 * number + 9 → ⊥)
      → Fault ≡ reading_of (numbers low greatest) text
  reading_far number is fits few out far =
      let n : ℕ = number_of text in
      let outside : is_between low greatest n ≡ false = not_between n (λ above under. out (omega arith)
      (omega arith)) in
      let not_near : (nat_lt 0 n && nat_le low (10 * n + 9) && nat_le (10 * n) greatest) ≡ false =
      false_from_ne_true _ (λ near.
      let parts = and_parts _ _ near in
      let first = and_parts _ _ parts.0 in
      let some : 0 < n = ltb-true 0 n first.0 in
      let above : low ≤ 10 * n + 9 = leb-true low (10 * n + 9) first.1 in
      let under : 10 * n ≤ greatest = leb-true (10 * n) greatest parts.1 in
      far (omega arith) (omega arith) (omega arith)) in
      sym (reading_by is ∙ rw (outside, not_near) refl)
