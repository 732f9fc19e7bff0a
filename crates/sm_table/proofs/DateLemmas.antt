-- Dates of rows, and those at which rotations come due.
use Rattle.std.proofs.Common.{◌≡◌, inl, inr, ℕ, zero, suc, ◌+◌, ◌<◌, ◌≤◌, leb, ltb, eqb, Bool, true, false, not, ◌&&◌, ◌||◌, cond, List, [], ◌∷◌, length, drop, get_or, Option, Some, None, is_some, is_none, refl, sym, ap, subst, ◌∙◌, arith, add-one, drop-cons}
use Rattle.std.specs.Cmp.{IsStrictWeakOrder}
use Rattle.std.proofs.lemmas.Bool.{and_parts, eqb-true, false≢true}
use Rattle.std.proofs.lemmas.Bool.Decides.{nat_tests}
use Rattle.sm_base.specs.declared.moment.Moment.{Moment}
use Rattle.sm_model.specs.declared.rows.SecretRow.{SecretRow}
use Rattle.sm_model.specs.Due.{is_reached, is_free_or_held_by}
use Rattle.sm_model.specs.Labels.{aws_current, aws_pending, holder}
use Rattle.sm_versions.specs.Due.{is_due, due_date}
use Rattle.sm_model.specs.Versions.{is_full_when}
use Rattle.sm_versions.specs.Prune.{pruning}
use Rattle.sm_versions.specs.Serials.{rises}
use Rattle.sm_versions.proofs.DueLaws.{due_by_date}
use Rattle.sm_table.specs.declared.dates.DueDate.{DueDate}
use Rattle.sm_table.specs.Sweep.{is_gone, swept}
use Rattle.sm_table.specs.Changes.{row_with, dropped}
use Rattle.sm_table.specs.Kept.{row_serials, IsRising}
use Rattle.sm_table.specs.Ordered.{placed, may_follow, ordered}
use Rattle.sm_table.specs.Dates.{is_before, with_date, dates_by, dates_of, first_due, has_room, lower, lower_if, comes, lowest_due, IsBut}
use Rattle.sm_table.proofs.FoundLaws.{IsIn, row_with_own}
use Rattle.sm_table.proofs.MapLemmas.{dropped_above}
use Rattle.sm_table.proofs.OrderedLemmas.{placed_ordered, placed_swap}
use Rattle.sm_table.proofs.ApartLemmas.{row_from}

-- ---- the order

one_way : (a m b n : ℕ) → (ltb a b || (eqb a b && ltb m n)) ≡ true → (ltb b a || (eqb b a && ltb n m)) ≡ false
one_way a m b n h = grind (arith, nat_tests)

chain : (a m b n c o : ℕ) → (ltb a b || (eqb a b && ltb m n)) ≡ false → (ltb b c || (eqb b c && ltb n o)) ≡ false
    → (ltb a c || (eqb a c && ltb m o)) ≡ false
chain a m b n c o h g = grind (arith, nat_tests)

pub date_laws : IsStrictWeakOrder is_before
date_laws = record {
  one_way = λ a b h. one_way a.date.0 a.serial b.date.0 b.serial h;
  chain = λ a b c h g. chain a.date.0 a.serial b.date.0 b.serial c.date.0 c.serial h g;
}

-- of two dates of rows with different serials one is before the other
apart : (a b : DueDate) → a.serial < b.serial → is_before a b ≡ false → is_before b a ≡ true
apart a b less h = by a.date.0 a.serial b.date.0 b.serial less h
  where
    by : (a m b n : ℕ) → m < n → (ltb a b || (eqb a b && ltb m n)) ≡ false → (ltb b a || (eqb b a && ltb n m)) ≡ true
    by a m b n less h = grind (arith, nat_tests)

-- ---- one date more

with_date_swap : (one other : Option Moment) (dates : List DueDate) (m n : ℕ) → m < n
    → with_date one (with_date other dates n) m ≡ with_date other (with_date one dates m) n
with_date_swap None other dates m n less = refl
with_date_swap (Some one) None dates m n less = refl
with_date_swap (Some one) (Some other) dates m n less = by (is_before a b) refl
  where
    a : DueDate
    a = record { date = one; serial = m }

    b : DueDate
    b = record { date = other; serial = n }

    by : (c : Bool) → c ≡ is_before a b
        → placed is_before (placed is_before dates b) a ≡ placed is_before (placed is_before dates a) b
    by true e = sym (placed_swap is_before date_laws dates a b (sym e))
    by false e = placed_swap is_before date_laws dates b a (apart a b less (sym e))

apart_from : (date : SecretRow → Option Moment) (rows : List SecretRow) (serial low next : ℕ) (row : SecretRow)
    → rises low (row_serials rows) next ≡ true → row_with rows serial ≡ Some row
    → dates_by date rows ≡ with_date (date row) (dates_by date (dropped rows serial)) serial
apart_from date [] serial low next row h e = absurd (cc)
apart_from date (r ∷ rs) serial low next row h e =
    let parts = and_parts (leb low r.serial) (rises (r.serial + 1) (row_serials rs) next) h in
    by (eqb r.serial serial) refl e
    (λ less. dropped_above rs serial (r.serial + 1) next parts.1 less)
    (λ f. row_from rs serial (r.serial + 1) next row parts.1 f)
    (apart_from date rs serial (r.serial + 1) next row parts.1)
  where
    by : (b : Bool) → b ≡ eqb r.serial serial → cond b (Some r) (row_with rs serial) ≡ Some row
        → (serial < r.serial + 1 → dropped rs serial ≡ rs)
        → (row_with rs serial ≡ Some row → r.serial + 1 ≤ serial)
        → (row_with rs serial ≡ Some row
        → dates_by date rs ≡ with_date (date row) (dates_by date (dropped rs serial)) serial)
        → with_date (date r) (dates_by date rs) r.serial
        ≡ with_date (date row) (dates_by date (cond b (dropped rs serial) (r ∷ dropped rs serial))) serial
    by true t e gone from rest =
        let here : r ≡ row = cc in
        let same : r.serial ≡ serial = eqb-true r.serial serial (sym t) in
        rw (← here, gone (omega (arith, same)), ← same) refl
    by false t e gone from rest =
        ap (λ ds. with_date (date r) ds r.serial) (rest e)
        ∙ with_date_swap (date r) (date row) (dates_by date (dropped rs serial)) r.serial serial
        (let above = from e in omega (arith, above))

-- the dates are those of the others, with the row's own where it has one
pub dates_apart : (date : SecretRow → Option Moment) (rows : List SecretRow) (serial : ℕ) (row : SecretRow)
    → IsRising rows → row_with rows serial ≡ Some row
    → dates_by date rows ≡ with_date (date row) (dates_by date (dropped rows serial)) serial
dates_apart date rows serial row rising e = apart_from date rows serial 0 rising.0 row rising.1 e

with_date_ordered : (date : Option Moment) (dates : List DueDate) (serial : ℕ) → ordered is_before dates ≡ true
    → ordered is_before (with_date date dates serial) ≡ true
with_date_ordered None dates serial h = h
with_date_ordered (Some date) dates serial h =
    placed_ordered is_before date_laws dates (record { date = date; serial = serial }) h

pub but_ordered : (dates : List DueDate) (capacity : ℕ) (was : Option Moment) (serial : ℕ) (others : List DueDate)
    → IsBut dates capacity was serial others → ordered is_before dates ≡ true
but_ordered dates capacity was serial others but = rw but.is (with_date_ordered was others serial but.order)

pub dates_ordered : (date : SecretRow → Option Moment) (rows : List SecretRow)
    → ordered is_before (dates_by date rows) ≡ true
dates_ordered date [] = refl
dates_ordered date (r ∷ rs) = with_date_ordered (date r) (dates_by date rs) r.serial (dates_ordered date rs)

placed_count : (dates : List DueDate) (due : DueDate) → length (placed is_before dates due) ≡ suc (length dates)
placed_count [] due = refl
placed_count (d ∷ ds) due = by (is_before d due) (placed_count ds due)
  where
    by : (b : Bool) → length (placed is_before ds due) ≡ suc (length ds)
        → length (cond b (d ∷ placed is_before ds due) (due ∷ d ∷ ds)) ≡ suc (suc (length ds))
    by true rest = ap suc rest
    by false rest = refl

with_date_count : (date : Option Moment) (dates : List DueDate) (serial : ℕ)
    → length (with_date date dates serial) ≤ suc (length dates)
with_date_count None dates serial = omega arith
with_date_count (Some date) dates serial =
    omega (arith, placed_count dates (record { date = date; serial = serial }))

pub dates_fewer : (date : SecretRow → Option Moment) (rows : List SecretRow)
    → length (dates_by date rows) ≤ length rows
dates_fewer date [] = omega arith
dates_fewer date (r ∷ rs) =
    omega (arith, with_date_count (date r) (dates_by date rs) r.serial, dates_fewer date rs)

-- ---- a sweep

-- a secret that is scheduled for deletion comes due at no date
scheduled_none : (on held free : Bool) (next date : Option Moment) (moment : Moment) → is_reached date moment ≡ true
    → cond (on && is_none date && held && free) next None ≡ None
scheduled_none on held free next None moment h = absurd (false≢true h)
scheduled_none true held free next (Some date) moment h = refl
scheduled_none false held free next (Some date) moment h = refl

gone_none : (row : SecretRow) (moment : Moment) → is_gone row moment ≡ true → due_date row ≡ None
gone_none row moment h =
    scheduled_none row.rotation.enabled (is_some (holder row.labels aws_current))
    (is_free_or_held_by (holder row.labels aws_pending) (holder row.labels aws_current)) row.rotation.next row.deletion
    moment h

pub dates_swept : (rows : List SecretRow) (moment : Moment) → dates_of (swept rows moment) ≡ dates_of rows
dates_swept [] moment = refl
dates_swept (r ∷ rs) moment = by (is_gone r moment) refl (dates_swept rs moment)
  where
    by : (b : Bool) → b ≡ is_gone r moment → dates_of (swept rs moment) ≡ dates_of rs
        → dates_of (cond b (swept rs moment) (r ∷ swept rs moment)) ≡ with_date (due_date r) (dates_of rs) r.serial
    by true t rest = rest ∙ sym (ap (λ d. with_date d (dates_of rs) r.serial) (gone_none r moment (sym t)))
    by false t rest = ap (λ ds. with_date (due_date r) ds r.serial) rest

-- ---- the first that is due

lower_swap : (first : Option ℕ) (m n : ℕ) → lower (lower first m) n ≡ lower (lower first n) m
lower_swap None m n = grind (arith, nat_tests)
lower_swap (Some k) m n = grind (arith, nat_tests)

step_swap : (p q : Bool) (first : Option ℕ) (m n : ℕ)
    → lower_if q (lower_if p first m) n ≡ lower_if p (lower_if q first n) m
step_swap true true first m n = lower_swap first m n
step_swap true false first m n = refl
step_swap false true first m n = refl
step_swap false false first m n = refl

-- a serial that is not below the lowest changes nothing
lower_stays : (first : Option ℕ) (m n : ℕ) → m ≤ n → lower (lower first m) n ≡ lower first m
lower_stays None m n h = grind (arith, nat_tests)
lower_stays (Some k) m n h = grind (arith, nat_tests)

-- the lower of the two, where the second is there
abbrev pub lower_of : Option ℕ → Option ℕ → Option ℕ
lower_of first None = first
lower_of first (Some serial) = lower first serial

module _ (rows : List SecretRow) (moment : Moment) where
  -- wherever a date stands it counts the same
  placed_lowest : (first : Option ℕ) (dates : List DueDate) (due : DueDate)
      → lowest_due rows moment first (placed is_before dates due) ≡ lowest_due rows moment first (due ∷ dates)
  placed_lowest first [] due = refl
  placed_lowest first (d ∷ ds) due =
      by (is_before d due)
      (placed_lowest (lower_if (comes rows moment d) first d.serial) ds due)
    where
      by : (b : Bool)
          → lowest_due rows moment (lower_if (comes rows moment d) first d.serial) (placed is_before ds due)
          ≡ lowest_due rows moment (lower_if (comes rows moment d) first d.serial) (due ∷ ds)
          → lowest_due rows moment first (cond b (d ∷ placed is_before ds due) (due ∷ d ∷ ds))
          ≡ lowest_due rows moment first (due ∷ d ∷ ds)
      by true rest =
          rest
          ∙ ap (λ f. lowest_due rows moment f ds)
          (step_swap (comes rows moment d) (comes rows moment due) first d.serial due.serial)
      by false rest = refl

  -- behind a row that is due none has a lower serial
  first_above : (qs : List SecretRow) (first : Option ℕ) (low next serial : ℕ)
      → rises low (row_serials qs) next ≡ true → serial < low
      → lower_of (lower first serial) (first_due qs moment) ≡ lower first serial
  first_above [] first low next serial h less = refl
  first_above (q ∷ qs) first low next serial h less =
      let parts = and_parts (leb low q.serial) (rises (q.serial + 1) (row_serials qs) next) h in
      let above : serial ≤ q.serial = grind (arith, nat_tests, parts.0) in
      by (is_due q moment) (lower_stays first serial q.serial above)
      (first_above qs first (q.serial + 1) next serial parts.1 (omega (arith, above)))
    where
      by : (b : Bool) → lower (lower first serial) q.serial ≡ lower first serial
          → lower_of (lower first serial) (first_due qs moment) ≡ lower first serial
          → lower_of (lower first serial) (cond b (Some q.serial) (first_due qs moment)) ≡ lower first serial
      by true above rest = above
      by false above rest = rest

  -- one row more, by the date at which it comes due
  one_more : (q : SecretRow) (qs : List SecretRow) (first : Option ℕ) (date : Option Moment)
      → row_with rows q.serial ≡ Some q
      → ((f : Option ℕ) → lowest_due rows moment f (dates_of qs) ≡ lower_of f (first_due qs moment))
      → lower_of (lower first q.serial) (first_due qs moment) ≡ lower first q.serial
      → lowest_due rows moment first (with_date date (dates_of qs) q.serial)
      ≡ lower_of first (cond (is_reached date moment && not (is_full_when q (pruning moment))) (Some q.serial)
      (first_due qs moment))
  one_more q qs first None own rest above = rest first
  one_more q qs first (Some date) own rest above =
      placed_lowest first (dates_of qs) (record { date = date; serial = q.serial })
      ∙ ap (λ o. lowest_due rows moment (lower_if (leb date.0 moment.0 && has_room o (pruning moment)) first q.serial)
      (dates_of qs)) own
      ∙ by (leb date.0 moment.0 && not (is_full_when q (pruning moment)))
    where
      by : (b : Bool) → lowest_due rows moment (lower_if b first q.serial) (dates_of qs)
          ≡ lower_of first (cond b (Some q.serial) (first_due qs moment))
      by true = rest (lower first q.serial) ∙ above
      by false = rest first

  lowest_from : (qs : List SecretRow) (first : Option ℕ) (low next : ℕ) → rises low (row_serials qs) next ≡ true
      → ((q : SecretRow) → IsIn qs q → row_with rows q.serial ≡ Some q)
      → lowest_due rows moment first (dates_of qs) ≡ lower_of first (first_due qs moment)
  lowest_from [] first low next h own = refl
  lowest_from (q ∷ qs) first low next h own =
      let parts = and_parts (leb low q.serial) (rises (q.serial + 1) (row_serials qs) next) h in
      one_more q qs first (due_date q) (own q (inl refl))
      (λ f. lowest_from qs f (q.serial + 1) next parts.1 (λ p i. own p (inr i)))
      (first_above qs first (q.serial + 1) next q.serial parts.1 (omega arith))
      ∙ ap (λ b. lower_of first (cond b (Some q.serial) (first_due qs moment))) (sym (due_by_date q (pruning moment)))

  -- where the first date is not reached none is
  none_reached : (first : Option ℕ) (dates : List DueDate) → ordered is_before dates ≡ true
      → ((d : DueDate) (ds : List DueDate) → dates ≡ d ∷ ds → moment.0 < d.date.0)
      → lowest_due rows moment first dates ≡ first
  none_reached first [] h later = refl
  none_reached first (d ∷ ds) h later =
      let parts = and_parts (may_follow is_before d ds) (ordered is_before ds) h in
      let past : leb d.date.0 moment.0 ≡ false = let far = later d ds refl in grind (arith, nat_tests) in
      rw past
      (none_reached first ds parts.1
      (λ e es same. after d e (later d ds refl) (rw same at parts.0)))
    where
      after : (d e : DueDate) → moment.0 < d.date.0 → not (is_before e d) ≡ true → moment.0 < e.date.0
      after d e far h = grind (arith, nat_tests)

lower_none : (found : Option ℕ) → lower_of None found ≡ found
lower_none None = refl
lower_none (Some serial) = refl

-- the lowest serial of the dates is that of the first row that is due
pub lowest_is_first : (rows : List SecretRow) (moment : Moment) → IsRising rows
    → lowest_due rows moment None (dates_of rows) ≡ first_due rows moment
lowest_is_first rows moment rising =
    lowest_from rows moment rows None 0 rising.0 rising.1 (λ q i. row_with_own rows 0 rising.0 q rising.1 i)
    ∙ lower_none (first_due rows moment)

-- ---- one date more, as at a step of a loop

at_place : (dates : List DueDate) (i : ℕ) (d : DueDate) → i < length dates → d ≡ get_or dates i d
    → drop i dates ≡ d ∷ drop (i + 1) dates
at_place dates i d h e = rw (add-one, drop-cons dates i d) (ap (λ x. x ∷ drop (suc i) dates) (sym e))

pub lowest_next : (rows : List SecretRow) (moment : Moment) (first : Option ℕ) (dates : List DueDate) (i : ℕ)
    (d : DueDate) → i < length dates → d ≡ get_or dates i d
    → lowest_due rows moment (lower_if (comes rows moment d) first d.serial) (drop (i + 1) dates)
    ≡ lowest_due rows moment first (drop i dates)
lowest_next rows moment first dates i d h e = sym (ap (lowest_due rows moment first) (at_place dates i d h e))

ordered_drop : (dates : List DueDate) (i : ℕ) → ordered is_before dates ≡ true → ordered is_before (drop i dates) ≡ true
ordered_drop dates zero h = h
ordered_drop [] (suc i) h = refl
ordered_drop (d ∷ ds) (suc i) h =
    ordered_drop ds i (and_parts (may_follow is_before d ds) (ordered is_before ds) h).1

pub lowest_passed : (rows : List SecretRow) (moment : Moment) (first : Option ℕ) (dates : List DueDate) (i : ℕ)
    (d : DueDate) → i < length dates → d ≡ get_or dates i d → ordered is_before dates ≡ true → moment.0 < d.date.0
    → lowest_due rows moment first (drop i dates) ≡ first
lowest_passed rows moment first dates i d h e order far =
    none_reached rows moment first (drop i dates) (ordered_drop dates i order)
    (λ x xs same.
    let here = at_place dates i d h e in
    let equal : d ≡ x = cc in
    subst (λ (y : DueDate). moment.0 < y.date.0) equal far)

same_default : (dates : List DueDate) (i : ℕ) (d e : DueDate) → i < length dates → get_or dates i d ≡ get_or dates i e
same_default [] i d e h = absurd (omega arith)
same_default (x ∷ xs) zero d e h = refl
same_default (x ∷ xs) (suc i) d e h = same_default xs i d e (omega arith)

pub lowest_ends : (rows : List SecretRow) (moment : Moment) (first : Option ℕ) (dates : List DueDate) (i : ℕ)
    (d : DueDate) → i < length dates → ordered is_before dates ≡ true → moment.0 < (get_or dates i d).date.0
    → lowest_due rows moment first (drop i dates) ≡ first
lowest_ends rows moment first dates i d h order far =
    lowest_passed rows moment first dates i (get_or dates i d) h (same_default dates i d (get_or dates i d) h) order far
