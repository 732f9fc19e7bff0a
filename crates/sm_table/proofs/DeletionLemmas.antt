-- Dates of deletions, and the rows that are gone.
use Rattle.std.proofs.Common.{◌≡◌, inl, inr, ℕ, zero, suc, ◌+◌, ◌<◌, ◌≤◌, leb, ltb, eqb, Bool, true, false, not, ◌&&◌, ◌||◌, cond, List, [], ◌∷◌, filter, length, get_or, Option, Some, None, refl, sym, ap, subst, ◌∙◌, arith}
use Rattle.std.specs.List.Sorted.{IsPartitionedBy}
use Rattle.std.proofs.lemmas.Bool.{and_parts, eqb-true, false≢true}
use Rattle.std.proofs.lemmas.Bool.Decides.{nat_tests}
use Rattle.sm_base.specs.declared.moment.Moment.{Moment}
use Rattle.sm_model.specs.declared.rows.SecretRow.{SecretRow}
use Rattle.sm_model.specs.Due.{is_reached}
use Rattle.sm_versions.specs.Serials.{rises}
use Rattle.sm_table.specs.declared.dates.DueDate.{DueDate}
use Rattle.sm_table.specs.Sweep.{is_gone, swept}
use Rattle.sm_table.specs.Changes.{row_with, dropped}
use Rattle.sm_table.specs.Kept.{row_serials, IsRising}
use Rattle.sm_table.specs.Ordered.{placed, may_follow, ordered}
use Rattle.sm_table.specs.Dates.{is_before, with_date, deletion_date, deletions_of, is_later, reached, first_serial, without_first}
use Rattle.sm_table.proofs.FoundLaws.{IsIn, row_with_own}
use Rattle.sm_table.proofs.MapLemmas.{dropped_above}
use Rattle.sm_table.proofs.DateLemmas.{dates_apart, dates_ordered}

-- ---- how many dates are reached

-- of two dates in order the earlier is reached where the later is
before_reached : (a b : DueDate) (moment : Moment) → is_before b a ≡ false → leb b.date.0 moment.0 ≡ true
    → leb a.date.0 moment.0 ≡ true
before_reached a b moment order is = by a.date.0 a.serial b.date.0 b.serial moment.0 order is
  where
    by : (a m b n t : ℕ) → (ltb b a || (eqb b a && ltb n m)) ≡ false → leb b t ≡ true → leb a t ≡ true
    by a m b n t order is = grind (arith, nat_tests)

not_true : (b : Bool) → not b ≡ true → b ≡ false
not_true true h = absurd (false≢true h)
not_true false h = refl

later_reached : (d : DueDate) (ds : List DueDate) (j : ℕ) (e : DueDate) (moment : Moment)
    → ordered is_before (d ∷ ds) ≡ true → j < length ds → leb (get_or ds j e).date.0 moment.0 ≡ true
    → leb d.date.0 moment.0 ≡ true
later_reached d [] j e moment order less is = absurd (omega arith)
later_reached d (x ∷ xs) zero e moment order less is =
    let parts = and_parts (not (is_before x d)) (ordered is_before (x ∷ xs)) order in
    before_reached d x moment (not_true (is_before x d) parts.0) is
later_reached d (x ∷ xs) (suc j) e moment order less is =
    let parts = and_parts (not (is_before x d)) (ordered is_before (x ∷ xs)) order in
    before_reached d x moment (not_true (is_before x d) parts.0)
    (later_reached x xs j e moment parts.1 (omega arith) is)

-- those that are reached stand in front
pub reached_first : (dates : List DueDate) (moment : Moment) → ordered is_before dates ≡ true
    → IsPartitionedBy (λ d. leb d.date.0 moment.0) dates
reached_first [] moment order = λ i j e low high is. absurd (omega arith)
reached_first (d ∷ ds) moment order =
    λ i j e low high is.
    by i j e low high is
    (reached_first ds moment (and_parts (may_follow is_before d ds) (ordered is_before ds) order).1)
  where
    by : (i j : ℕ) (e : DueDate) → i ≤ j → j < suc (length ds) → leb (get_or (d ∷ ds) j e).date.0 moment.0 ≡ true
        → IsPartitionedBy (λ x. leb x.date.0 moment.0) ds → leb (get_or (d ∷ ds) i e).date.0 moment.0 ≡ true
    by zero zero e low high is rest = is
    by zero (suc j) e low high is rest = later_reached d ds j e moment order (omega arith) is
    by (suc i) zero e low high is rest = absurd (omega arith)
    by (suc i) (suc j) e low high is rest = rest i j e (omega arith) (omega arith) is

-- none of these is reached
none_reached : (dates : List DueDate) (moment : Moment) (e : DueDate)
    → ((k : ℕ) → k < length dates → leb (get_or dates k e).date.0 moment.0 ≡ false) → reached dates moment ≡ 0
none_reached [] moment e far = refl
none_reached (d ∷ ds) moment e far =
    rw (far zero (omega arith)) (none_reached ds moment e (λ k less. far (suc k) (omega arith)))

-- so many are reached where these are and no others
pub reached_is : (dates : List DueDate) (moment : Moment) (e : DueDate) (i : ℕ) → i ≤ length dates
    → ((k : ℕ) → k < i → leb (get_or dates k e).date.0 moment.0 ≡ true)
    → ((k : ℕ) → i ≤ k → k < length dates → leb (get_or dates k e).date.0 moment.0 ≡ false)
    → reached dates moment ≡ i
reached_is dates moment e zero within low high = none_reached dates moment e (λ k less. high k (omega arith) less)
reached_is [] moment e (suc i) within low high = absurd (omega arith)
reached_is (d ∷ ds) moment e (suc i) within low high =
    rw (low zero (omega arith))
    (ap suc (reached_is ds moment e i (omega arith) (λ k less. low (suc k) (omega arith))
    (λ k from less. high (suc k) (omega arith) (omega arith))))

-- ---- one date more

module _ (moment : Moment) where
  reached_placed : (dates : List DueDate) (due : DueDate)
      → reached (placed is_before dates due) moment ≡ reached (due ∷ dates) moment
  reached_placed [] due = refl
  reached_placed (d ∷ ds) due = by (is_before d due) (reached_placed ds due)
    where
      swap : (a b : Bool) (n : ℕ) → cond a (suc (cond b (suc n) n)) (cond b (suc n) n)
          ≡ cond b (suc (cond a (suc n) n)) (cond a (suc n) n)
      swap true true n = refl
      swap true false n = refl
      swap false true n = refl
      swap false false n = refl

      by : (b : Bool) → reached (placed is_before ds due) moment ≡ reached (due ∷ ds) moment
          → reached (cond b (d ∷ placed is_before ds due) (due ∷ d ∷ ds)) moment ≡ reached (due ∷ d ∷ ds) moment
      by true rest =
          ap (λ n. cond (leb d.date.0 moment.0) (suc n) n) rest
          ∙ swap (leb d.date.0 moment.0) (leb due.date.0 moment.0) (reached ds moment)
      by false rest = refl

  reached_with : (date : Option Moment) (dates : List DueDate) (serial : ℕ)
      → reached (with_date date dates serial) moment
      ≡ cond (is_reached date moment) (suc (reached dates moment)) (reached dates moment)
  reached_with None dates serial = refl
  reached_with (Some date) dates serial = reached_placed dates (record { date = date; serial = serial })

  -- the rows that stay and those that are gone are all
  pub all_counted : (rows : List SecretRow)
      → length (swept rows moment) + reached (deletions_of rows) moment ≡ length rows
  all_counted [] = refl
  all_counted (r ∷ rs) =
      ap (λ n. length (swept (r ∷ rs) moment) + n) (reached_with r.deletion (deletions_of rs) r.serial)
      ∙ by (is_gone r moment) (all_counted rs)
    where
      by : (b : Bool) → length (swept rs moment) + reached (deletions_of rs) moment ≡ length rs
          → length (cond b (swept rs moment) (r ∷ swept rs moment))
          + cond b (suc (reached (deletions_of rs) moment)) (reached (deletions_of rs) moment)
          ≡ suc (length rs)
      by true rest = omega (arith, rest)
      by false rest = omega (arith, rest)

  -- where none is reached no row is gone
  pub all_stay : (rows : List SecretRow) → reached (deletions_of rows) moment ≡ 0 → swept rows moment ≡ rows
  all_stay [] none = refl
  all_stay (r ∷ rs) none =
      by (is_gone r moment) (sym (reached_with r.deletion (deletions_of rs) r.serial) ∙ none) (all_stay rs)
    where
      by : (b : Bool) → cond b (suc (reached (deletions_of rs) moment)) (reached (deletions_of rs) moment) ≡ 0
          → (reached (deletions_of rs) moment ≡ 0 → swept rs moment ≡ rs)
          → cond b (swept rs moment) (r ∷ swept rs moment) ≡ r ∷ rs
      by true none rest = absurd (omega (arith, none))
      by false none rest = ap (λ qs. r ∷ qs) (rest none)

  -- ---- the dates of the rows that stay

  reached_not : (a b : ℕ) → leb a b ≡ not (ltb b a)
  reached_not a b = grind (arith, nat_tests)

  later_placed : (dates : List DueDate) (due : DueDate) → is_later moment due ≡ true
      → filter (is_later moment) (placed is_before dates due) ≡ placed is_before (filter (is_later moment) dates) due
  later_placed [] due later = rw later refl
  later_placed (d ∷ ds) due later =
      by (is_before d due) refl (is_later moment d) refl (later_placed ds due later)
    where
      -- a date that is reached is before one that is not
      order : is_later moment d ≡ false → is_before d due ≡ true
      order is = compare d.date.0 d.serial due.date.0 due.serial moment.0 is later
        where
          compare : (a m b n t : ℕ) → ltb t a ≡ false → ltb t b ≡ true
              → (ltb a b || (eqb a b && ltb m n)) ≡ true
          compare a m b n t is later = grind (arith, nat_tests)

      by : (b : Bool) → b ≡ is_before d due → (l : Bool) → l ≡ is_later moment d
          → filter (is_later moment) (placed is_before ds due) ≡ placed is_before (filter (is_later moment) ds) due
          → filter (is_later moment) (cond b (d ∷ placed is_before ds due) (due ∷ d ∷ ds))
          ≡ placed is_before (cond l (d ∷ filter (is_later moment) ds) (filter (is_later moment) ds)) due
      by true e true f rest = rw (← e, ← f) (ap (λ ds. d ∷ ds) rest)
      by true e false f rest = rw (← f) rest
      by false e true f rest = rw (later, ← e, ← f) refl
      by false e false f rest = absurd (false≢true (e ∙ order (sym f)))

  gone_placed : (dates : List DueDate) (due : DueDate) → is_later moment due ≡ false
      → filter (is_later moment) (placed is_before dates due) ≡ filter (is_later moment) dates
  gone_placed [] due gone = rw gone refl
  gone_placed (d ∷ ds) due gone = by (is_before d due) (gone_placed ds due gone)
    where
      by : (b : Bool) → filter (is_later moment) (placed is_before ds due) ≡ filter (is_later moment) ds
          → filter (is_later moment) (cond b (d ∷ placed is_before ds due) (due ∷ d ∷ ds))
          ≡ filter (is_later moment) (d ∷ ds)
      by true rest = ap (λ es. cond (is_later moment d) (d ∷ es) es) rest
      by false rest = rw gone refl

  pub deletions_swept : (rows : List SecretRow)
      → deletions_of (swept rows moment) ≡ filter (is_later moment) (deletions_of rows)
  deletions_swept [] = refl
  deletions_swept (r ∷ rs) = by r.deletion refl (deletions_swept rs)
    where
      some : (date : Moment) (later : Bool) → ltb moment.0 date.0 ≡ later → r.deletion ≡ Some date
          → deletions_of (swept rs moment) ≡ filter (is_later moment) (deletions_of rs)
          → deletions_of (cond (not later) (swept rs moment) (r ∷ swept rs moment))
          ≡ filter (is_later moment) (with_date (Some date) (deletions_of rs) r.serial)
      some date true later its rest =
          ap (λ d. with_date d (deletions_of (swept rs moment)) r.serial) its
          ∙ ap (λ ds. placed is_before ds (record { date = date; serial = r.serial })) rest
          ∙ sym (later_placed (deletions_of rs) (record { date = date; serial = r.serial }) later)
      some date false later its rest =
          rest ∙ sym (gone_placed (deletions_of rs) (record { date = date; serial = r.serial }) later)

      by : (date : Option Moment) → r.deletion ≡ date
          → deletions_of (swept rs moment) ≡ filter (is_later moment) (deletions_of rs)
          → deletions_of (cond (is_reached date moment) (swept rs moment) (r ∷ swept rs moment))
          ≡ filter (is_later moment) (with_date date (deletions_of rs) r.serial)
      by None its rest = ap (λ d. with_date d (deletions_of (swept rs moment)) r.serial) its ∙ rest
      by (Some date) its rest =
          ap (λ b. deletions_of (cond b (swept rs moment) (r ∷ swept rs moment))) (reached_not date.0 moment.0)
          ∙ some date (ltb moment.0 date.0) refl its rest

-- ---- the row with the first of the dates

pub first_some : (rows : List SecretRow) (dates : List DueDate) (serial : ℕ) → first_serial dates ≡ Some serial
    → without_first rows dates ≡ dropped rows serial
first_some rows [] serial e = absurd (cc)
first_some rows (d ∷ ds) serial e = let same : d.serial ≡ serial = cc in ap (dropped rows) same

pub first_none : (rows : List SecretRow) (dates : List DueDate) → first_serial dates ≡ None
    → without_first rows dates ≡ rows
first_none rows [] e = refl
first_none rows (d ∷ ds) e = absurd (cc)

-- the date is that of a row's deletion
pub record IsOf (rows : List SecretRow) (due : DueDate) : Type 0 where
  pub row : SecretRow
  pub there : row_with rows due.serial ≡ Some row
  pub its : row.deletion ≡ Some due.date

abbrev pub Each : (DueDate → Type 0) → List DueDate → Type 0
Each P [] = Unit {0}
Each P (d ∷ ds) = P d × Each P ds

each_placed : (P : DueDate → Type 0) (dates : List DueDate) (due : DueDate) → Each P dates → P due
    → Each P (placed is_before dates due)
each_placed P [] due each one = (one, tt)
each_placed P (d ∷ ds) due each one = by (is_before d due) (each_placed P ds due each.1 one)
  where
    by : (b : Bool) → Each P (placed is_before ds due) → Each P (cond b (d ∷ placed is_before ds due) (due ∷ d ∷ ds))
    by true rest = (each.0, rest)
    by false rest = (one, each)

each_deletion : (rows qs : List SecretRow) → ((q : SecretRow) → IsIn qs q → row_with rows q.serial ≡ Some q)
    → Each (IsOf rows) (deletions_of qs)
each_deletion rows [] own = tt
each_deletion rows (q ∷ qs) own = by q.deletion refl (each_deletion rows qs (λ p i. own p (inr i)))
  where
    by : (date : Option Moment) → q.deletion ≡ date → Each (IsOf rows) (deletions_of qs)
        → Each (IsOf rows) (with_date date (deletions_of qs) q.serial)
    by None its rest = rest
    by (Some date) its rest =
        each_placed (IsOf rows) (deletions_of qs) (record { date = date; serial = q.serial }) rest
        (record { row = q; there = own q (inl refl); its = its })

first_of : (rows : List SecretRow) (due : DueDate) (dates : List DueDate) → IsRising rows
    → deletions_of rows ≡ due ∷ dates → IsOf rows due
first_of rows due dates rising e =
    (subst (Each (IsOf rows)) e
    (each_deletion rows rows (λ q i. row_with_own rows 0 rising.0 q rising.1 i))).0

-- where one date is reached it is the first
first_reached : (due : DueDate) (dates : List DueDate) (moment : Moment) → ordered is_before (due ∷ dates) ≡ true
    → reached (due ∷ dates) moment ≡ 1 → leb due.date.0 moment.0 ≡ true
first_reached due dates moment order one = by (leb due.date.0 moment.0) refl one
  where
    far : leb due.date.0 moment.0 ≡ false → (k : ℕ) → k < length dates
        → leb (get_or dates k due).date.0 moment.0 ≡ false
    far h k less = off (leb (get_or dates k due).date.0 moment.0) refl
      where
        off : (b : Bool) → b ≡ leb (get_or dates k due).date.0 moment.0
            → leb (get_or dates k due).date.0 moment.0 ≡ false
        off true e =
            absurd (false≢true (sym h ∙ later_reached due dates k due moment order less (sym e)))
        off false e = sym e

    by : (b : Bool) → b ≡ leb due.date.0 moment.0 → cond b (suc (reached dates moment)) (reached dates moment) ≡ 1
        → leb due.date.0 moment.0 ≡ true
    by true e one = sym e
    by false e one =
        let none = none_reached dates moment due (far (sym e)) in absurd (omega (arith, one, none))

-- without a row that is gone the same stay
swept_without : (rows : List SecretRow) (serial low next : ℕ) (row : SecretRow) (moment : Moment)
    → rises low (row_serials rows) next ≡ true → row_with rows serial ≡ Some row → is_gone row moment ≡ true
    → swept (dropped rows serial) moment ≡ swept rows moment
swept_without [] serial low next row moment h e gone = absurd (cc)
swept_without (r ∷ rs) serial low next row moment h e gone =
    let parts = and_parts (leb low r.serial) (rises (r.serial + 1) (row_serials rs) next) h in
    by (eqb r.serial serial) refl e (dropped_above rs serial (r.serial + 1) next parts.1)
    (λ f. swept_without rs serial (r.serial + 1) next row moment parts.1 f gone)
  where
    by : (b : Bool) → b ≡ eqb r.serial serial → cond b (Some r) (row_with rs serial) ≡ Some row
        → (serial < r.serial + 1 → dropped rs serial ≡ rs)
        → (row_with rs serial ≡ Some row → swept (dropped rs serial) moment ≡ swept rs moment)
        → swept (cond b (dropped rs serial) (r ∷ dropped rs serial)) moment
        ≡ cond (is_gone r moment) (swept rs moment) (r ∷ swept rs moment)
    by true t e above rest =
        let here : r ≡ row = cc in
        let same : r.serial ≡ serial = eqb-true r.serial serial (sym t) in
        let goes : is_gone r moment ≡ true = ap (λ q. is_gone q moment) here ∙ gone in
        rw (goes, above (omega (arith, same))) refl
    by false t e above rest =
        ap (λ qs. cond (is_gone r moment) qs (r ∷ qs)) (rest e)

-- where one date is reached the rows without its row are those that stay
pub one_gone : (rows : List SecretRow) (moment : Moment) → IsRising rows → reached (deletions_of rows) moment ≡ 1
    → without_first rows (deletions_of rows) ≡ swept rows moment
one_gone rows moment rising one = by (deletions_of rows) refl
  where
    others : (due : DueDate) (its : IsOf rows due) → leb due.date.0 moment.0 ≡ true
        → dropped rows due.serial ≡ swept rows moment
    others due its is =
        let gone : is_gone its.row moment ≡ true = ap (λ d. is_reached d moment) its.its ∙ is in
        let apart : reached (deletions_of rows) moment
        ≡ cond (is_reached its.row.deletion moment) (suc (reached (deletions_of (dropped rows due.serial)) moment))
        (reached (deletions_of (dropped rows due.serial)) moment) =
        ap (λ ds. reached ds moment) (dates_apart deletion_date rows due.serial its.row rising its.there)
        ∙ reached_with moment its.row.deletion (deletions_of (dropped rows due.serial)) due.serial in
        let less : suc (reached (deletions_of (dropped rows due.serial)) moment) ≡ 1 =
        ap (λ b. cond b (suc (reached (deletions_of (dropped rows due.serial)) moment))
        (reached (deletions_of (dropped rows due.serial)) moment)) (sym gone)
        ∙ sym apart ∙ one in
        sym (all_stay moment (dropped rows due.serial) (omega (arith, less)))
        ∙ swept_without rows due.serial 0 rising.0 its.row moment rising.1 its.there gone

    by : (dates : List DueDate) → deletions_of rows ≡ dates → without_first rows dates ≡ swept rows moment
    by [] e = absurd (let none : 0 ≡ 1 = ap (λ ds. reached ds moment) (sym e) ∙ one in omega (arith, none))
    by (due ∷ dates) e =
        others due (first_of rows due dates rising e)
        (first_reached due dates moment
        (ap (ordered is_before) (sym e) ∙ dates_ordered deletion_date rows)
        (ap (λ ds. reached ds moment) (sym e) ∙ one))
