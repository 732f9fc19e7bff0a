-- Serials of the rows that have a job.
use Rattle.std.proofs.Common.{◌≡◌, inl, inr, ℕ, suc, ◌+◌, ◌<◌, ◌≤◌, leb, ltb, eqb, Bool, true, false, cond, List, [], ◌∷◌, filter, length, Some, is_some, nat_lt, refl, sym, ap, ◌∙◌, arith}
use Rattle.std.specs.Cmp.{IsStrictWeakOrder}
use Rattle.std.proofs.lemmas.List.MinMax.{IsStrictWeakOrder-by_number}
use Rattle.std.proofs.lemmas.Bool.{and_parts, and_from, eqb-true}
use Rattle.std.proofs.lemmas.Bool.Decides.{nat_tests}
use Rattle.sm_base.specs.declared.moment.Moment.{Moment}
use Rattle.sm_model.specs.declared.rows.SecretRow.{SecretRow}
use Rattle.sm_versions.specs.Serials.{rises}
use Rattle.sm_table.specs.Sweep.{is_gone, swept}
use Rattle.sm_table.specs.Changes.{row_with, dropped}
use Rattle.sm_table.specs.Kept.{row_serials, IsRising}
use Rattle.sm_table.specs.Maps.{stays}
use Rattle.sm_table.specs.Ordered.{placed, may_follow, ordered}
use Rattle.sm_table.specs.Jobs.{job_serials, with_job, IsBut}
use Rattle.sm_table.proofs.FoundLaws.{IsIn, row_with_own}
use Rattle.sm_table.proofs.MapLemmas.{dropped_above}
use Rattle.sm_table.proofs.OrderedLemmas.{placed_ordered}
use Rattle.sm_table.proofs.ApartLemmas.{row_from}

pub number_laws : IsStrictWeakOrder nat_lt
number_laws = IsStrictWeakOrder-by_number (λ (n : ℕ). n)

pub but_ordered : (serials : List ℕ) (capacity : ℕ) (was : Bool) (serial : ℕ) (others : List ℕ)
    → IsBut serials capacity was serial others → ordered nat_lt serials ≡ true
but_ordered serials capacity true serial others but =
    rw but.is (placed_ordered nat_lt number_laws others serial but.order)
but_ordered serials capacity false serial others but = rw but.is but.order

pub not_below : (m n : ℕ) → m ≤ n → ltb n m ≡ false
not_below m n h = grind (arith, nat_tests)

pub is_below : (m n : ℕ) → n < m → ltb n m ≡ true
is_below m n h = grind (arith, nat_tests)

-- a serial below all of theirs stands in front of them
first_from : (rows : List SecretRow) (low next n : ℕ) → rises low (row_serials rows) next ≡ true → n < low
    → (may_follow nat_lt n (job_serials rows) ≡ true) × (placed nat_lt (job_serials rows) n ≡ n ∷ job_serials rows)
first_from [] low next n h less = (refl, refl)
first_from (r ∷ rs) low next n h less =
    let parts = and_parts (leb low r.serial) (rises (r.serial + 1) (row_serials rs) next) h in
    let above : ltb r.serial n ≡ false = grind (arith, nat_tests, parts.0) in
    let behind : n < r.serial + 1 = grind (arith, nat_tests, parts.0) in
    by (is_some r.job) above (first_from rs (r.serial + 1) next n parts.1 behind)
  where
    by : (b : Bool) → ltb r.serial n ≡ false
        → (may_follow nat_lt n (job_serials rs) ≡ true) × (placed nat_lt (job_serials rs) n ≡ n ∷ job_serials rs)
        → (may_follow nat_lt n (cond b (r.serial ∷ job_serials rs) (job_serials rs)) ≡ true)
        × (placed nat_lt (cond b (r.serial ∷ job_serials rs) (job_serials rs)) n
        ≡ n ∷ cond b (r.serial ∷ job_serials rs) (job_serials rs))
    by true above rest = (rw above refl, rw above refl)
    by false above rest = rest

ordered_from : (rows : List SecretRow) (low next : ℕ) → rises low (row_serials rows) next ≡ true
    → ordered nat_lt (job_serials rows) ≡ true
ordered_from [] low next h = refl
ordered_from (r ∷ rs) low next h =
    let parts = and_parts (leb low r.serial) (rises (r.serial + 1) (row_serials rs) next) h in
    by (is_some r.job) (first_from rs (r.serial + 1) next r.serial parts.1 (omega arith)).0
    (ordered_from rs (r.serial + 1) next parts.1)
  where
    by : (b : Bool) → may_follow nat_lt r.serial (job_serials rs) ≡ true → ordered nat_lt (job_serials rs) ≡ true
        → ordered nat_lt (cond b (r.serial ∷ job_serials rs) (job_serials rs)) ≡ true
    by true first rest = and_from (may_follow nat_lt r.serial (job_serials rs)) (ordered nat_lt (job_serials rs))
        first rest
    by false first rest = rest

pub jobs_ordered : (rows : List SecretRow) → IsRising rows → ordered nat_lt (job_serials rows) ≡ true
jobs_ordered rows rising = ordered_from rows 0 rising.0 rising.1

apart_from : (rows : List SecretRow) (serial low next : ℕ) (row : SecretRow)
    → rises low (row_serials rows) next ≡ true → row_with rows serial ≡ Some row
    → job_serials rows ≡ with_job (is_some row.job) (job_serials (dropped rows serial)) serial
apart_from [] serial low next row h e = absurd (cc)
apart_from (r ∷ rs) serial low next row h e =
    let parts = and_parts (leb low r.serial) (rises (r.serial + 1) (row_serials rs) next) h in
    by (eqb r.serial serial) refl e
    (λ less. dropped_above rs serial (r.serial + 1) next parts.1 less)
    (λ less. (first_from rs (r.serial + 1) next serial parts.1 less).1)
    (λ f. row_from rs serial (r.serial + 1) next row parts.1 f)
    (apart_from rs serial (r.serial + 1) next row parts.1)
  where
    own : (b : Bool) → serial ≡ r.serial → placed nat_lt (job_serials rs) serial ≡ serial ∷ job_serials rs
        → cond b (r.serial ∷ job_serials rs) (job_serials rs) ≡ with_job b (job_serials rs) serial
    own true same first = ap (λ n. n ∷ job_serials rs) (sym same) ∙ sym first
    own false same first = refl

    other : (b c : Bool) (js : List ℕ) → ltb r.serial serial ≡ true
        → r.serial ∷ with_job c js serial ≡ with_job c (r.serial ∷ js) serial
    other b true js less = rw less refl
    other b false js less = refl

    past : (b : Bool) → ltb r.serial serial ≡ true
        → job_serials rs ≡ with_job (is_some row.job) (job_serials (dropped rs serial)) serial
        → cond b (r.serial ∷ job_serials rs) (job_serials rs)
        ≡ with_job (is_some row.job) (cond b (r.serial ∷ job_serials (dropped rs serial))
        (job_serials (dropped rs serial)))
        serial
    past true less rest = ap (λ js. r.serial ∷ js) rest ∙ other true (is_some row.job)
        (job_serials (dropped rs serial)) less
    past false less rest = rest

    by : (b : Bool) → b ≡ eqb r.serial serial → cond b (Some r) (row_with rs serial) ≡ Some row
        → (serial < r.serial + 1 → dropped rs serial ≡ rs)
        → (serial < r.serial + 1 → placed nat_lt (job_serials rs) serial ≡ serial ∷ job_serials rs)
        → (row_with rs serial ≡ Some row → r.serial + 1 ≤ serial)
        → (row_with rs serial ≡ Some row
        → job_serials rs ≡ with_job (is_some row.job) (job_serials (dropped rs serial)) serial)
        → cond (is_some r.job) (r.serial ∷ job_serials rs) (job_serials rs)
        ≡ with_job (is_some row.job) (job_serials (cond b (dropped rs serial) (r ∷ dropped rs serial))) serial
    by true t e gone first from rest =
        let here : r ≡ row = cc in
        let same : r.serial ≡ serial = eqb-true r.serial serial (sym t) in
        rw (← here, gone (omega (arith, same))) (own (is_some r.job) (sym same) (first (omega (arith, same))))
    by false t e gone first from rest =
        past (is_some r.job) (let above = from e in grind (arith, nat_tests)) (rest e)

-- the serials are those of the others, with the row's own where it has a job
pub jobs_apart : (rows : List SecretRow) (serial : ℕ) (row : SecretRow) → IsRising rows
    → row_with rows serial ≡ Some row
    → job_serials rows ≡ with_job (is_some row.job) (job_serials (dropped rows serial)) serial
jobs_apart rows serial row rising e = apart_from rows serial 0 rising.0 row rising.1 e

pub jobs_fewer : (rows : List SecretRow) → length (job_serials rows) ≤ length rows
jobs_fewer [] = omega arith
jobs_fewer (r ∷ rs) = by (is_some r.job) (jobs_fewer rs)
  where
    by : (b : Bool) → length (job_serials rs) ≤ length rs
        → length (cond b (r.serial ∷ job_serials rs) (job_serials rs)) ≤ suc (length rs)
    by true rest = omega arith
    by false rest = omega arith

-- the serials of the rows that are not gone
swept_from : (rows qs : List SecretRow) (moment : Moment)
    → ((q : SecretRow) → IsIn qs q → row_with rows q.serial ≡ Some q)
    → filter (λ s. stays (row_with rows s) moment) (job_serials qs) ≡ job_serials (swept qs moment)
swept_from rows [] moment own = refl
swept_from rows (q ∷ qs) moment own =
    by (is_some q.job) (is_gone q moment) refl refl (own q (inl refl))
    (swept_from rows qs moment (λ p i. own p (inr i)))
  where
    by : (b g : Bool) → b ≡ is_some q.job → g ≡ is_gone q moment → row_with rows q.serial ≡ Some q
        → filter (λ s. stays (row_with rows s) moment) (job_serials qs) ≡ job_serials (swept qs moment)
        → filter (λ s. stays (row_with rows s) moment) (cond b (q.serial ∷ job_serials qs) (job_serials qs))
        ≡ job_serials (cond g (swept qs moment) (q ∷ swept qs moment))
    by true true e f here rest = rw (here, ← f) rest
    by true false e f here rest = rw (here, ← f, ← e) (ap (λ js. q.serial ∷ js) rest)
    by false true e f here rest = rest
    by false false e f here rest = rw (← e) rest

pub jobs_swept : (rows : List SecretRow) (moment : Moment) → IsRising rows
    → filter (λ s. stays (row_with rows s) moment) (job_serials rows) ≡ job_serials (swept rows moment)
jobs_swept rows moment rising =
    swept_from rows rows moment (λ q i. row_with_own rows 0 rising.0 q rising.1 i)
