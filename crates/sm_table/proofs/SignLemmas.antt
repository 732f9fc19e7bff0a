-- What is kept of all rows beside them, where one is added, replaced or dropped.
use Rattle.std.proofs.Common.{◌≡◌, ℕ, ◌+◌, ◌≤◌, false, List, [], ◌∷◌, ◌++◌, length, Option, Some, None, is_some, sym, ap, ◌∙◌, arith}
use Rattle.sm_base.specs.declared.moment.Moment.{Moment}
use Rattle.sm_model.specs.declared.rows.SecretRow.{SecretRow}
use Rattle.sm_table.specs.declared.dates.DueDate.{DueDate}
use Rattle.sm_table.specs.Changes.{row_with, replaced, dropped}
use Rattle.sm_table.specs.Kept.{IsRising}
use Rattle.sm_table.specs.Jobs.{job_serials, with_job}
use Rattle.sm_table.specs.Jobs as jobs
use Rattle.sm_table.specs.Dates.{with_date, dates_by}
use Rattle.sm_table.specs.Dates as dates
use Rattle.sm_table.proofs.KeptLaws.{dropped_rises, replaced_serials}
use Rattle.sm_table.proofs.ApartLemmas.{pushed_row, pushed_dropped, replaced_row, replaced_dropped, dropped_less}
use Rattle.sm_table.proofs.JobLemmas.{jobs_apart, jobs_ordered, jobs_fewer}
use Rattle.sm_table.proofs.DateLemmas.{dates_apart, dates_ordered, dates_fewer}

dropped_rising : (rows : List SecretRow) (serial : ℕ) → IsRising rows → IsRising (dropped rows serial)
dropped_rising rows serial rising = (rising.0, dropped_rises rows serial 0 rising.0 rising.1)

replaced_rising : (rows : List SecretRow) (row : SecretRow) → IsRising rows → IsRising (replaced rows row)
replaced_rising rows row rising = (rising.0, rw (replaced_serials rows row) rising.1)

-- ---- apart from the row with a serial

module _ (rows : List SecretRow) (serial : ℕ) (row : SecretRow) (rising : IsRising rows)
    (there : row_with rows serial ≡ Some row) (capacity : ℕ) (fits : length rows ≤ capacity) where
  pub jobs_but : (items : List ℕ) → items ≡ job_serials rows
      → jobs.IsBut items capacity (is_some row.job) serial (job_serials (dropped rows serial))
  jobs_but items e = record {
    is = e ∙ jobs_apart rows serial row rising there;
    order = jobs_ordered (dropped rows serial) (dropped_rising rows serial rising);
    room = omega (arith, jobs_fewer (dropped rows serial), dropped_less rows serial row there);
  }

  pub dates_but : (date : SecretRow → Option Moment) (items : List DueDate) → items ≡ dates_by date rows
      → dates.IsBut items capacity (date row) serial (dates_by date (dropped rows serial))
  dates_but date items e = record {
    is = e ∙ dates_apart date rows serial row rising there;
    order = dates_ordered date (dropped rows serial);
    room = omega (arith, dates_fewer date (dropped rows serial), dropped_less rows serial row there);
  }

-- ---- with a row in the place of the one with its serial

pub jobs_put : (rows : List SecretRow) (row old : SecretRow) → IsRising rows → row_with rows row.serial ≡ Some old
    → with_job (is_some row.job) (job_serials (dropped rows row.serial)) row.serial ≡ job_serials (replaced rows row)
jobs_put rows row old rising there =
    ap (λ rs. with_job (is_some row.job) (job_serials rs) row.serial) (sym (replaced_dropped rows row))
    ∙ sym (jobs_apart (replaced rows row) row.serial row (replaced_rising rows row rising)
    (replaced_row rows row old there))

pub dates_put : (date : SecretRow → Option Moment) (rows : List SecretRow) (row old : SecretRow) → IsRising rows
    → row_with rows row.serial ≡ Some old
    → with_date (date row) (dates_by date (dropped rows row.serial)) row.serial ≡ dates_by date (replaced rows row)
dates_put date rows row old rising there =
    ap (λ rs. with_date (date row) (dates_by date rs) row.serial) (sym (replaced_dropped rows row))
    ∙ sym (dates_apart date (replaced rows row) row.serial row (replaced_rising rows row rising)
    (replaced_row rows row old there))

-- ---- with a row behind the others

front_rising : (rows : List SecretRow) (row : SecretRow) → row_with rows row.serial ≡ None
    → IsRising (rows ++ row ∷ []) → IsRising rows
front_rising rows row none rising =
    let less = dropped_rising (rows ++ row ∷ []) row.serial rising in
    (less.0, rw (pushed_dropped rows row none) at less.1)

module _ (rows : List SecretRow) (row : SecretRow) (none : row_with rows row.serial ≡ None)
    (rising : IsRising (rows ++ row ∷ [])) where
  pub jobs_new : (items : List ℕ) (capacity : ℕ) → length rows + 1 ≤ capacity → items ≡ job_serials rows
      → jobs.IsBut items capacity false row.serial (job_serials rows)
  jobs_new items capacity fits e = record {
    is = e;
    order = jobs_ordered rows (front_rising rows row none rising);
    room = omega (arith, jobs_fewer rows, fits);
  }

  pub dates_new : (date : SecretRow → Option Moment) (items : List DueDate) (capacity : ℕ)
      → length rows + 1 ≤ capacity → items ≡ dates_by date rows
      → dates.IsBut items capacity None row.serial (dates_by date rows)
  dates_new date items capacity fits e = record {
    is = e;
    order = dates_ordered date rows;
    room = omega (arith, dates_fewer date rows, fits);
  }

  pub jobs_push : with_job (is_some row.job) (job_serials rows) row.serial ≡ job_serials (rows ++ row ∷ [])
  jobs_push =
      ap (λ rs. with_job (is_some row.job) (job_serials rs) row.serial) (sym (pushed_dropped rows row none))
      ∙ sym (jobs_apart (rows ++ row ∷ []) row.serial row rising (pushed_row rows row none))

  pub dates_push : (date : SecretRow → Option Moment)
      → with_date (date row) (dates_by date rows) row.serial ≡ dates_by date (rows ++ row ∷ [])
  dates_push date =
      ap (λ rs. with_date (date row) (dates_by date rs) row.serial) (sym (pushed_dropped rows row none))
      ∙ sym (dates_apart date (rows ++ row ∷ []) row.serial row rising (pushed_row rows row none))
