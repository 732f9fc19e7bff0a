-- What is kept of all rows beside them: the serials of those with a job, the dates at which rotations come due, and
-- those of deletions.
use Rattle.std.specs.Prelude.{◌≡◌, ℕ, ◌≤◌, List, vec_capacity}
use Rattle.sm_model.specs.declared.rows.SecretRow.{SecretRow}
use Rattle.sm_table.specs.declared.signs.Signs.{Signs}
use Rattle.sm_table.specs.Jobs.{job_serials}
use Rattle.sm_table.specs.Dates.{dates_of, deletions_of}

-- they are those of the rows
pub record IsSigns (signs : Signs) (rows : List SecretRow) : Type 0 where
  pub jobs : signs.jobs.items ≡ job_serials rows
  pub dates : signs.dates.items ≡ dates_of rows
  pub deletions : signs.deletions.items ≡ deletions_of rows

-- there is room for those of so many rows
pub record SignsRoom (signs : Signs) (count : ℕ) : Type 0 where
  pub jobs : count ≤ vec_capacity signs.jobs
  pub dates : count ≤ vec_capacity signs.dates
  pub deletions : count ≤ vec_capacity signs.deletions
