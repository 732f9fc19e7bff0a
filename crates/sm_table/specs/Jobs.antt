-- The serials of the rows that have a job.
use Rattle.std.specs.Prelude.{◌≡◌, ℕ, ◌<◌, Bool, true, false, List, [], ◌∷◌, length, is_some, nat_lt, IsTrue, if◌then◌else◌}
use Rattle.sm_model.specs.declared.rows.SecretRow.{SecretRow}
use Rattle.sm_table.specs.Ordered.{placed, ordered}

-- the serials of the rows that have a job, in order of creation
abbrev pub job_serials : List SecretRow → List ℕ
job_serials [] = []
job_serials (r ∷ rs) = if is_some r.job then r.serial ∷ job_serials rs else job_serials rs

-- the serials with one more, where its row has a job
abbrev pub with_job : Bool → List ℕ → ℕ → List ℕ
with_job true serials serial = placed nat_lt serials serial
with_job false serials serial = serials

-- serials that are those of the other rows, with the row's own where it had a job, and there is room for one more than
-- the others
pub record IsBut (serials : List ℕ) (capacity : ℕ) (was : Bool) (serial : ℕ) (others : List ℕ) : Type 0 where
  pub is : serials ≡ with_job was others serial
  pub order : IsTrue (ordered nat_lt others)
  pub room : length others < capacity
