-- Dates of rows: those at which rotations come due, and those of deletions.
use Rattle.std.specs.Prelude.{◌≡◌, ℕ, suc, ◌<◌, Bool, true, false, not, ◌&&◌, ◌||◌, nat_eq, nat_le, nat_lt, List, [], ◌∷◌, length, Option, Some, None, IsTrue, if◌then◌else◌}
use Rattle.sm_base.specs.declared.moment.Moment.{Moment}
use Rattle.sm_model.specs.declared.rows.SecretRow.{SecretRow}
use Rattle.sm_versions.specs.Due.{is_due, due_date}
use Rattle.sm_model.specs.Versions.{When, is_full_when}
use Rattle.sm_versions.specs.Prune.{pruning}
use Rattle.sm_table.specs.declared.dates.DueDate.{DueDate}
use Rattle.sm_table.specs.Changes.{row_with, dropped}
use Rattle.sm_table.specs.Ordered.{placed, ordered}

-- an earlier date is before a later one, and of the same dates the one with the lower serial
abbrev pub is_before : DueDate → DueDate → Bool
is_before due other =
    nat_lt due.date.0 other.date.0 || (nat_eq due.date.0 other.date.0 && nat_lt due.serial other.serial)

-- the dates with one more, where there is one
abbrev pub with_date : Option Moment → List DueDate → ℕ → List DueDate
with_date None dates serial = dates
with_date (Some date) dates serial = placed is_before dates (record { date = date; serial = serial })

-- the dates of the rows, where a row has one, in their order
abbrev pub dates_by : (SecretRow → Option Moment) → List SecretRow → List DueDate
dates_by date [] = []
dates_by date (r ∷ rs) = with_date (date r) (dates_by date rs) r.serial

-- those at which their rotations come due
abbrev pub dates_of : List SecretRow → List DueDate
dates_of rows = dates_by due_date rows

abbrev pub deletion_date : SecretRow → Option Moment
deletion_date row = row.deletion

-- those of their deletions
abbrev pub deletions_of : List SecretRow → List DueDate
deletions_of rows = dates_by deletion_date rows

-- the serial of the first date
abbrev pub first_serial : List DueDate → Option ℕ
first_serial [] = None
first_serial (d ∷ ds) = Some d.serial

-- the rows without the one with the first of the dates
abbrev pub without_first : List SecretRow → List DueDate → List SecretRow
without_first rows [] = rows
without_first rows (d ∷ ds) = dropped rows d.serial

-- how many of the dates the moment has reached
abbrev pub reached : List DueDate → Moment → ℕ
reached [] moment = 0
reached (d ∷ ds) moment = if nat_le d.date.0 moment.0 then suc (reached ds moment) else reached ds moment

-- the moment has not reached the date
abbrev pub is_later : Moment → DueDate → Bool
is_later moment due = nat_lt moment.0 due.date.0

-- the first row that is due at the moment for a token that none of its versions has
abbrev pub first_due : List SecretRow → Moment → Option ℕ
first_due [] moment = None
first_due (r ∷ rs) moment = if is_due r moment then Some r.serial else first_due rs moment

-- there is a row, and a version may be added to it
abbrev pub has_room : Option SecretRow → When → Bool
has_room None when = false
has_room (Some row) when = not (is_full_when row when)

-- the lower of two serials
abbrev pub lower : Option ℕ → ℕ → Option ℕ
lower None serial = Some serial
lower (Some other) serial = if nat_le other serial then Some other else Some serial

-- the date is reached at the moment, and the row has room
abbrev pub comes : List SecretRow → Moment → DueDate → Bool
comes rows moment due = nat_le due.date.0 moment.0 && has_room (row_with rows due.serial) (pruning moment)

-- the lower of this serial and that of the date, where the date counts
abbrev pub lower_if : Bool → Option ℕ → ℕ → Option ℕ
lower_if false first serial = first
lower_if true first serial = lower first serial

-- the lowest of this serial and those of the dates that count
abbrev pub lowest_due : List SecretRow → Moment → Option ℕ → List DueDate → Option ℕ
lowest_due rows moment first [] = first
lowest_due rows moment first (d ∷ ds) =
    lowest_due rows moment (lower_if (comes rows moment d) first d.serial) ds

-- dates that are those of the other rows, with the row's own where it had one, and there is room for one more than the
-- others
pub record IsBut (dates : List DueDate) (capacity : ℕ) (was : Option Moment) (serial : ℕ) (others : List DueDate) :
    Type 0 where
  pub is : dates ≡ with_date was others serial
  pub order : IsTrue (ordered is_before others)
  pub room : length others < capacity
