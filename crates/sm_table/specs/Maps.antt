-- What is seen of a table's maps: the rows by their serials, and the serials by the names.
use Rattle.std.specs.Prelude.{ℕ, Bool, false, not, List, [], ◌∷◌, Option, Some, None, if◌then◌else◌}
use Rattle.std.specs.declared.vec.Vec.{Vec}
use Rattle.sm_base.specs.Texts.{same_text}
use Rattle.sm_base.specs.declared.moment.Moment.{Moment}
use Rattle.sm_model.specs.declared.rows.SecretRow.{SecretRow}
use Rattle.sm_table.specs.Sweep.{is_gone}

-- rows in order of creation, and for how many more there is room
pub record RowsSeen : Type 0 where
  pub list : List SecretRow
  pub room : ℕ

-- names with serials in order of creation, and for how many more there is room
pub record NamesSeen : Type 0 where
  pub pairs : List (List ℕ × ℕ)
  pub room : ℕ

-- each row behind its serial
abbrev pub by_serial : List SecretRow → List (ℕ × SecretRow)
by_serial [] = []
by_serial (r ∷ rs) = (r.serial, r) ∷ by_serial rs

-- each row's serial behind its name
abbrev pub by_name : List SecretRow → List (List ℕ × ℕ)
by_name [] = []
by_name (r ∷ rs) = (r.name, r.serial) ∷ by_name rs

-- the entries of a map with their names as lists
abbrev pub pairs_of : {Z : Type 0} → List (Vec ℕ Z × ℕ) → List (List ℕ × ℕ)
pairs_of [] = []
pairs_of (e ∷ es) = (e.0.items, e.1) ∷ pairs_of es

-- the serial behind the first of the names
abbrev pub serial_of : List (List ℕ × ℕ) → List ℕ → Option ℕ
serial_of [] name = None
serial_of (p ∷ ps) name = if same_text p.0 name then Some p.1 else serial_of ps name

-- the pairs without the first one of the name
abbrev pub without_name : List (List ℕ × ℕ) → List ℕ → List (List ℕ × ℕ)
without_name [] name = []
without_name (p ∷ ps) name = if same_text p.0 name then ps else p ∷ without_name ps name

-- the pairs without that of the row, if there is one
abbrev pub without_row : List (List ℕ × ℕ) → Option SecretRow → List (List ℕ × ℕ)
without_row pairs None = pairs
without_row pairs (Some row) = without_name pairs row.name

-- there is a row, and it is not gone at the moment
abbrev pub stays : Option SecretRow → Moment → Bool
stays None moment = false
stays (Some row) moment = not (is_gone row moment)
