-- What holds of all rows between any two changes.
use Rattle.std.specs.Prelude.{◌≡◌, ℕ, List, [], ◌∷◌, Some, IsTrue}
use Rattle.sm_base.specs.declared.moment.Moment.{Moment}
use Rattle.sm_model.specs.declared.entry.Change.{Change}
use Rattle.sm_model.specs.declared.entry.Change.TheVariants.{Add, Replace, Drop, Nothing}
use Rattle.sm_model.specs.declared.rows.SecretRow.{SecretRow}
use Rattle.sm_model.specs.declared.rows.Rows.{Rows}
use Rattle.sm_versions.specs.Texts.{once}
use Rattle.sm_versions.specs.Serials.{rises}
use Rattle.sm_versions.specs.Kept.{CurrentKept}
use Rattle.sm_table.specs.Sweep.{swept}
use Rattle.sm_versions.specs.Sound.{IsArnOf}
use Rattle.sm_table.specs.Changes.{row_with}

abbrev pub row_serials : List SecretRow → List ℕ
row_serials [] = []
row_serials (r ∷ rs) = r.serial ∷ row_serials rs

-- serials rise
abbrev pub IsRising : List SecretRow → Type 0
IsRising rows = (next : ℕ) × IsTrue (rises 0 (row_serials rows) next)

-- a fact of each row
abbrev pub Each : (SecretRow → Type 0) → List SecretRow → Type 0
Each Fact [] = Unit {0}
Each Fact (r ∷ rs) = Fact r × Each Fact rs

-- each row is as a secret is between any two changes
abbrev pub EachKept : List SecretRow → Type 0
EachKept rows = Each CurrentKept rows

-- serials rise and are below the next one, and each row is kept
pub record RowsKept (rows : Rows) : Type 0 where
  pub serials : IsTrue (rises 0 (row_serials rows.secrets) rows.next)
  pub each : EachKept rows.secrets

-- an added or a replacing row is kept
abbrev pub ChangeKept : Change → Type 0
ChangeKept (Add row) = CurrentKept row
ChangeKept (Replace row) = CurrentKept row
ChangeKept (Drop serial) = Unit {0}
ChangeKept Nothing = Unit {0}

abbrev pub row_names : List SecretRow → List (List ℕ)
row_names [] = []
row_names (r ∷ rs) = r.name ∷ row_names rs

-- the row's ARN is one of its name
abbrev pub HasOwnArn : SecretRow → Type 0
HasOwnArn row = IsArnOf row.arn row.name

abbrev pub EachArn : List SecretRow → Type 0
EachArn rows = Each HasOwnArn rows

-- no name stands twice, and each row's ARN is one of its name
pub record NamesKept (rows : Rows) : Type 0 where
  pub once : IsTrue (once (row_names rows.secrets))
  pub arns : EachArn rows.secrets

-- a row that a look-up at the moment gave: it is the one with its serial, it is still there, and it is kept
pub record IsRowOf (rows : Rows) (moment : Moment) (row : SecretRow) : Type 0 where
  pub there : row_with rows.secrets row.serial ≡ Some row
  pub stands : row_with (swept rows.secrets moment) row.serial ≡ Some row
  pub kept : CurrentKept row
