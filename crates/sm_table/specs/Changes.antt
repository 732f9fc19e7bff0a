-- Changes of the rows.
use Rattle.std.specs.Prelude.{◌≡◌, ℕ, ◌+◌, ◌<◌, nat_eq, ⊤, List, [], ◌∷◌, ◌++◌, Option, Some, None, IsSome, IsNone, IsSomeAnd, if◌then◌else◌}
use Rattle.sm_base.specs.declared.moment.Moment.{Moment}
use Rattle.sm_base.specs.declared.limits.TheConstants.{NO_SERIAL}
use Rattle.sm_model.specs.declared.entry.Change.{Change}
use Rattle.sm_model.specs.declared.entry.Change.TheVariants.{Add, Replace, Drop, Nothing}
use Rattle.sm_model.specs.declared.rows.SecretRow.{SecretRow}
use Rattle.sm_model.specs.declared.rows.Rows.{Rows}
use Rattle.sm_versions.specs.Sound.{IsArnOf}
use Rattle.sm_table.specs.Sweep.{swept}
use Rattle.sm_table.specs.Found.{row_named}

-- the first row with the serial
abbrev pub row_with : List SecretRow → ℕ → Option SecretRow
row_with [] serial = None
row_with (r ∷ rs) serial = if nat_eq r.serial serial then Some r else row_with rs serial

-- the row in the place of the first one with its serial
abbrev pub replaced : List SecretRow → SecretRow → List SecretRow
replaced [] row = []
replaced (r ∷ rs) row = if nat_eq r.serial row.serial then row ∷ rs else r ∷ replaced rs row

-- the rows without those that have the serial
abbrev pub dropped : List SecretRow → ℕ → List SecretRow
dropped [] serial = []
dropped (r ∷ rs) serial = if nat_eq r.serial serial then dropped rs serial else r ∷ dropped rs serial

-- the rows after a change: an added row stands at the end, and its serial is not given again
abbrev pub changed : Rows → Change → Rows
changed rows (Add row) = record { next = rows.next + 1; secrets = rows.secrets ++ row ∷ [] }
changed rows (Replace row) = record rows { secrets = replaced rows.secrets row }
changed rows (Drop serial) = record rows { secrets = dropped rows.secrets serial }
changed rows Nothing = rows

-- An added row has the next serial, which is not the last number, and an ARN of its name. A replaced or dropped serial
-- is there, and a replacing row has the name and the ARN of the row that it replaces.
abbrev pub CanMake : Rows → Change → Type 0
CanMake rows (Add row) = (row.serial ≡ rows.next) × (rows.next < NO_SERIAL) × IsArnOf row.arn row.name
CanMake rows (Replace row) =
    IsSomeAnd (row_with rows.secrets row.serial) (λ old. (row.name ≡ old.name) × (row.arn ≡ old.arn))
CanMake rows (Drop serial) = IsSome (row_with rows.secrets serial)
CanMake rows Nothing = ⊤

-- At the moment a replaced or dropped row is still there, and the name of an added row is not held.
abbrev pub StandsAt : Rows → Moment → Change → Type 0
StandsAt rows moment (Add row) = IsNone (row_named (swept rows.secrets moment) row.name)
StandsAt rows moment (Replace row) = IsSome (row_with (swept rows.secrets moment) row.serial)
StandsAt rows moment (Drop serial) = IsSome (row_with (swept rows.secrets moment) serial)
StandsAt rows moment Nothing = ⊤

-- a change that was prepared, and the rows that it was prepared on
pub record PreparedChange : Type 0 where
  pub before : Rows
  pub change : Change
