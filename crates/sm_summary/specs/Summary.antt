-- The summary of an account: how many secrets, versions and entries it has, and then a line for each secret, in order
-- of creation. Secrets whose deletion date is reached are left out.
use Rattle.std.specs.Prelude.{◌≡◌, ℕ, ◌+◌, if◌then◌else◌, List, [], ◌∷◌, ◌++◌, length, codes, decimal, string_bytes}
use Rattle.sm_base.specs.declared.moment.Moment.{Moment}
use Rattle.sm_model.specs.declared.rows.Rows.{Rows}
use Rattle.sm_model.specs.declared.rows.SecretRow.{SecretRow}
use Rattle.sm_table.specs.Sweep.{is_gone, swept}
use Rattle.sm_summary.specs.declared.walk.Counted.{Counted}
use Rattle.sm_summary.specs.declared.walk.Shown.{Shown}
use Rattle.sm_summary.specs.Lines.{AreLines}

-- how many versions the secrets have together
abbrev pub version_count : List SecretRow → ℕ
version_count [] = 0
version_count (row ∷ rows) = length row.versions + version_count rows

-- the first line
abbrev pub totals : ℕ → ℕ → ℕ → List ℕ
totals secrets versions entries =
    codes "secrets " ++ (decimal secrets ++ (codes " versions " ++ (decimal versions
    ++ (codes " entries " ++ (decimal entries ++ codes "\n")))))

-- the first line of what is said of the secrets that are still there at the moment
abbrev pub totals_of : Rows → Moment → ℕ → List ℕ
totals_of rows moment entries =
    let there = swept rows.secrets moment in
    totals (length there) (version_count there) entries

-- what is said of these secrets, and of so many entries
abbrev pub IsSummaryOf : List SecretRow → ℕ → List ℕ → Type 0
IsSummaryOf rows entries text = (lines : List ℕ) × AreLines rows lines
    × (text ≡ totals (length rows) (version_count rows) entries ++ lines)

-- the summary of the secrets that are still there at the moment
abbrev pub IsSummary : Rows → Moment → ℕ → List ℕ → Type 0
IsSummary rows moment entries text = IsSummaryOf (swept rows.secrets moment) entries text

-- these secrets, and one more where it is still there at the moment
abbrev pub with_row : List SecretRow → SecretRow → Moment → List SecretRow
with_row rows row moment = if is_gone row moment then rows else rows ++ row ∷ []

-- what was shown of some secrets
pub record IsShown (rows : List SecretRow) (shown : Shown) : Type 0 where
  pub secrets : shown.secrets ≡ length rows
  pub versions : shown.versions ≡ version_count rows
  pub lines : AreLines rows (string_bytes shown.lines)

-- what was counted of some secrets
pub record IsCounted (rows : List SecretRow) (counted : Counted) : Type 0 where
  pub secrets : counted.secrets ≡ length rows
  pub versions : counted.versions ≡ version_count rows
