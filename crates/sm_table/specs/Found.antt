-- The row that a name or an ARN names.
-- AWS Secrets Manager API Reference: DescribeSecret (SecretId).
use Rattle.std.specs.Prelude.{ℕ, ◌-◌, List, [], ◌∷◌, length, take, Option, Some, None, if◌then◌else◌}
use Rattle.sm_base.specs.declared.moment.Moment.{Moment}
use Rattle.sm_model.specs.declared.rows.SecretRow.{SecretRow}
use Rattle.sm_model.specs.declared.rows.Rows.{Rows}
use Rattle.sm_base.specs.declared.secret_id.SecretId.{SecretId}
use Rattle.sm_base.specs.declared.secret_id.SecretId.TheVariants.{Name, Arn}
use Rattle.sm_base.specs.Texts.{same_text}
use Rattle.sm_table.specs.Sweep.{sweep}

-- an ARN without its last seven characters, the hyphen and the six that were drawn
abbrev pub short_arn : List ℕ → List ℕ
short_arn arn = take (length arn - 7) arn

-- the first row with the name
abbrev pub row_named : List SecretRow → List ℕ → Option SecretRow
row_named [] name = None
row_named (r ∷ rs) name = if same_text r.name name then Some r else row_named rs name

-- the first row with the whole ARN
abbrev pub row_with_arn : List SecretRow → List ℕ → Option SecretRow
row_with_arn [] arn = None
row_with_arn (r ∷ rs) arn = if same_text r.arn arn then Some r else row_with_arn rs arn

-- the first row with the ARN without its last seven characters
abbrev pub row_with_short_arn : List SecretRow → List ℕ → Option SecretRow
row_with_short_arn [] arn = None
row_with_short_arn (r ∷ rs) arn = if same_text (short_arn r.arn) arn then Some r else row_with_short_arn rs arn

-- the first, or where there is none the second
abbrev pub or_else : Option SecretRow → Option SecretRow → Option SecretRow
or_else None other = other
or_else (Some row) other = Some row

-- the row whose whole ARN it is is taken first, and then one whose ARN begins with it
abbrev pub row_by_arn : List SecretRow → List ℕ → Option SecretRow
row_by_arn rows arn = or_else (row_with_arn rows arn) (row_with_short_arn rows arn)

-- the row of a list that a SecretId names
abbrev pub named_by : List SecretRow → SecretId → Option SecretRow
named_by rows (Name name) = row_named rows name
named_by rows (Arn arn) = row_by_arn rows arn

-- the row of those still there at the moment that the SecretId names, or none
abbrev pub found : Rows → Moment → SecretId → Option SecretRow
found rows moment id = named_by (sweep rows moment).secrets id

-- the row of those still there at the moment that has exactly this ARN, or none
abbrev pub found_arn : Rows → Moment → List ℕ → Option SecretRow
found_arn rows moment arn = row_with_arn (sweep rows moment).secrets arn
