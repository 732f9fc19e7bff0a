-- The one spelling of rows in a format, as bodies, and the rows of a spelling.
use Rattle.std.specs.Prelude.{◌≡◌, ℕ, ◌-◌, ◌==◌, Bool, IsTrue, List, [], ◌∷◌, flat_map, length, if◌then◌else◌, Option, Some, None, Result, Ok, Err, ◌↔◌}
use Rattle.sm_model.specs.declared.rows.SecretRow.{SecretRow}
use Rattle.sm_model.specs.declared.rows.VersionRow.{VersionRow}
use Rattle.sm_record.specs.Rows.{rows, start, row_head, version, head_of_row, start_of_base}
use Rattle.sm_record.specs.Series.{AreBytes, total}
use Rattle.sm_record.specs.declared.base.Base.{Base}
use Rattle.sm_record.specs.declared.edition.Edition.{Edition}
use Rattle.sm_record.specs.declared.unread.DecodeRefused.{DecodeRefused}
use Rattle.sm_record.specs.declared.unread.DecodeRefused.TheVariants.{NoEntry, Memory}

-- the bodies of rows
unfoldable pub snapshot : Edition → Base → List (List ℕ)
snapshot edition base = (rows edition).spell base

-- The rows have a spelling in a format: their texts, bytes and lists are short enough, their attempts are bytes,
-- and what the format hasn't is absent.
unfoldable pub has_snapshot : Edition → Base → Bool
has_snapshot edition base = (rows edition).fits base

abbrev pub HasSnapshot : Edition → Base → Type 0
HasSnapshot edition base = IsTrue (has_snapshot edition base)

-- the rows that were read where no body is behind them, or the place of the first field that is not spelled
abbrev pub placed_rows : ℕ → Result (Base × List (List ℕ)) ℕ → Result Base ℕ
placed_rows whole (Ok x) = if length x.1 == 0 then Ok x.0 else Err (whole - total x.1)
placed_rows whole (Err left) = Err (whole - left)

-- the rows of bodies, or the place among all their bytes of the first field that is not spelled, or of the first byte
-- behind a body's thing, or of the first body behind the rows
unfoldable pub decoded_rows : Edition → List (List ℕ) → Result Base ℕ
decoded_rows edition bodies = placed_rows (total bodies) ((rows edition).read bodies)

-- no answer where there was no memory
abbrev pub rows_told : Result Base DecodeRefused → Option (Result Base ℕ)
rows_told (Ok base) = Some (Ok base)
rows_told (Err (NoEntry place)) = Some (Err place)
rows_told (Err Memory) = None

-- Rows are decoded exactly from their spelling.
abbrev pub AreDecodedFromSpelling : Type 0
AreDecodedFromSpelling = (edition : Edition) (bodies : List (List ℕ)) (base : Base) → AreBytes bodies
    → ((decoded_rows edition bodies ≡ Ok base) ↔ (HasSnapshot edition base × (snapshot edition base ≡ bodies)))

-- Rows with one spelling are the same rows.
abbrev pub SpellsOneBase : Type 0
SpellsOneBase = (edition : Edition) (a b : Base) → HasSnapshot edition a → HasSnapshot edition b
    → snapshot edition a ≡ snapshot edition b → a ≡ b

-- the body of a version
unfoldable pub version_body : VersionRow → List ℕ
version_body v = version.spell v

-- the body of a secret without its versions
unfoldable pub row_body : Edition → SecretRow → List ℕ
row_body edition row = (row_head edition).spell (head_of_row row)

-- the body before all secrets
unfoldable pub start_body : Base → List ℕ
start_body base = start.spell (start_of_base base)

-- a version as bodies
abbrev pub one_version : VersionRow → List (List ℕ)
one_version v = version_body v ∷ []

-- the bodies of a secret: its own, and those of its versions
abbrev pub secret_bodies : Edition → SecretRow → List (List ℕ)
secret_bodies edition row = row_body edition row ∷ flat_map one_version row.versions
