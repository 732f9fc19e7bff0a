-- A row apart from the others.
use Rattle.std.proofs.Common.{◌≡◌, ℕ, suc, ◌+◌, ◌<◌, ◌≤◌, leb, eqb, Bool, true, false, cond, List, [], ◌∷◌, ◌++◌, length, Some, None, refl, ap, arith}
use Rattle.std.proofs.lemmas.Bool.{and_parts, eq-eqb}
use Rattle.std.proofs.lemmas.Bool.Decides.{nat_tests}
use Rattle.sm_model.specs.declared.rows.SecretRow.{SecretRow}
use Rattle.sm_versions.specs.Serials.{rises}
use Rattle.sm_table.specs.Changes.{row_with, replaced, dropped}
use Rattle.sm_table.specs.Kept.{row_serials}

-- a row has a serial from the lowest on
pub row_from : (rows : List SecretRow) (serial low next : ℕ) (row : SecretRow)
    → rises low (row_serials rows) next ≡ true → row_with rows serial ≡ Some row → low ≤ serial
row_from [] serial low next row h e = absurd (cc)
row_from (r ∷ rs) serial low next row h e =
    let parts = and_parts (leb low r.serial) (rises (r.serial + 1) (row_serials rs) next) h in
    by (eqb r.serial serial) refl parts.0 e (row_from rs serial (r.serial + 1) next row parts.1)
  where
    by : (b : Bool) → b ≡ eqb r.serial serial → leb low r.serial ≡ true
        → cond b (Some r) (row_with rs serial) ≡ Some row
        → (row_with rs serial ≡ Some row → r.serial + 1 ≤ serial) → low ≤ serial
    by true t first e rest = grind (arith, nat_tests)
    by false t first e rest = let later = rest e in grind (arith, nat_tests)

-- ---- a row that is added

pub pushed_row : (rows : List SecretRow) (row : SecretRow) → row_with rows row.serial ≡ None
    → row_with (rows ++ row ∷ []) row.serial ≡ Some row
pushed_row [] row none = rw (eq-eqb row.serial row.serial refl) refl
pushed_row (r ∷ rs) row none = by (eqb r.serial row.serial) none (pushed_row rs row)
  where
    by : (b : Bool) → cond b (Some r) (row_with rs row.serial) ≡ None
        → (row_with rs row.serial ≡ None → row_with (rs ++ row ∷ []) row.serial ≡ Some row)
        → cond b (Some r) (row_with (rs ++ row ∷ []) row.serial) ≡ Some row
    by true none rest = absurd (cc)
    by false none rest = rest none

pub pushed_dropped : (rows : List SecretRow) (row : SecretRow) → row_with rows row.serial ≡ None
    → dropped (rows ++ row ∷ []) row.serial ≡ rows
pushed_dropped [] row none = rw (eq-eqb row.serial row.serial refl) refl
pushed_dropped (r ∷ rs) row none = by (eqb r.serial row.serial) none (pushed_dropped rs row)
  where
    by : (b : Bool) → cond b (Some r) (row_with rs row.serial) ≡ None
        → (row_with rs row.serial ≡ None → dropped (rs ++ row ∷ []) row.serial ≡ rs)
        → cond b (dropped (rs ++ row ∷ []) row.serial) (r ∷ dropped (rs ++ row ∷ []) row.serial) ≡ r ∷ rs
    by true none rest = absurd (cc)
    by false none rest = ap (λ qs. r ∷ qs) (rest none)

-- ---- a row that replaces another

pub replaced_row : (rows : List SecretRow) (row old : SecretRow) → row_with rows row.serial ≡ Some old
    → row_with (replaced rows row) row.serial ≡ Some row
replaced_row [] row old e = absurd (cc)
replaced_row (r ∷ rs) row old e = by (eqb r.serial row.serial) refl e (replaced_row rs row old)
  where
    by : (b : Bool) → b ≡ eqb r.serial row.serial → cond b (Some r) (row_with rs row.serial) ≡ Some old
        → (row_with rs row.serial ≡ Some old → row_with (replaced rs row) row.serial ≡ Some row)
        → row_with (cond b (row ∷ rs) (r ∷ replaced rs row)) row.serial ≡ Some row
    by true t e rest = rw (eq-eqb row.serial row.serial refl) refl
    by false t e rest = rw (← t) (rest e)

pub replaced_dropped : (rows : List SecretRow) (row : SecretRow)
    → dropped (replaced rows row) row.serial ≡ dropped rows row.serial
replaced_dropped [] row = refl
replaced_dropped (r ∷ rs) row = by (eqb r.serial row.serial) refl (replaced_dropped rs row)
  where
    by : (b : Bool) → b ≡ eqb r.serial row.serial
        → dropped (replaced rs row) row.serial ≡ dropped rs row.serial
        → dropped (cond b (row ∷ rs) (r ∷ replaced rs row)) row.serial
        ≡ cond b (dropped rs row.serial) (r ∷ dropped rs row.serial)
    by true t rest = rw (eq-eqb row.serial row.serial refl) refl
    by false t rest = rw (← t) (ap (λ qs. r ∷ qs) rest)

-- ---- how many others there are

pub dropped_no_more : (rows : List SecretRow) (serial : ℕ) → length (dropped rows serial) ≤ length rows
dropped_no_more [] serial = omega arith
dropped_no_more (r ∷ rs) serial = by (eqb r.serial serial) (dropped_no_more rs serial)
  where
    by : (b : Bool) → length (dropped rs serial) ≤ length rs
        → length (cond b (dropped rs serial) (r ∷ dropped rs serial)) ≤ suc (length rs)
    by true rest = omega arith
    by false rest = omega arith

pub dropped_less : (rows : List SecretRow) (serial : ℕ) (row : SecretRow) → row_with rows serial ≡ Some row
    → length (dropped rows serial) < length rows
dropped_less [] serial row e = absurd (cc)
dropped_less (r ∷ rs) serial row e =
    by (eqb r.serial serial) e (dropped_no_more rs serial) (dropped_less rs serial row)
  where
    by : (b : Bool) → cond b (Some r) (row_with rs serial) ≡ Some row → length (dropped rs serial) ≤ length rs
        → (row_with rs serial ≡ Some row → length (dropped rs serial) < length rs)
        → length (cond b (dropped rs serial) (r ∷ dropped rs serial)) < suc (length rs)
    by true e most rest = omega arith
    by false e most rest = let less = rest e in omega arith

pub replaced_no_more : (rows : List SecretRow) (row : SecretRow) → length (replaced rows row) ≤ length rows
replaced_no_more [] row = omega arith
replaced_no_more (r ∷ rs) row = by (eqb r.serial row.serial) (replaced_no_more rs row)
  where
    by : (b : Bool) → length (replaced rs row) ≤ length rs
        → length (cond b (row ∷ rs) (r ∷ replaced rs row)) ≤ suc (length rs)
    by true rest = omega arith
    by false rest = omega arith
