-- What a look-up shows of the row that it gives.
use Rattle.std.proofs.Common.{◌≡◌, ◌⊎◌, ℕ, zero, suc, slice_get, ◌+◌, ◌≤◌, leb, Bool, true, false, cond, List, [], ◌∷◌, Option, Some, None, IfSome, refl, sym, ap, subst, ◌∙◌, inl, inr, arith}
use Rattle.std.proofs.lemmas.Bool.{and_parts, eq-eqb}
use Rattle.std.proofs.lemmas.Bool.Decides.{nat_tests}
use Rattle.sm_base.specs.declared.moment.Moment.{Moment}
use Rattle.sm_model.specs.declared.rows.SecretRow.{SecretRow}
use Rattle.sm_model.specs.declared.rows.Rows.{Rows}
use Rattle.sm_base.specs.declared.secret_id.SecretId.{SecretId}
use Rattle.sm_base.specs.declared.secret_id.SecretId.TheVariants.{Name, Arn}
use Rattle.sm_base.specs.Texts.{same_text}
use Rattle.sm_versions.specs.Serials.{rises}
use Rattle.sm_versions.specs.Kept.{CurrentKept}
use Rattle.sm_table.specs.Sweep.{is_gone, swept}
use Rattle.sm_table.specs.Found.{row_named, row_with_arn, row_with_short_arn, short_arn, or_else, named_by, found, found_arn}
use Rattle.sm_table.specs.Changes.{row_with}
use Rattle.sm_table.specs.Kept.{row_serials, Each, RowsKept, IsRowOf}
use Rattle.sm_versions.proofs.TextLemmas.{same_text_decides}
use Rattle.sm_table.proofs.KeptLaws.{sweep_keeps}

-- the row is one of these
abbrev pub IsIn : List SecretRow → SecretRow → Type 0
IsIn [] row = ⊥
IsIn (r ∷ rs) row = (r ≡ row) ⊎ IsIn rs row

in_by : (b : Bool) (r row : SecretRow) (rs : List SecretRow) (rest : Option SecretRow) → cond b (Some r) rest ≡ Some row
    → (rest ≡ Some row → IsIn rs row) → IsIn (r ∷ rs) row
in_by true r row rs rest e later = inl (cc)
in_by false r row rs rest e later = inr (later e)

pub named_in : (rows : List SecretRow) (name : List ℕ) (row : SecretRow) → row_named rows name ≡ Some row → IsIn rows
    row
named_in [] name row e = absurd (cc)
named_in (r ∷ rs) name row e = in_by (same_text r.name name) r row rs (row_named rs name) e (named_in rs name row)

pub with_arn_in : (rows : List SecretRow) (arn : List ℕ) (row : SecretRow) → row_with_arn rows arn ≡ Some row
    → IsIn rows row
with_arn_in [] arn row e = absurd (cc)
with_arn_in (r ∷ rs) arn row e = in_by (same_text r.arn arn) r row rs (row_with_arn rs arn) e (with_arn_in rs arn row)

with_short_arn_in : (rows : List SecretRow) (arn : List ℕ) (row : SecretRow) → row_with_short_arn rows arn ≡ Some row
    → IsIn rows row
with_short_arn_in [] arn row e = absurd (cc)
with_short_arn_in (r ∷ rs) arn row e =
    in_by (same_text (short_arn r.arn) arn) r row rs (row_with_short_arn rs arn) e (with_short_arn_in rs arn row)

else_in : (rows : List SecretRow) (first second : Option SecretRow) (row : SecretRow) → or_else first second ≡ Some row
    → (first ≡ Some row → IsIn rows row) → (second ≡ Some row → IsIn rows row) → IsIn rows row
else_in rows None second row e by_first by_second = by_second e
else_in rows (Some r) second row e by_first by_second = by_first e

pub named_by_in : (rows : List SecretRow) (id : SecretId) (row : SecretRow) → named_by rows id ≡ Some row
    → IsIn rows row
named_by_in rows (Name name) row e = named_in rows name row e
named_by_in rows (Arn arn) row e =
    else_in rows (row_with_arn rows arn) (row_with_short_arn rows arn) row e (with_arn_in rows arn row)
    (with_short_arn_in rows arn row)

-- a row that was not swept was there
pub unswept_in : (rows : List SecretRow) (moment : Moment) (row : SecretRow) → IsIn (swept rows moment) row
    → IsIn rows row
unswept_in [] moment row i = i
unswept_in (r ∷ rs) moment row i = by (is_gone r moment) i (unswept_in rs moment row)
  where
    by : (b : Bool) → IsIn (cond b (swept rs moment) (r ∷ swept rs moment)) row
        → (IsIn (swept rs moment) row → IsIn rs row) → (r ≡ row) ⊎ IsIn rs row
    by true i later = inr (later i)
    by false (inl e) later = inl e
    by false (inr i) later = inr (later i)

-- where serials rise a row is the one with its serial
in_low : (rows : List SecretRow) (low next : ℕ) (row : SecretRow) → rises low (row_serials rows) next ≡ true
    → IsIn rows row → low ≤ row.serial
in_low [] low next row h i = absurd i
in_low (r ∷ rs) low next row h (inl e) = grind (arith, nat_tests, ap (λ q. q.serial) e)
in_low (r ∷ rs) low next row h (inr i) =
    let parts = and_parts (leb low r.serial) (rises (r.serial + 1) (row_serials rs) next) h in
    grind (arith, nat_tests, in_low rs (r.serial + 1) next row parts.1 i, parts.0)

pub row_with_own : (rows : List SecretRow) (low next : ℕ) (row : SecretRow) → rises low (row_serials rows) next ≡ true
    → IsIn rows row → row_with rows row.serial ≡ Some row
row_with_own [] low next row h i = absurd i
row_with_own (r ∷ rs) low next row h (inl e) = rw (eq-eqb r.serial row.serial (ap (λ q. q.serial) e)) (ap Some e)
row_with_own (r ∷ rs) low next row h (inr i) =
    let parts = and_parts (leb low r.serial) (rises (r.serial + 1) (row_serials rs) next) h in
    let later = in_low rs (r.serial + 1) next row parts.1 i in
    let rest = row_with_own rs (r.serial + 1) next row parts.1 i in
    grind (arith, nat_tests)

pub each_in : (Fact : SecretRow → Type 0) (rows : List SecretRow) (row : SecretRow) → Each Fact rows → IsIn rows row
    → Fact row
each_in Fact [] row each i = absurd i
each_in Fact (r ∷ rs) row each (inl e) = subst Fact e each.0
each_in Fact (r ∷ rs) row each (inr i) = each_in Fact rs row each.1 i

-- a row at a place is one of the rows
pub slice_in : (rows : List SecretRow) (i : ℕ) (row : SecretRow) → slice_get rows i ≡ Some row → IsIn rows row
slice_in [] i row e = absurd (cc)
slice_in (r ∷ rs) zero row e = inl (cc)
slice_in (r ∷ rs) (suc i) row e = inr (slice_in rs i row e)

-- a row that is not gone is still there
pub in_swept : (rows : List SecretRow) (moment : Moment) (row : SecretRow) → is_gone row moment ≡ false → IsIn rows row
    → IsIn (swept rows moment) row
in_swept [] moment row stays i = i
in_swept (r ∷ rs) moment row stays (inl e) = rw (ap (λ q. is_gone q moment) e ∙ stays) (inl e)
in_swept (r ∷ rs) moment row stays (inr i) = by (is_gone r moment) (in_swept rs moment row stays i)
  where
    by : (b : Bool) → IsIn (swept rs moment) row → IsIn (cond b (swept rs moment) (r ∷ swept rs moment)) row
    by true later = later
    by false later = inr later

-- a row at a place that is not gone at the moment
pub row_at_is_row : (rows : Rows) (moment : Moment) (i : ℕ) (row : SecretRow) → RowsKept rows
    → slice_get rows.secrets i ≡ Some row → is_gone row moment ≡ false → IsRowOf rows moment row
row_at_is_row rows moment i row kept e stays =
    let here = slice_in rows.secrets i row e in
    let after = sweep_keeps rows moment kept in
    record {
      there = row_with_own rows.secrets 0 rows.next row kept.serials here;
      stands = row_with_own (swept rows.secrets moment) 0 rows.next row after.serials
          (in_swept rows.secrets moment row stays here);
      kept = each_in CurrentKept rows.secrets row kept.each here;
    }

-- a row that is still there is the one with its serial, and it is kept
row_still : (rows : Rows) (moment : Moment) (row : SecretRow) → RowsKept rows → IsIn (swept rows.secrets moment) row
    → IsRowOf rows moment row
row_still rows moment row kept still =
    let after = sweep_keeps rows moment kept in
    record {
      there = row_with_own rows.secrets 0 rows.next row kept.serials (unswept_in rows.secrets moment row still);
      stands = row_with_own (swept rows.secrets moment) 0 rows.next row after.serials still;
      kept = each_in CurrentKept (swept rows.secrets moment) row after.each still;
    }

-- what a look-up gives is the row with its own serial
pub found_own : (rows : Rows) (moment : Moment) (id : SecretId) (result : Option SecretRow)
    → rises 0 (row_serials rows.secrets) rows.next ≡ true → result ≡ found rows moment id
    → IfSome result (λ row. row_with rows.secrets row.serial ≡ Some row)
found_own rows moment id None h e = tt
found_own rows moment id (Some row) h e =
    row_with_own rows.secrets 0 rows.next row h
    (unswept_in rows.secrets moment row (named_by_in (swept rows.secrets moment) id row (sym e)))

pub found_arn_own : (rows : Rows) (moment : Moment) (arn : List ℕ) (result : Option SecretRow)
    → rises 0 (row_serials rows.secrets) rows.next ≡ true → result ≡ found_arn rows moment arn
    → IfSome result (λ row. row_with rows.secrets row.serial ≡ Some row)
found_arn_own rows moment arn None h e = tt
found_arn_own rows moment arn (Some row) h e =
    row_with_own rows.secrets 0 rows.next row h
    (unswept_in rows.secrets moment row (with_arn_in (swept rows.secrets moment) arn row (sym e)))

-- and so is the row that was found
pub found_is_row : (rows : Rows) (moment : Moment) (id : SecretId) (row : SecretRow) → RowsKept rows
    → found rows moment id ≡ Some row → IsRowOf rows moment row
found_is_row rows moment id row kept e =
    row_still rows moment row kept (named_by_in (swept rows.secrets moment) id row e)

pub found_are_rows : (rows : Rows) (moment : Moment) (id : SecretId) (result : Option SecretRow)
    → result ≡ found rows moment id → RowsKept rows → IfSome result (IsRowOf rows moment)
found_are_rows rows moment id None e kept = tt
found_are_rows rows moment id (Some row) e kept = found_is_row rows moment id row kept (sym e)

-- the same of the row that an ARN names
pub found_arn_are_rows : (rows : Rows) (moment : Moment) (arn : List ℕ) (result : Option SecretRow)
    → result ≡ found_arn rows moment arn → RowsKept rows → IfSome result (IsRowOf rows moment)
found_arn_are_rows rows moment arn None e kept = tt
found_arn_are_rows rows moment arn (Some row) e kept =
    row_still rows moment row kept (with_arn_in (swept rows.secrets moment) arn row (sym e))

with_arn_has : (rows : List SecretRow) (arn : List ℕ) (row : SecretRow) → row_with_arn rows arn ≡ Some row
    → row.arn ≡ arn
with_arn_has [] arn row e = absurd (cc)
with_arn_has (r ∷ rs) arn row e = by (same_text r.arn arn) refl e (with_arn_has rs arn row)
  where
    by : (b : Bool) → b ≡ same_text r.arn arn → cond b (Some r) (row_with_arn rs arn) ≡ Some row
        → (row_with_arn rs arn ≡ Some row → row.arn ≡ arn) → row.arn ≡ arn
    by true t e later = let same : r ≡ row = cc in ap (λ q. q.arn) (sym same) ∙ (same_text_decides r.arn arn).0 (sym t)
    by false t e later = later e

-- it has exactly this ARN
pub found_arn_is_exact : (rows : Rows) (moment : Moment) (arn : List ℕ) (result : Option SecretRow)
    → result ≡ found_arn rows moment arn → IfSome result (λ row. row.arn ≡ arn)
found_arn_is_exact rows moment arn None e = tt
found_arn_is_exact rows moment arn (Some row) e = with_arn_has (swept rows.secrets moment) arn row (sym e)
