-- Look-ups in rows that were swept.
use Rattle.std.proofs.Common.{◌≡◌, ℕ, Bool, true, false, not, ◌&&◌, cond, eqb, List, [], ◌∷◌, Option, Some, None, IfSome, refl, sym, ap, ◌∙◌, arith}
use Rattle.std.proofs.lemmas.Bool.{eqb-true, false≢true}
use Rattle.std.specs.List.{find}
use Rattle.sm_base.specs.declared.moment.Moment.{Moment}
use Rattle.sm_model.specs.declared.rows.SecretRow.{SecretRow}
use Rattle.sm_base.specs.Texts.{same_text}
use Rattle.sm_table.specs.Sweep.{is_gone, swept}
use Rattle.sm_table.specs.Found.{row_named, row_with_arn, row_with_short_arn, short_arn}
use Rattle.sm_table.specs.Changes.{row_with}

pub row_named_is_find : (rows : List SecretRow) (moment : Moment) (name : List ℕ)
    → row_named (swept rows moment) name ≡ find (λ r. not (is_gone r moment) && same_text r.name name) rows
row_named_is_find [] moment name = refl
row_named_is_find (r ∷ rs) moment name = grind (arith, row_named_is_find rs moment name)

pub row_with_arn_is_find : (rows : List SecretRow) (moment : Moment) (arn : List ℕ)
    → row_with_arn (swept rows moment) arn ≡ find (λ r. not (is_gone r moment) && same_text r.arn arn) rows
row_with_arn_is_find [] moment arn = refl
row_with_arn_is_find (r ∷ rs) moment arn = grind (arith, row_with_arn_is_find rs moment arn)

pub row_with_short_arn_is_find : (rows : List SecretRow) (moment : Moment) (arn : List ℕ)
    → row_with_short_arn (swept rows moment) arn ≡ find (λ r. not (is_gone r moment) && same_text (short_arn r.arn) arn)
    rows
row_with_short_arn_is_find [] moment arn = refl
row_with_short_arn_is_find (r ∷ rs) moment arn = grind (arith, row_with_short_arn_is_find rs moment arn)

-- the row with a serial has it
pub row_with_has : (rows : List SecretRow) (serial : ℕ) (row : SecretRow) → row_with rows serial ≡ Some row
    → row.serial ≡ serial
row_with_has [] serial row e = absurd (cc)
row_with_has (r ∷ rs) serial row e = by (eqb r.serial serial) refl e (row_with_has rs serial row)
  where
    by : (b : Bool) → b ≡ eqb r.serial serial → cond b (Some r) (row_with rs serial) ≡ Some row
        → (row_with rs serial ≡ Some row → row.serial ≡ serial) → row.serial ≡ serial
    by true t e later = let same : r ≡ row = cc in ap (λ q. q.serial) (sym same) ∙ eqb-true r.serial serial (sym t)
    by false t e later = later e

pub row_with_have : (rows : List SecretRow) (serial : ℕ) (result : Option SecretRow) → result ≡ row_with rows serial
    → IfSome result (λ row. row.serial ≡ serial)
row_with_have rows serial None e = tt
row_with_have rows serial (Some row) e = row_with_has rows serial row (sym e)

-- the row with a serial is still there where its date is not reached
pub row_with_stays : (rows : List SecretRow) (moment : Moment) (serial : ℕ) (row : SecretRow)
    → row_with rows serial ≡ Some row → is_gone row moment ≡ false → row_with (swept rows moment) serial ≡ Some row
row_with_stays [] moment serial row e stays = e
row_with_stays (r ∷ rs) moment serial row e stays =
    by (eqb r.serial serial) refl e (row_with_stays rs moment serial row)
  where
    head : (g : Bool) → g ≡ false → eqb r.serial serial ≡ true → r ≡ row
        → row_with (cond g (swept rs moment) (r ∷ swept rs moment)) serial ≡ Some row
    head true g t same = absurd (false≢true (sym g))
    head false g t same = rw t (ap Some same)

    tail : (g : Bool) → eqb r.serial serial ≡ false → row_with (swept rs moment) serial ≡ Some row
        → row_with (cond g (swept rs moment) (r ∷ swept rs moment)) serial ≡ Some row
    tail true t later = later
    tail false t later = rw t later

    by : (b : Bool) → b ≡ eqb r.serial serial → cond b (Some r) (row_with rs serial) ≡ Some row
        → (row_with rs serial ≡ Some row → is_gone row moment ≡ false → row_with (swept rs moment) serial ≡ Some row)
        → row_with (swept (r ∷ rs) moment) serial ≡ Some row
    by true t e later = let same : r ≡ row = cc in
        head (is_gone r moment) (ap (λ q. is_gone q moment) same ∙ stays) (sym t) same
    by false t e later = tail (is_gone r moment) (sym t) (later e stays)
