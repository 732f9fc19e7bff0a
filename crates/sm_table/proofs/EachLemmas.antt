-- What is left of a fact of each row by a sweep and by a change.
use Rattle.std.proofs.Common.{◌≡◌, ℕ, eqb, Bool, true, false, cond, List, [], ◌∷◌, ◌++◌, Some, subst}
use Rattle.sm_base.specs.declared.moment.Moment.{Moment}
use Rattle.sm_model.specs.declared.rows.SecretRow.{SecretRow}
use Rattle.sm_table.specs.Sweep.{is_gone, swept}
use Rattle.sm_table.specs.Changes.{row_with, replaced, dropped}
use Rattle.sm_table.specs.Kept.{Each}

pub each_then : (Fact Other : SecretRow → Type 0) (rows : List SecretRow) → ((row : SecretRow) → Fact row → Other row)
    → Each Fact rows → Each Other rows
each_then Fact Other [] follows each = tt
each_then Fact Other (r ∷ rs) follows each = (follows r each.0, each_then Fact Other rs follows each.1)

pub swept_each : (Fact : SecretRow → Type 0) (rows : List SecretRow) (moment : Moment) → Each Fact rows
    → Each Fact (swept rows moment)
swept_each Fact [] moment each = each
swept_each Fact (r ∷ rs) moment each = by (is_gone r moment) (swept_each Fact rs moment each.1)
  where
    by : (b : Bool) → Each Fact (swept rs moment) → Each Fact (cond b (swept rs moment) (r ∷ swept rs moment))
    by true rest = rest
    by false rest = (each.0, rest)

pub dropped_each : (Fact : SecretRow → Type 0) (rows : List SecretRow) (serial : ℕ) → Each Fact rows
    → Each Fact (dropped rows serial)
dropped_each Fact [] serial each = each
dropped_each Fact (r ∷ rs) serial each = by (eqb r.serial serial) (dropped_each Fact rs serial each.1)
  where
    by : (b : Bool) → Each Fact (dropped rs serial) → Each Fact (cond b (dropped rs serial) (r ∷ dropped rs serial))
    by true rest = rest
    by false rest = (each.0, rest)

pub replaced_each : (Fact : SecretRow → Type 0) (rows : List SecretRow) (row : SecretRow) → Fact row → Each Fact rows
    → Each Fact (replaced rows row)
replaced_each Fact [] row own each = each
replaced_each Fact (r ∷ rs) row own each = by (eqb r.serial row.serial) (replaced_each Fact rs row own each.1)
  where
    by : (b : Bool) → Each Fact (replaced rs row) → Each Fact (cond b (row ∷ rs) (r ∷ replaced rs row))
    by true rest = (own, each.1)
    by false rest = (each.0, rest)

pub push_each : (Fact : SecretRow → Type 0) (rows : List SecretRow) (row : SecretRow) → Fact row → Each Fact rows
    → Each Fact (rows ++ row ∷ [])
push_each Fact [] row own each = (own, tt)
push_each Fact (r ∷ rs) row own each = (each.0, push_each Fact rs row own each.1)

-- the row with a serial is one of them
pub each_with : (Fact : SecretRow → Type 0) (rows : List SecretRow) (serial : ℕ) (row : SecretRow)
    → row_with rows serial ≡ Some row → Each Fact rows → Fact row
each_with Fact [] serial row found each = absurd (cc)
each_with Fact (r ∷ rs) serial row found each =
    by (eqb r.serial serial) found (λ g. each_with Fact rs serial row g each.1)
  where
    by : (b : Bool) → cond b (Some r) (row_with rs serial) ≡ Some row → (row_with rs serial ≡ Some row → Fact row)
        → Fact row
    by true here rest = let same : r ≡ row = cc in subst Fact same each.0
    by false there rest = rest there
