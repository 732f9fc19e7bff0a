-- What a change keeps of the rows.
use Rattle.std.proofs.Common.{◌≡◌, ℕ, ◌+◌, ◌≤◌, eqb, leb, Bool, true, false, cond, List, [], ◌∷◌, ◌++◌, refl, sym, ap, arith}
use Rattle.std.proofs.lemmas.Bool.{and_parts, and_from, eqb-true}
use Rattle.std.proofs.lemmas.Bool.Decides.{nat_tests}
use Rattle.sm_base.specs.declared.moment.Moment.{Moment}
use Rattle.sm_model.specs.declared.entry.Change.{Change}
use Rattle.sm_model.specs.declared.entry.Change.TheVariants.{Add, Replace, Drop, Nothing}
use Rattle.sm_model.specs.declared.rows.SecretRow.{SecretRow}
use Rattle.sm_model.specs.declared.rows.Rows.{Rows}
use Rattle.sm_versions.specs.Serials.{rises}
use Rattle.sm_versions.specs.Kept.{CurrentKept}
use Rattle.sm_versions.proofs.ValueLemmas.{rises_push}
use Rattle.sm_table.specs.Sweep.{is_gone, swept, sweep}
use Rattle.sm_table.specs.Changes.{replaced, dropped, changed, CanMake}
use Rattle.sm_table.specs.Kept.{row_serials, EachKept, RowsKept, ChangeKept}
use Rattle.sm_table.proofs.EachLemmas.{swept_each, dropped_each, replaced_each, push_each}

-- ---- serials

rises_from : (low high : ℕ) (ns : List ℕ) (next : ℕ) → low ≤ high → rises high ns next ≡ true → rises low ns next ≡ true
rises_from low high [] next h r = grind (arith, nat_tests)
rises_from low high (n ∷ ns) next h r = grind (arith, nat_tests)

rises_past : (low n : ℕ) (ns : List ℕ) (next : ℕ) → rises low (n ∷ ns) next ≡ true → rises low ns next ≡ true
rises_past low n ns next h =
    let parts = and_parts (leb low n) (rises (n + 1) ns next) h in
    rises_from low (n + 1) ns next (grind (arith, nat_tests, parts.0)) parts.1

rises_on : (low n : ℕ) (ns ms : List ℕ) (next : ℕ) → rises low (n ∷ ns) next ≡ true
    → (rises (n + 1) ns next ≡ true → rises (n + 1) ms next ≡ true) → rises low (n ∷ ms) next ≡ true
rises_on low n ns ms next h step =
    let parts = and_parts (leb low n) (rises (n + 1) ns next) h in
    and_from (leb low n) (rises (n + 1) ms next) parts.0 (step parts.1)

pub swept_rises : (rows : List SecretRow) (moment : Moment) (low next : ℕ) → rises low (row_serials rows) next ≡ true
    → rises low (row_serials (swept rows moment)) next ≡ true
swept_rises [] moment low next h = h
swept_rises (r ∷ rs) moment low next h =
    by (is_gone r moment) (swept_rises rs moment low next) (swept_rises rs moment (r.serial + 1) next)
  where
    by : (b : Bool) → (rises low (row_serials rs) next ≡ true → rises low (row_serials (swept rs moment)) next ≡ true)
        → (rises (r.serial + 1) (row_serials rs) next ≡ true
        → rises (r.serial + 1) (row_serials (swept rs moment)) next ≡ true)
        → rises low (row_serials (cond b (swept rs moment) (r ∷ swept rs moment))) next ≡ true
    by true gone stays = gone (rises_past low r.serial (row_serials rs) next h)
    by false gone stays = rises_on low r.serial (row_serials rs) (row_serials (swept rs moment)) next h stays

pub dropped_rises : (rows : List SecretRow) (serial low next : ℕ) → rises low (row_serials rows) next ≡ true
    → rises low (row_serials (dropped rows serial)) next ≡ true
dropped_rises [] serial low next h = h
dropped_rises (r ∷ rs) serial low next h =
    by (eqb r.serial serial) (dropped_rises rs serial low next) (dropped_rises rs serial (r.serial + 1) next)
  where
    by : (b : Bool) → (rises low (row_serials rs) next ≡ true → rises low (row_serials (dropped rs serial)) next ≡ true)
        → (rises (r.serial + 1) (row_serials rs) next ≡ true
        → rises (r.serial + 1) (row_serials (dropped rs serial)) next ≡ true)
        → rises low (row_serials (cond b (dropped rs serial) (r ∷ dropped rs serial))) next ≡ true
    by true gone stays = gone (rises_past low r.serial (row_serials rs) next h)
    by false gone stays = rises_on low r.serial (row_serials rs) (row_serials (dropped rs serial)) next h stays

pub replaced_serials : (rows : List SecretRow) (row : SecretRow) → row_serials (replaced rows row) ≡ row_serials rows
replaced_serials [] row = refl
replaced_serials (r ∷ rs) row = by (eqb r.serial row.serial) refl (replaced_serials rs row)
  where
    by : (b : Bool) → b ≡ eqb r.serial row.serial → row_serials (replaced rs row) ≡ row_serials rs
        → row_serials (cond b (row ∷ rs) (r ∷ replaced rs row)) ≡ r.serial ∷ row_serials rs
    by true e rest = ap (λ n. n ∷ row_serials rs) (sym (eqb-true r.serial row.serial (sym e)))
    by false e rest = ap (λ ns. r.serial ∷ ns) rest

serials_push : (rows : List SecretRow) (row : SecretRow) → row_serials (rows ++ row ∷ []) ≡ row_serials rows
    ++ row.serial ∷ []
serials_push [] row = refl
serials_push (r ∷ rs) row = ap (λ ns. r.serial ∷ ns) (serials_push rs row)

-- ---- all rows

-- a sweep keeps what holds of the rows
pub sweep_keeps : (rows : Rows) (moment : Moment) → RowsKept rows → RowsKept (sweep rows moment)
sweep_keeps rows moment kept = record {
  serials = swept_rises rows.secrets moment 0 rows.next kept.serials;
  each = swept_each CurrentKept rows.secrets moment kept.each;
}

-- an added row has the next serial
abbrev pub IsNext : Rows → Change → Type 0
IsNext rows (Add row) = row.serial ≡ rows.next
IsNext rows (Replace row) = Unit {0}
IsNext rows (Drop serial) = Unit {0}
IsNext rows Nothing = Unit {0}

-- a change keeps serials rising, where an added row has the next one
pub change_rises : (rows : Rows) (change : Change) → IsNext rows change
    → rises 0 (row_serials rows.secrets) rows.next ≡ true
    → rises 0 (row_serials (changed rows change).secrets) (changed rows change).next ≡ true
change_rises rows (Add row) next h =
    rw (serials_push rows.secrets row) (rw next (rises_push 0 (row_serials rows.secrets) rows.next h))
change_rises rows (Replace row) next h = rw (replaced_serials rows.secrets row) h
change_rises rows (Drop serial) next h = dropped_rises rows.secrets serial 0 rows.next h
change_rises rows Nothing next h = h

-- a change keeps each row, where its own is kept
change_each : (rows : Rows) (change : Change) → ChangeKept change → EachKept rows.secrets
    → EachKept (changed rows change).secrets
change_each rows (Add row) new each = push_each CurrentKept rows.secrets row new each
change_each rows (Replace row) new each = replaced_each CurrentKept rows.secrets row new each
change_each rows (Drop serial) new each = dropped_each CurrentKept rows.secrets serial each
change_each rows Nothing new each = each

-- a change keeps it, where its row is kept and an added row has the next serial
pub change_keeps : (rows : Rows) (change : Change) → IsNext rows change → ChangeKept change → RowsKept rows
    → RowsKept (changed rows change)
change_keeps rows change next new kept = record {
  serials = change_rises rows change next kept.serials;
  each = change_each rows change new kept.each;
}

next_from : (rows : Rows) (moment : Moment) (change : Change) → CanMake rows change → IsNext (sweep rows moment) change
next_from rows moment (Add row) can = can.0
next_from rows moment (Replace row) can = tt
next_from rows moment (Drop serial) can = tt
next_from rows moment Nothing can = tt

-- what a commit leaves rises
pub commit_rises : (rows : Rows) (moment : Moment) (change : Change) → CanMake rows change
    → rises 0 (row_serials rows.secrets) rows.next ≡ true
    → let left = changed (sweep rows moment) change in rises 0 (row_serials left.secrets) left.next ≡ true
commit_rises rows moment change can h =
    change_rises (sweep rows moment) change (next_from rows moment change can)
    (swept_rises rows.secrets moment 0 rows.next h)

-- and is kept
pub commit_keeps : (rows : Rows) (moment : Moment) (change : Change) → CanMake rows change → RowsKept rows
    → ChangeKept change → RowsKept (changed (sweep rows moment) change)
commit_keeps rows moment change can kept new =
    change_keeps (sweep rows moment) change (next_from rows moment change can) new (sweep_keeps rows moment kept)
