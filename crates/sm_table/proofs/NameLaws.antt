-- What a change keeps of the names and ARNs of the rows.
use Rattle.std.proofs.Common.{◌≡◌, ℕ, ◌+◌, ◌<◌, eqb, leb, Bool, true, false, ◌||◌, cond, List, [], ◌∷◌, ◌++◌, Option, Some, None, IsSome, IsNone, IsSomeAnd, refl, sym, ap, ◌∙◌, arith}
use Rattle.std.proofs.lemmas.Grind.{common_steps}
use Rattle.std.proofs.lemmas.Bool.{and_parts, false≢true}
use Rattle.std.proofs.lemmas.Bool.Decides.{nat_tests}
use Rattle.sm_base.specs.declared.moment.Moment.{Moment}
use Rattle.sm_model.specs.declared.entry.Change.{Change}
use Rattle.sm_model.specs.declared.entry.Change.TheVariants.{Add, Replace, Drop, Nothing}
use Rattle.sm_model.specs.declared.rows.SecretRow.{SecretRow}
use Rattle.sm_model.specs.declared.rows.Rows.{Rows}
use Rattle.sm_versions.specs.Texts.{is_among, once}
use Rattle.sm_base.specs.Texts.{same_text}
use Rattle.sm_versions.specs.Serials.{rises}
use Rattle.sm_versions.proofs.TextLemmas.{same_text_tells}
use Rattle.sm_table.specs.Sweep.{is_gone, swept, sweep}
use Rattle.sm_table.specs.Found.{row_named}
use Rattle.sm_table.specs.Changes.{row_with, replaced, dropped, changed, CanMake, StandsAt}
use Rattle.sm_table.specs.Kept.{row_serials, row_names, HasOwnArn, EachArn, NamesKept}
use Rattle.sm_table.proofs.EachLemmas.{swept_each, dropped_each, replaced_each, push_each, each_with}

-- ---- which names there are

pub swept_lacks : (rows : List SecretRow) (moment : Moment) (t : List ℕ) → is_among (row_names rows) t ≡ false
    → is_among (row_names (swept rows moment)) t ≡ false
swept_lacks [] moment t h = h
swept_lacks (r ∷ rs) moment t h = grind (arith, common_steps, swept_lacks rs moment t)

dropped_lacks : (rows : List SecretRow) (serial : ℕ) (t : List ℕ) → is_among (row_names rows) t ≡ false
    → is_among (row_names (dropped rows serial)) t ≡ false
dropped_lacks [] serial t h = h
dropped_lacks (r ∷ rs) serial t h = grind (arith, common_steps, dropped_lacks rs serial t)

pub named_lacks : (rows : List SecretRow) (t : List ℕ) → row_named rows t ≡ None → is_among (row_names rows) t ≡ false
named_lacks [] t h = refl
named_lacks (r ∷ rs) t h = grind (arith, common_steps, named_lacks rs t)

among_push : (ts : List (List ℕ)) (u t : List ℕ) → is_among (ts ++ u ∷ []) t ≡ (is_among ts t || same_text u t)
among_push [] u t = grind (arith, common_steps)
among_push (x ∷ ts) u t = grind (arith, common_steps, among_push ts u t)

pub names_push : (rows : List SecretRow) (row : SecretRow)
    → row_names (rows ++ row ∷ []) ≡ row_names rows ++ row.name ∷ []
names_push [] row = refl
names_push (r ∷ rs) row = ap (λ ts. r.name ∷ ts) (names_push rs row)

-- ---- each name once

swept_once : (rows : List SecretRow) (moment : Moment) → once (row_names rows) ≡ true
    → once (row_names (swept rows moment)) ≡ true
swept_once [] moment h = h
swept_once (r ∷ rs) moment h = grind (arith, common_steps, swept_once rs moment, swept_lacks rs moment r.name)

dropped_once : (rows : List SecretRow) (serial : ℕ) → once (row_names rows) ≡ true
    → once (row_names (dropped rows serial)) ≡ true
dropped_once [] serial h = h
dropped_once (r ∷ rs) serial h = grind (arith, common_steps, dropped_once rs serial, dropped_lacks rs serial r.name)

push_once : (ts : List (List ℕ)) (t : List ℕ) → once ts ≡ true → is_among ts t ≡ false → once (ts ++ t ∷ []) ≡ true
push_once [] t h lacks = refl
push_once (x ∷ ts) t h lacks =
    grind (arith, common_steps, push_once ts t, among_push ts t x, same_text_tells x t, same_text_tells t x)

-- a row in the place of one with its name
replaced_names : (rows : List SecretRow) (row old : SecretRow) → row_with rows row.serial ≡ Some old
    → row.name ≡ old.name → row_names (replaced rows row) ≡ row_names rows
replaced_names [] row old found e = absurd (cc)
replaced_names (r ∷ rs) row old found e = by (eqb r.serial row.serial) found (replaced_names rs row old)
  where
    by : (b : Bool) → cond b (Some r) (row_with rs row.serial) ≡ Some old
        → (row_with rs row.serial ≡ Some old → row.name ≡ old.name → row_names (replaced rs row) ≡ row_names rs)
        → row_names (cond b (row ∷ rs) (r ∷ replaced rs row)) ≡ r.name ∷ row_names rs
    by true found rest = let same : r ≡ old = cc in ap (λ t. t ∷ row_names rs) (e ∙ ap (λ q. q.name) (sym same))
    by false found rest = ap (λ ts. r.name ∷ ts) (rest found e)

-- ---- each ARN of its name

replaced_arns : (rows : List SecretRow) (row old : SecretRow) → row_with rows row.serial ≡ Some old
    → row.name ≡ old.name → row.arn ≡ old.arn → EachArn rows → EachArn (replaced rows row)
replaced_arns rows row old found e f each =
    let own : HasOwnArn old = each_with HasOwnArn rows row.serial old found each in
    replaced_each HasOwnArn rows row (rw (e, f) own) each

-- ---- a row that is still there is the one that was there

-- no row has a serial below those of the rows
pub below_lacks : (rows : List SecretRow) (low next serial : ℕ) → rises low (row_serials rows) next ≡ true
    → serial < low → row_with rows serial ≡ None
below_lacks [] low next serial h below = refl
below_lacks (r ∷ rs) low next serial h below = grind (arith, nat_tests, below_lacks rs (r.serial + 1) next serial)

swept_below : (rows : List SecretRow) (moment : Moment) (serial : ℕ) → row_with rows serial ≡ None
    → row_with (swept rows moment) serial ≡ None
swept_below [] moment serial h = h
swept_below (r ∷ rs) moment serial h = grind (arith, common_steps, swept_below rs moment serial)

still_there : (rows : List SecretRow) (moment : Moment) (low next serial : ℕ) (old now : SecretRow)
    → rises low (row_serials rows) next ≡ true
    → row_with rows serial ≡ Some old → row_with (swept rows moment) serial ≡ Some now → now ≡ old
still_there [] moment low next serial old now h found there = absurd (cc)
still_there (r ∷ rs) moment low next serial old now h found there =
    let parts = and_parts (leb low r.serial) (rises (r.serial + 1) (row_serials rs) next) h in
    by (eqb r.serial serial) refl (is_gone r moment) found there
    (still_there rs moment (r.serial + 1) next serial old now parts.1) parts.1
  where
    by : (b : Bool) → b ≡ eqb r.serial serial → (g : Bool) → cond b (Some r) (row_with rs serial) ≡ Some old
        → row_with (cond g (swept rs moment) (r ∷ swept rs moment)) serial ≡ Some now
        → (row_with rs serial ≡ Some old → row_with (swept rs moment) serial ≡ Some now → now ≡ old)
        → rises (r.serial + 1) (row_serials rs) next ≡ true → now ≡ old
    by true e true found there rest later =
        let none = swept_below rs moment serial
        (below_lacks rs (r.serial + 1) next serial later (grind (arith, nat_tests))) in absurd (cc)
    by true e false found there rest later =
        let here : Some r ≡ Some now = ap (λ b. cond b (Some r) (row_with (swept rs moment) serial)) e ∙ there in cc
    by false e true found there rest later = rest found there
    by false e false found there rest later =
        rest found (ap (λ b. cond b (Some r) (row_with (swept rs moment) serial)) e ∙ there)

-- ---- a commit

pub sweep_names : (rows : Rows) (moment : Moment) → NamesKept rows → NamesKept (sweep rows moment)
sweep_names rows moment kept = record {
  once = swept_once rows.secrets moment kept.once;
  arns = swept_each HasOwnArn rows.secrets moment kept.arns;
}

add_names : (rows : Rows) (row : SecretRow) → HasOwnArn row → row_named rows.secrets row.name ≡ None
    → NamesKept rows → NamesKept (changed rows (Add row))
add_names rows row own free kept = record {
  once = rw (names_push rows.secrets row)
      (push_once (row_names rows.secrets) row.name kept.once (named_lacks rows.secrets row.name free));
  arns = push_each HasOwnArn rows.secrets row own kept.arns;
}

replace_names : (rows : Rows) (row old : SecretRow) → row_with rows.secrets row.serial ≡ Some old → row.name ≡ old.name
    → row.arn ≡ old.arn → NamesKept rows → NamesKept (changed rows (Replace row))
replace_names rows row old found e f kept = record {
  once = rw (replaced_names rows.secrets row old found e) kept.once;
  arns = replaced_arns rows.secrets row old found e f kept.arns;
}

drop_names : (rows : Rows) (serial : ℕ) → NamesKept rows → NamesKept (changed rows (Drop serial))
drop_names rows serial kept = record {
  once = dropped_once rows.secrets serial kept.once;
  arns = dropped_each HasOwnArn rows.secrets serial kept.arns;
}

none_from : (o : Option SecretRow) → IsNone o → o ≡ None
none_from None h = refl
none_from (Some row) h = absurd (false≢true (sym h))

-- a row that replaces one which is still there has its name and its ARN
still_same : (rows : Rows) (moment : Moment) (row : SecretRow) (before after : Option SecretRow)
    → row_with rows.secrets row.serial ≡ before → row_with (swept rows.secrets moment) row.serial ≡ after
    → IsSomeAnd before (λ old. (row.name ≡ old.name) × (row.arn ≡ old.arn)) → IsSome after
    → rises 0 (row_serials rows.secrets) rows.next ≡ true
    → (now : SecretRow) × (row_with (swept rows.secrets moment) row.serial ≡ Some now) × (row.name ≡ now.name)
    × (row.arn ≡ now.arn)
still_same rows moment row None after e f can there h = absurd can
still_same rows moment row (Some old) None e f can there h = absurd (false≢true there)
still_same rows moment row (Some old) (Some now) e f can there h =
    let same = still_there rows.secrets moment 0 rows.next row.serial old now h e f in
    (now, f, can.0 ∙ ap (λ q. q.name) (sym same), can.1 ∙ ap (λ q. q.arn) (sym same))

replace_still : (rows : Rows) (moment : Moment) (row : SecretRow) → CanMake rows (Replace row)
    → StandsAt rows moment (Replace row) → rises 0 (row_serials rows.secrets) rows.next ≡ true → NamesKept rows
    → NamesKept (changed (sweep rows moment) (Replace row))
replace_still rows moment row can stands h names =
    let still = still_same rows moment row _ _ refl refl can stands h in
    replace_names (sweep rows moment) row still.0 still.1 still.2 still.3 (sweep_names rows moment names)

-- the names stay where a row is replaced
pub replace_same : (rows : Rows) (moment : Moment) (row : SecretRow) → CanMake rows (Replace row)
    → StandsAt rows moment (Replace row) → rises 0 (row_serials rows.secrets) rows.next ≡ true
    → row_names (replaced (swept rows.secrets moment) row) ≡ row_names (swept rows.secrets moment)
replace_same rows moment row can stands h =
    let still = still_same rows moment row _ _ refl refl can stands h in
    replaced_names (swept rows.secrets moment) row still.0 still.1 still.2

-- the names and ARNs that a commit leaves
pub commit_names : (rows : Rows) (moment : Moment) (change : Change) → CanMake rows change → StandsAt rows moment change
    → rises 0 (row_serials rows.secrets) rows.next ≡ true → NamesKept rows
    → NamesKept (changed (sweep rows moment) change)
commit_names rows moment (Add row) can stands h names =
    add_names (sweep rows moment) row can.2 (none_from _ stands) (sweep_names rows moment names)
commit_names rows moment (Replace row) can stands h names = replace_still rows moment row can stands h names
commit_names rows moment (Drop serial) can stands h names =
    drop_names (sweep rows moment) serial (sweep_names rows moment names)
commit_names rows moment Nothing can stands h names = sweep_names rows moment names
