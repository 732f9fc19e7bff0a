-- Rows with an index.
use Rattle.std.proofs.Common.{◌≡◌, ◌≢◌, ◌⊎◌, inl, inr, ℕ, suc, ◌+◌, ◌<◌, leb, Bool, true, false, not, ◌||◌, cond, eqb, List, [], ◌∷◌, ◌++◌, filter, length, Option, Some, None, refl, sym, ap, subst, ◌∙◌, arith}
use Rattle.std.proofs.lemmas.Grind.{common_steps}
use Rattle.std.proofs.lemmas.Bool.{and_parts, eqb-true, false≢true}
use Rattle.std.specs.List.{find}
use Rattle.std.specs.Option.{option_map}
use Rattle.sm_base.specs.declared.moment.Moment.{Moment}
use Rattle.sm_model.specs.declared.rows.SecretRow.{SecretRow}
use Rattle.sm_versions.specs.Serials.{rises}
use Rattle.sm_versions.specs.Texts.{is_among, once}
use Rattle.sm_base.specs.Texts.{same_text}
use Rattle.sm_versions.proofs.TextLemmas.{same_text_tells, same_text_itself}
use Rattle.sm_table.specs.Sweep.{is_gone, swept}
use Rattle.sm_table.specs.Found.{row_named}
use Rattle.sm_table.specs.Changes.{row_with, replaced, dropped}
use Rattle.sm_table.specs.Kept.{row_names, row_serials, IsRising}
use Rattle.sm_table.specs.Maps.{by_name, serial_of, without_name, without_row, stays}
use Rattle.sm_table.proofs.FoundLaws.{IsIn, named_in, row_with_own}
use Rattle.sm_table.proofs.MapLemmas.{dropped_above}

-- ---- names

lacks_all : (ts : List (List ℕ)) (t : List ℕ) → not (is_among ts t) ≡ true → is_among ts t ≡ false
lacks_all ts t h = by (is_among ts t) h
  where
    by : (b : Bool) → not b ≡ true → b ≡ false
    by true q = absurd (false≢true q)
    by false q = refl

-- the serial behind a name is that of the row that has the name
serial_named : (rows : List SecretRow) (name : List ℕ)
    → serial_of (by_name rows) name ≡ option_map (λ r. r.serial) (row_named rows name)
serial_named [] name = refl
serial_named (r ∷ rs) name = grind (arith, common_steps, serial_named rs name)

pub named_some : (rows : List SecretRow) (name : List ℕ) (serial : ℕ) → IsRising rows
    → serial_of (by_name rows) name ≡ Some serial → row_with rows serial ≡ row_named rows name
named_some rows name serial rising e = by (row_named rows name) refl (sym (serial_named rows name) ∙ e)
  where
    by : (r : Option SecretRow) → row_named rows name ≡ r → option_map (λ r. r.serial) r ≡ Some serial
        → row_with rows serial ≡ r
    by None f g = absurd (cc)
    by (Some row) f g =
        let same : row.serial ≡ serial = cc in
        subst (λ n. row_with rows n ≡ Some row) same
        (row_with_own rows 0 rising.0 row rising.1 (named_in rows name row f))

pub named_none : (rows : List SecretRow) (name : List ℕ) → serial_of (by_name rows) name ≡ None
    → row_named rows name ≡ None
named_none rows name e = by (row_named rows name) (sym (serial_named rows name) ∙ e)
  where
    by : (r : Option SecretRow) → option_map (λ r. r.serial) r ≡ None → r ≡ None
    by None g = refl
    by (Some row) g = absurd (cc)

pub named_absent : (rows : List SecretRow) (name : List ℕ) → row_named rows name ≡ None
    → serial_of (by_name rows) name ≡ None
named_absent rows name e = serial_named rows name ∙ ap (option_map (λ r. r.serial)) e

pub by_name_push : (rows : List SecretRow) (row : SecretRow)
    → by_name (rows ++ row ∷ []) ≡ by_name rows ++ (row.name, row.serial) ∷ []
by_name_push [] row = refl
by_name_push (r ∷ rs) row = ap (λ ps. (r.name, r.serial) ∷ ps) (by_name_push rs row)

-- a row in the place of one with its name
pub by_name_replaced : (rows : List SecretRow) (row : SecretRow) → row_names (replaced rows row) ≡ row_names rows
    → by_name (replaced rows row) ≡ by_name rows
by_name_replaced [] row e = refl
by_name_replaced (r ∷ rs) row e = by (eqb r.serial row.serial) refl e (by_name_replaced rs row)
  where
    by : (b : Bool) → b ≡ eqb r.serial row.serial
        → row_names (cond b (row ∷ rs) (r ∷ replaced rs row)) ≡ r.name ∷ row_names rs
        → (row_names (replaced rs row) ≡ row_names rs → by_name (replaced rs row) ≡ by_name rs)
        → by_name (cond b (row ∷ rs) (r ∷ replaced rs row)) ≡ (r.name, r.serial) ∷ by_name rs
    by true s e rest =
        let name : row.name ≡ r.name = cc in
        let serial : row.serial ≡ r.serial = sym (eqb-true r.serial row.serial (sym s)) in
        rw (name, serial) refl
    by false s e rest = let same : row_names (replaced rs row) ≡ row_names rs = cc in
        ap (λ ps. (r.name, r.serial) ∷ ps) (rest same)

-- the names of the rows that are not gone
names_swept : (rows qs : List SecretRow) (moment : Moment)
    → ((q : SecretRow) → IsIn qs q → row_with rows q.serial ≡ Some q)
    → filter (λ (p : List ℕ × ℕ). stays (row_with rows p.1) moment) (by_name qs) ≡ by_name (swept qs moment)
names_swept rows [] moment own = refl
names_swept rows (q ∷ qs) moment own =
    rw (own q (inl refl)) (by (is_gone q moment) (names_swept rows qs moment (λ p i. own p (inr i))))
  where
    by : (b : Bool)
        → filter (λ (p : List ℕ × ℕ). stays (row_with rows p.1) moment) (by_name qs) ≡ by_name (swept qs moment)
        → cond (not b)
        ((q.name, q.serial) ∷ filter (λ (p : List ℕ × ℕ). stays (row_with rows p.1) moment) (by_name qs))
        (filter (λ (p : List ℕ × ℕ). stays (row_with rows p.1) moment) (by_name qs))
        ≡ by_name (cond b (swept qs moment) (q ∷ swept qs moment))
    by true rest = rest
    by false rest = ap (λ ps. (q.name, q.serial) ∷ ps) rest

pub by_name_swept : (rows : List SecretRow) (moment : Moment) → IsRising rows
    → filter (λ (p : List ℕ × ℕ). stays (row_with rows p.1) moment) (by_name rows) ≡ by_name (swept rows moment)
by_name_swept rows moment rising =
    names_swept rows rows moment (λ q i. row_with_own rows 0 rising.0 q rising.1 i)

-- the names without that of a row that was dropped
with_lacks : (rows : List SecretRow) (serial : ℕ) (row : SecretRow) (name : List ℕ)
    → row_with rows serial ≡ Some row → is_among (row_names rows) name ≡ false → same_text row.name name ≡ false
with_lacks [] serial row name e lacks = absurd (cc)
with_lacks (r ∷ rs) serial row name e lacks =
    by (eqb r.serial serial) (same_text r.name name) refl e lacks (with_lacks rs serial row name)
  where
    by : (b s : Bool) → s ≡ same_text r.name name → cond b (Some r) (row_with rs serial) ≡ Some row
        → (s || is_among (row_names rs) name) ≡ false
        → (row_with rs serial ≡ Some row → is_among (row_names rs) name ≡ false → same_text row.name name ≡ false)
        → same_text row.name name ≡ false
    by b true t e lacks rest = absurd (false≢true (sym lacks))
    by true false t e lacks rest = let same : r ≡ row = cc in ap (λ q. same_text q.name name) (sym same) ∙ sym t
    by false false t e lacks rest = rest e lacks

turned : (a b : List ℕ) → same_text b a ≡ false → same_text a b ≡ false
turned a b h = by (same_text_tells a b)
  where
    by : ((same_text a b ≡ true) × (a ≡ b)) ⊎ ((same_text a b ≡ false) × (a ≢ b)) → same_text a b ≡ false
    by (inl p) = absurd (false≢true (sym h ∙ ap (λ t. same_text t a) (sym p.1) ∙ same_text_itself a))
    by (inr p) = p.0

dropped_from : (rows : List SecretRow) (serial low next : ℕ) (row : SecretRow)
    → rises low (row_serials rows) next ≡ true → once (row_names rows) ≡ true → row_with rows serial ≡ Some row
    → without_name (by_name rows) row.name ≡ by_name (dropped rows serial)
dropped_from [] serial low next row h names e = absurd (cc)
dropped_from (r ∷ rs) serial low next row h names e =
    let parts = and_parts (leb low r.serial) (rises (r.serial + 1) (row_serials rs) next) h in
    let each = and_parts (not (is_among (row_names rs) r.name)) (once (row_names rs)) names in
    by (eqb r.serial serial) refl e (dropped_above rs serial (r.serial + 1) next parts.1)
    (λ f. with_lacks rs serial row r.name f (lacks_all (row_names rs) r.name each.0))
    (dropped_from rs serial (r.serial + 1) next row parts.1 each.1)
  where
    by : (b : Bool) → b ≡ eqb r.serial serial → cond b (Some r) (row_with rs serial) ≡ Some row
        → (serial < r.serial + 1 → dropped rs serial ≡ rs)
        → (row_with rs serial ≡ Some row → same_text row.name r.name ≡ false)
        → (row_with rs serial ≡ Some row → without_name (by_name rs) row.name ≡ by_name (dropped rs serial))
        → without_name ((r.name, r.serial) ∷ by_name rs) row.name ≡ by_name
        (cond b (dropped rs serial) (r ∷ dropped rs serial))
    by true t e above other rest =
        let same : r ≡ row = cc in
        let serials : r.serial ≡ serial = eqb-true r.serial serial (sym t) in
        rw (ap (λ q. same_text q.name row.name) same ∙ same_text_itself row.name)
        (ap by_name (sym (above (omega (arith, serials)))))
    by false t e above other rest =
        rw (turned r.name row.name (other e)) (ap (λ ps. (r.name, r.serial) ∷ ps) (rest e))

pub by_name_dropped : (rows : List SecretRow) (serial : ℕ) (row : SecretRow) → IsRising rows
    → once (row_names rows) ≡ true → row_with rows serial ≡ Some row
    → without_name (by_name rows) row.name ≡ by_name (dropped rows serial)
by_name_dropped rows serial row rising names e = dropped_from rows serial 0 rising.0 row rising.1 names e

pub dropped_absent : (rows : List SecretRow) (serial : ℕ) → row_with rows serial ≡ None → dropped rows serial ≡ rows
dropped_absent [] serial none = refl
dropped_absent (r ∷ rs) serial none = by (eqb r.serial serial) none (dropped_absent rs serial)
  where
    by : (b : Bool) → cond b (Some r) (row_with rs serial) ≡ None
        → (row_with rs serial ≡ None → dropped rs serial ≡ rs) → cond b (dropped rs serial) (r ∷ dropped rs serial) ≡
        r ∷ rs
    by true none rest = absurd (cc)
    by false none rest = ap (λ qs. r ∷ qs) (rest none)

pub by_name_without : (rows : List SecretRow) (serial : ℕ) (row : Option SecretRow) → IsRising rows
    → once (row_names rows) ≡ true → row ≡ row_with rows serial
    → without_row (by_name rows) row ≡ by_name (dropped rows serial)
by_name_without rows serial None rising names e = ap by_name (sym (dropped_absent rows serial (sym e)))
by_name_without rows serial (Some row) rising names e = by_name_dropped rows serial row rising names (sym e)

pub by_name_count : (rows : List SecretRow) → length (by_name rows) ≡ length rows
by_name_count [] = refl
by_name_count (r ∷ rs) = ap suc (by_name_count rs)

-- ---- a test that only rows of one name pass

-- each row that passes the test has the name
abbrev pub EachPasses : (SecretRow → Bool) → List ℕ → List SecretRow → Type 0
EachPasses test name [] = Unit {0}
EachPasses test name (r ∷ rs) = (test r ≡ true → r.name ≡ name) × EachPasses test name rs

-- the row, if it passes the test
abbrev pub passing : (SecretRow → Bool) → Option SecretRow → Option SecretRow
passing test None = None
passing test (Some row) = cond (test row) (Some row) None

find_none : (test : SecretRow → Bool) (name : List ℕ) (rows : List SecretRow) → EachPasses test name rows
    → is_among (row_names rows) name ≡ false → find test rows ≡ None
find_none test name [] each lacks = refl
find_none test name (r ∷ rs) each lacks =
    by (test r) refl (same_text_tells r.name name) lacks (find_none test name rs each.1)
  where
    by : (b : Bool) → b ≡ test r
        → ((same_text r.name name ≡ true) × (r.name ≡ name)) ⊎ ((same_text r.name name ≡ false) × (r.name ≢ name))
        → (same_text r.name name || is_among (row_names rs) name) ≡ false
        → (is_among (row_names rs) name ≡ false → find test rs ≡ None) → cond b (Some r) (find test rs) ≡ None
    by true t (inl p) lacks rest = absurd (false≢true (sym (rw p.0 at lacks)))
    by true t (inr p) lacks rest = absurd (p.1 (each.0 (sym t)))
    by false t (inl p) lacks rest = absurd (false≢true (sym (rw p.0 at lacks)))
    by false t (inr p) lacks rest = rest (rw p.0 at lacks)

-- so the first row that passes is the one of that name, if it passes
pub find_named : (test : SecretRow → Bool) (name : List ℕ) (rows : List SecretRow) → once (row_names rows) ≡ true
    → EachPasses test name rows → find test rows ≡ passing test (row_named rows name)
find_named test name [] h each = refl
find_named test name (r ∷ rs) h each =
    let parts = and_parts (not (is_among (row_names rs) r.name)) (once (row_names rs)) h in
    by (test r) refl (same_text_tells r.name name) (lacks_all (row_names rs) r.name parts.0)
    (find_named test name rs parts.1 each.1)
  where
    by : (b : Bool) → b ≡ test r
        → ((same_text r.name name ≡ true) × (r.name ≡ name)) ⊎ ((same_text r.name name ≡ false) × (r.name ≢ name))
        → is_among (row_names rs) r.name ≡ false → find test rs ≡ passing test (row_named rs name)
        → cond b (Some r) (find test rs) ≡ passing test (cond (same_text r.name name) (Some r) (row_named rs name))
    by true t (inl p) lacks rest = rw p.0 (rw (← t) refl)
    by true t (inr p) lacks rest = absurd (p.1 (each.0 (sym t)))
    by false t (inl p) lacks rest =
        let gone : is_among (row_names rs) name ≡ false = ap (λ n. is_among (row_names rs) n) (sym p.1) ∙ lacks in
        rw p.0 (rw (← t) (find_none test name rs each.1 gone))
    by false t (inr p) lacks rest = rw p.0 rest
