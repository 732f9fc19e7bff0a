-- The maps of a table.
use Rattle.std.proofs.Common.{◌≡◌, ℕ, zero, suc, ◌+◌, ◌<◌, Bool, true, false, not, cond, eqb, leb, nat_eq, List, [], ◌∷◌, ◌++◌, filter, length, take, slice_get, Some, None, refl, sym, ap, subst, ◌∙◌, arith, append_assoc, add-one}
use Rattle.std.specs.Cmp.{IsEquivalence, partial_equiv_from_equiv, nat_eq_equiv, on_equiv}
use Rattle.std.specs.Cmp.Lexicographic.{pointwise, lists_per, lists_equiv}
use Rattle.std.specs.List.{IsDistinct}
use Rattle.std.specs.Map.{keys_of, values_of, lookup, remove_entry, set_value}
use Rattle.std.specs.Option.{option_map}
use Rattle.std.specs.declared.vec.Vec.{Vec}
use Rattle.std.proofs.lemmas.List.{append-nil}
use Rattle.std.proofs.lemmas.Option.{slice_get-map}
use Rattle.std.proofs.lemmas.Bool.{and_parts, eqb-true}
use Rattle.std.proofs.lemmas.Bool.Decides.{nat_tests}
use Rattle.indexmap.specs.IndexMap.{insert_entry, insert_all}
use Rattle.indexmap.proofs.MapLemmas.{absent_before, absent_from_lookup, insert_entry-absent}
use Rattle.sm_base.specs.Texts.{same_text}
use Rattle.sm_base.specs.declared.moment.Moment.{Moment}
use Rattle.sm_model.specs.declared.rows.SecretRow.{SecretRow}
use Rattle.sm_versions.specs.Serials.{rises}
use Rattle.sm_table.specs.Sweep.{is_gone, swept}
use Rattle.sm_table.specs.Changes.{row_with, replaced, dropped}
use Rattle.sm_table.specs.Kept.{row_serials, IsRising}
use Rattle.sm_table.specs.Maps.{by_serial, pairs_of, serial_of, without_name, stays}

-- ---- any map

-- entries whose keys are distinct, inserted behind others
pub inserted_all : {K X : Type 0} (eq : K → K → Bool) → IsEquivalence eq → (es fs : List (K × X))
    → IsDistinct eq (keys_of (es ++ fs)) → insert_all eq es fs ≡ es ++ fs
inserted_all eq laws es [] distinct = sym (append-nil es)
inserted_all {K} {X} eq laws es (f ∷ fs) distinct =
    let absent = absent_before laws es fs f distinct in
    let once : insert_entry eq es f.0 f.1 ≡ es ++ f ∷ [] =
    insert_entry-absent eq f.0 f.1 es (absent_from_lookup (eq f.0) es absent) in
    let joined : (es ++ f ∷ []) ++ fs ≡ es ++ f ∷ fs = append_assoc es (f ∷ []) fs in
    ap (λ gs. insert_all eq gs fs) once
    ∙ inserted_all eq laws (es ++ f ∷ []) fs (subst (λ (gs : List (K × X)). IsDistinct eq (keys_of gs)) (sym joined)
    distinct)
    ∙ joined

-- ---- rows by their serials

flip : (a b : ℕ) → eqb a b ≡ eqb b a
flip a b = grind (arith, nat_tests)

pub values_by : (rows : List SecretRow) → values_of (by_serial rows) ≡ rows
values_by [] = refl
values_by (r ∷ rs) = ap (λ qs. r ∷ qs) (values_by rs)

-- entries that are those of some rows
pub seen_list : (es : List (ℕ × SecretRow)) (rows : List SecretRow) → es ≡ by_serial rows → values_of es ≡ rows
seen_list es rows e = ap values_of e ∙ values_by rows

pub seen_by : (es : List (ℕ × SecretRow)) (rows : List SecretRow) → es ≡ by_serial rows → es ≡ by_serial (values_of es)
seen_by es rows e = e ∙ ap by_serial (sym (seen_list es rows e))

row_by : (rows : List SecretRow) (serial : ℕ) → row_with rows serial ≡ lookup (nat_eq serial) (by_serial rows)
row_by [] serial = refl
row_by (r ∷ rs) serial = rw (flip r.serial serial) (ap (cond (eqb serial r.serial) (Some r)) (row_by rs serial))

pub row_is : (es : List (ℕ × SecretRow)) (serial : ℕ) → es ≡ by_serial (values_of es)
    → row_with (values_of es) serial ≡ lookup (nat_eq serial) es
row_is es serial e = row_by (values_of es) serial ∙ ap (lookup (nat_eq serial)) (sym e)

pub added_by : (rows : List SecretRow) (row : SecretRow) → row_with rows row.serial ≡ None
    → insert_entry nat_eq (by_serial rows) row.serial row ≡ by_serial (rows ++ row ∷ [])
added_by [] row none = refl
added_by (r ∷ rs) row none = by (eqb row.serial r.serial) (rw (flip r.serial row.serial) at none) (added_by rs row)
  where
    by : (b : Bool) → cond b (Some r) (row_with rs row.serial) ≡ None
        → (row_with rs row.serial ≡ None → insert_entry nat_eq (by_serial rs) row.serial row ≡ by_serial
        (rs ++ row ∷ []))
        → cond b ((r.serial, row) ∷ by_serial rs) ((r.serial, r) ∷ insert_entry nat_eq (by_serial rs) row.serial row)
        ≡ (r.serial, r) ∷ by_serial (rs ++ row ∷ [])
    by true none rest = absurd (cc)
    by false none rest = ap (λ es. (r.serial, r) ∷ es) (rest none)

pub replaced_by : (rows : List SecretRow) (row : SecretRow)
    → set_value (nat_eq row.serial) (by_serial rows) row ≡ by_serial (replaced rows row)
replaced_by [] row = refl
replaced_by (r ∷ rs) row = rw (flip r.serial row.serial) (by (eqb row.serial r.serial) refl (replaced_by rs row))
  where
    by : (b : Bool) → b ≡ eqb row.serial r.serial
        → set_value (nat_eq row.serial) (by_serial rs) row ≡ by_serial (replaced rs row)
        → cond b ((r.serial, row) ∷ by_serial rs) ((r.serial, r) ∷ set_value (nat_eq row.serial) (by_serial rs) row)
        ≡ by_serial (cond b (row ∷ rs) (r ∷ replaced rs row))
    by true e rest = ap (λ n. (n, row) ∷ by_serial rs) (sym (eqb-true row.serial r.serial (sym e)))
    by false e rest = ap (λ es. (r.serial, r) ∷ es) rest

pub replaced_absent : (rows : List SecretRow) (row : SecretRow) → row_with rows row.serial ≡ None
    → replaced rows row ≡ rows
replaced_absent [] row none = refl
replaced_absent (r ∷ rs) row none = by (eqb r.serial row.serial) none (replaced_absent rs row)
  where
    by : (b : Bool) → cond b (Some r) (row_with rs row.serial) ≡ None
        → (row_with rs row.serial ≡ None → replaced rs row ≡ rs) → cond b (row ∷ rs) (r ∷ replaced rs row) ≡ r ∷ rs
    by true none rest = absurd (cc)
    by false none rest = ap (λ qs. r ∷ qs) (rest none)

-- no row has a serial that is below all of theirs
pub dropped_above : (rows : List SecretRow) (serial low next : ℕ) → rises low (row_serials rows) next ≡ true
    → serial < low → dropped rows serial ≡ rows
dropped_above [] serial low next h lt = refl
dropped_above (r ∷ rs) serial low next h lt =
    let parts = and_parts (leb low r.serial) (rises (r.serial + 1) (row_serials rs) next) h in
    let other : eqb r.serial serial ≡ false = grind (arith, nat_tests, parts.0) in
    let rest = dropped_above rs serial (r.serial + 1) next parts.1 (grind (arith, nat_tests, parts.0)) in
    rw other (ap (λ qs. r ∷ qs) rest)

removed_from : (rows : List SecretRow) (serial low next : ℕ) → rises low (row_serials rows) next ≡ true
    → remove_entry (nat_eq serial) (by_serial rows) ≡ by_serial (dropped rows serial)
removed_from [] serial low next h = refl
removed_from (r ∷ rs) serial low next h =
    let parts = and_parts (leb low r.serial) (rises (r.serial + 1) (row_serials rs) next) h in
    rw (flip r.serial serial)
    (by (eqb serial r.serial) refl (dropped_above rs serial (r.serial + 1) next parts.1)
    (removed_from rs serial (r.serial + 1) next parts.1))
  where
    by : (b : Bool) → b ≡ eqb serial r.serial → (serial < r.serial + 1 → dropped rs serial ≡ rs)
        → remove_entry (nat_eq serial) (by_serial rs) ≡ by_serial (dropped rs serial)
        → cond b (by_serial rs) ((r.serial, r) ∷ remove_entry (nat_eq serial) (by_serial rs))
        ≡ by_serial (cond b (dropped rs serial) (r ∷ dropped rs serial))
    by true e above rest =
        let same : serial ≡ r.serial = eqb-true serial r.serial (sym e) in
        ap by_serial (sym (above (omega (arith, same))))
    by false e above rest = ap (λ es. (r.serial, r) ∷ es) rest

pub removed_by : (rows : List SecretRow) (serial : ℕ) → IsRising rows
    → remove_entry (nat_eq serial) (by_serial rows) ≡ by_serial (dropped rows serial)
removed_by rows serial rising = removed_from rows serial 0 rising.0 rising.1

pub swept_by : (rows : List SecretRow) (moment : Moment)
    → filter (λ (e : ℕ × SecretRow). stays (Some e.1) moment) (by_serial rows) ≡ by_serial (swept rows moment)
swept_by [] moment = refl
swept_by (r ∷ rs) moment = by (is_gone r moment) (swept_by rs moment)
  where
    by : (b : Bool) → filter (λ (e : ℕ × SecretRow). stays (Some e.1) moment) (by_serial rs) ≡ by_serial
        (swept rs moment)
        → cond (not b) ((r.serial, r) ∷ filter (λ (e : ℕ × SecretRow). stays (Some e.1) moment) (by_serial rs))
        (filter (λ (e : ℕ × SecretRow). stays (Some e.1) moment) (by_serial rs))
        ≡ by_serial (cond b (swept rs moment) (r ∷ swept rs moment))
    by true rest = rest
    by false rest = ap (λ es. (r.serial, r) ∷ es) rest

-- ---- one row more, as at a step of a loop

more_suc : (rows : List SecretRow) (i : ℕ) (row : SecretRow) → slice_get rows i ≡ Some row
    → take (suc i) rows ≡ take i rows ++ row ∷ []
more_suc [] i row e = absurd (cc)
more_suc (r ∷ rs) zero row e = let same : r ≡ row = cc in ap (λ q. q ∷ []) same
more_suc (r ∷ rs) (suc i) row e = ap (λ qs. r ∷ qs) (more_suc rs i row e)

pub more : (rows : List SecretRow) (i : ℕ) (row : SecretRow) → slice_get rows i ≡ Some row
    → take (i + 1) rows ≡ take i rows ++ row ∷ []
more rows i row e = rw add-one (more_suc rows i row e)

none_suc : (rows : List SecretRow) (i : ℕ) → slice_get rows i ≡ None → take (suc i) rows ≡ take i rows
none_suc [] zero e = refl
none_suc [] (suc i) e = refl
none_suc (r ∷ rs) zero e = absurd (cc)
none_suc (r ∷ rs) (suc i) e = ap (λ qs. r ∷ qs) (none_suc rs i e)

pub more_none : (rows : List SecretRow) (i : ℕ) → slice_get rows i ≡ None → take (i + 1) rows ≡ take i rows
more_none rows i e = rw add-one (none_suc rows i e)

-- ---- what a map of rows has after each change

pub value_at : (es : List (ℕ × SecretRow)) (i : ℕ)
    → slice_get (values_of es) i ≡ option_map (λ (e : ℕ × SecretRow). e.1) (slice_get es i)
value_at es i = slice_get-map (λ (e : ℕ × SecretRow). e.1) es i

pub values_count : (es : List (ℕ × SecretRow)) → length (values_of es) ≡ length es
values_count [] = refl
values_count (e ∷ es) = ap suc (values_count es)

module _ (es fs : List (ℕ × SecretRow)) (own : es ≡ by_serial (values_of es)) where
  pub rows_added : (serial : ℕ) (row : SecretRow) → serial ≡ row.serial → row_with (values_of es) row.serial ≡ None
      → fs ≡ insert_entry nat_eq es serial row → fs ≡ by_serial (values_of es ++ row ∷ [])
  rows_added serial row same none e =
      e ∙ ap (λ n. insert_entry nat_eq es n row) same ∙ ap (λ gs. insert_entry nat_eq gs row.serial row) own
      ∙ added_by (values_of es) row none

  pub rows_replaced : (serial : ℕ) (row : SecretRow) → serial ≡ row.serial
      → fs ≡ set_value (nat_eq serial) es row → fs ≡ by_serial (replaced (values_of es) row)
  rows_replaced serial row same e =
      e ∙ ap (λ n. set_value (nat_eq n) es row) same ∙ ap (λ gs. set_value (nat_eq row.serial) gs row) own
      ∙ replaced_by (values_of es) row

  pub rows_removed : (serial : ℕ) → IsRising (values_of es) → fs ≡ remove_entry (nat_eq serial) es
      → fs ≡ by_serial (dropped (values_of es) serial)
  rows_removed serial rising e =
      e ∙ ap (remove_entry (nat_eq serial)) own ∙ removed_by (values_of es) serial rising

  pub rows_swept : (moment : Moment) → fs ≡ filter (λ (e : ℕ × SecretRow). stays (Some e.1) moment) es
      → fs ≡ by_serial (swept (values_of es) moment)
  rows_swept moment e =
      e ∙ ap (filter (λ (e : ℕ × SecretRow). stays (Some e.1) moment)) own ∙ swept_by (values_of es) moment

no_values : (es : List (ℕ × SecretRow)) → values_of es ≡ [] → es ≡ []
no_values [] e = refl
no_values (e ∷ es) f = absurd (cc)

-- all entries of another map
pub rows_taken : (es fs gs : List (ℕ × SecretRow)) → values_of es ≡ [] → IsDistinct nat_eq (keys_of fs)
    → gs ≡ insert_all nat_eq es fs → gs ≡ fs
rows_taken es fs gs none distinct e =
    e ∙ ap (λ hs. insert_all nat_eq hs fs) (no_values es none) ∙ inserted_all nat_eq nat_eq_equiv [] fs distinct

-- ---- serials by the names

flipped : (a b : List ℕ) → same_text b a ≡ pointwise nat_eq a b
unfolding same_text
flipped a b = (lists_per (partial_equiv_from_equiv nat_eq_equiv)).symm b a

module _ {Z : Type 0} where
  pub serial_is : (es : List (Vec ℕ Z × ℕ)) (name : List ℕ)
      → serial_of (pairs_of es) name ≡ lookup (λ (k : Vec ℕ Z). pointwise nat_eq name k.items) es
  serial_is [] name = refl
  serial_is (e ∷ es) name =
      rw (flipped name e.0.items) (ap (cond (pointwise nat_eq name e.0.items) (Some e.1)) (serial_is es name))

  pub name_added : (es : List (Vec ℕ Z × ℕ)) (key : Vec ℕ Z) (serial : ℕ)
      → serial_of (pairs_of es) key.items ≡ None
      → pairs_of (insert_entry (λ (x y : Vec ℕ Z). pointwise nat_eq x.items y.items) es key serial)
      ≡ pairs_of es ++ (key.items, serial) ∷ []
  name_added [] key serial none = refl
  name_added (e ∷ es) key serial none = by (same_text e.0.items key.items) refl none (name_added es key serial)
    where
      by : (b : Bool) → b ≡ same_text e.0.items key.items
          → cond b (Some e.1) (serial_of (pairs_of es) key.items) ≡ None
          → (serial_of (pairs_of es) key.items ≡ None
          → pairs_of (insert_entry (λ (x y : Vec ℕ Z). pointwise nat_eq x.items y.items) es key serial)
          ≡ pairs_of es ++ (key.items, serial) ∷ [])
          → pairs_of (insert_entry (λ (x y : Vec ℕ Z). pointwise nat_eq x.items y.items) (e ∷ es) key serial)
          ≡ (e.0.items, e.1) ∷ (pairs_of es ++ (key.items, serial) ∷ [])
      by true s n later = absurd (cc)
      by false s n later = rw (sym (flipped key.items e.0.items) ∙ sym s) (ap (λ ps. (e.0.items, e.1) ∷ ps) (later n))

  pub name_removed : (es : List (Vec ℕ Z × ℕ)) (name : List ℕ)
      → without_name (pairs_of es) name
      ≡ pairs_of (remove_entry (λ (k : Vec ℕ Z). pointwise nat_eq name k.items) es)
  name_removed [] name = refl
  name_removed (e ∷ es) name =
      rw (flipped name e.0.items) (by (pointwise nat_eq name e.0.items) (name_removed es name))
    where
      by : (b : Bool) → without_name (pairs_of es) name
          ≡ pairs_of (remove_entry (λ (k : Vec ℕ Z). pointwise nat_eq name k.items) es)
          → cond b (pairs_of es) ((e.0.items, e.1) ∷ without_name (pairs_of es) name)
          ≡ pairs_of (cond b es (e ∷ remove_entry (λ (k : Vec ℕ Z). pointwise nat_eq name k.items) es))
      by true rest = refl
      by false rest = ap (λ ps. (e.0.items, e.1) ∷ ps) rest

  pub pairs-filter : (test : ℕ → Bool) (es : List (Vec ℕ Z × ℕ))
      → pairs_of (filter (λ (e : Vec ℕ Z × ℕ). test e.1) es) ≡ filter (λ (p : List ℕ × ℕ). test p.1) (pairs_of es)
  pairs-filter test [] = refl
  pairs-filter test (e ∷ es) = by (test e.1) (pairs-filter test es)
    where
      by : (b : Bool)
          → pairs_of (filter (λ (e : Vec ℕ Z × ℕ). test e.1) es) ≡ filter (λ (p : List ℕ × ℕ). test p.1) (pairs_of es)
          → pairs_of (cond b (e ∷ filter (λ (e : Vec ℕ Z × ℕ). test e.1) es)
          (filter (λ (e : Vec ℕ Z × ℕ). test e.1) es))
          ≡ cond b ((e.0.items, e.1) ∷ filter (λ (p : List ℕ × ℕ). test p.1) (pairs_of es))
          (filter (λ (p : List ℕ × ℕ). test p.1) (pairs_of es))
      by true rest = ap (λ ps. (e.0.items, e.1) ∷ ps) rest
      by false rest = rest

  no_pairs : (es : List (Vec ℕ Z × ℕ)) → pairs_of es ≡ [] → es ≡ []
  no_pairs [] e = refl
  no_pairs (e ∷ es) f = absurd (cc)

  -- all entries of another map
  pub names_taken : (es fs gs : List (Vec ℕ Z × ℕ)) → pairs_of es ≡ []
      → IsDistinct (λ (x y : Vec ℕ Z). pointwise nat_eq x.items y.items) (keys_of fs)
      → gs ≡ insert_all (λ (x y : Vec ℕ Z). pointwise nat_eq x.items y.items) es fs → gs ≡ fs
  names_taken es fs gs none distinct e =
      e ∙ ap (λ hs. insert_all (λ (x y : Vec ℕ Z). pointwise nat_eq x.items y.items) hs fs) (no_pairs es none)
      ∙ inserted_all (λ (x y : Vec ℕ Z). pointwise nat_eq x.items y.items)
      (on_equiv (λ (x : Vec ℕ Z). x.items) (lists_equiv nat_eq_equiv)) [] fs distinct

  pub pairs-length : (es : List (Vec ℕ Z × ℕ)) → length (pairs_of es) ≡ length es
  pairs-length [] = refl
  pairs-length (e ∷ es) = ap suc (pairs-length es)
