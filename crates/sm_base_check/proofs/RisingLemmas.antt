-- Serials that rise.
use Rattle.std.proofs.Common.{◌≡◌, ℕ, zero, suc, ◌+◌, ◌<◌, ◌≤◌, leb, Bool, true, false, List, [], ◌∷◌, length, drop, slice_get, Option, Some, None, refl, sym, ap, ◌∙◌, arith, add-one}
use Rattle.std.proofs.lemmas.Bool.{and_parts}
use Rattle.std.proofs.lemmas.Bool.Decides.{nat_tests}
use Rattle.sm_model.specs.declared.rows.SecretRow.{SecretRow}
use Rattle.sm_model.specs.declared.rows.VersionRow.{VersionRow}
use Rattle.sm_table.specs.Kept.{row_serials}
use Rattle.sm_versions.specs.Serials.{rises, version_serials}
use Rattle.sm_base_check.specs.Tests.{rises_from}

-- what rises from a number on ends at it or above
above : (low : ℕ) (ns : List ℕ) (next : ℕ) → rises low ns next ≡ true → low ≤ next
above low [] next h = grind (arith, nat_tests)
above low (n ∷ ns) next h =
    let parts = and_parts (leb low n) (rises (n + 1) ns next) h in
    let rest = above (n + 1) ns next parts.1 in
    grind (arith, nat_tests, parts.0)

not_so : (b : Bool) → (b ≡ true → false ≡ true) → b ≡ false
not_so true h = sym (h refl)
not_so false h = refl

pub too_low : (low serial next : ℕ) (rest : List ℕ) → serial < low → rises low (serial ∷ rest) next ≡ false
too_low low serial next rest h = grind (arith, nat_tests)

pub too_high : (low serial next : ℕ) (rest : List ℕ) → next ≤ serial → rises low (serial ∷ rest) next ≡ false
too_high low serial next rest h =
    not_so (rises low (serial ∷ rest) next) (λ e.
    let behind = above (serial + 1) rest next (and_parts (leb low serial) (rises (serial + 1) rest next) e).1 in
    absurd (omega (arith, h, behind)))

pub stands : (low serial next : ℕ) (rest : List ℕ) → low ≤ serial
    → rises low (serial ∷ rest) next ≡ rises (serial + 1) rest next
stands low serial next rest h = grind (arith, nat_tests)

-- ---- one serial more

rest_suc : (ns : List ℕ) (i n : ℕ) → slice_get ns i ≡ Some n → drop i ns ≡ n ∷ drop (suc i) ns
rest_suc [] i n e = absurd (cc)
rest_suc (m ∷ ns) zero n e = let same : m ≡ n = cc in ap (λ q. q ∷ ns) same
rest_suc (m ∷ ns) (suc i) n e = rest_suc ns i n e

pub rest_at : (ns : List ℕ) (i n : ℕ) → slice_get ns i ≡ Some n → drop i ns ≡ n ∷ drop (i + 1) ns
rest_at ns i n e = rw add-one (rest_suc ns i n e)

-- where the serials rise goes by what rises behind the one that stands there
pub goes_on : (ns : List ℕ) (at serial low next : ℕ) (behind : Option ℕ) → slice_get ns at ≡ Some serial
    → ((rest : List ℕ) → rises low (serial ∷ rest) next ≡ rises_from behind rest next)
    → rises low (drop at ns) next ≡ rises 0 ns next → rises_from behind (drop (at + 1) ns) next ≡ rises 0 ns next
goes_on ns at serial low next behind here h before =
    sym (ap (λ rest. rises low rest next) (rest_at ns at serial here) ∙ h (drop (at + 1) ns)) ∙ before

past : {A : Type 0} (xs : List A) (i : ℕ) → slice_get xs i ≡ None → length xs ≤ i
past [] i e = omega arith
past (x ∷ xs) zero e = absurd (cc)
past (x ∷ xs) (suc i) e = omega (arith, past xs i e)

-- ---- the serials of things

pub row_serial_at : (rows : List SecretRow) (i : ℕ) (x : SecretRow) → slice_get rows i ≡ Some x
    → slice_get (row_serials rows) i ≡ Some x.serial
row_serial_at [] i x e = absurd (cc)
row_serial_at (y ∷ ys) zero x e = let same : y ≡ x = cc in ap (λ (z : SecretRow). Some z.serial) same
row_serial_at (y ∷ ys) (suc i) x e = row_serial_at ys i x e

pub row_serial_count : (rows : List SecretRow) → length (row_serials rows) ≡ length rows
row_serial_count [] = refl
row_serial_count (r ∷ rs) = ap suc (row_serial_count rs)

pub row_serial_none : (rows : List SecretRow) (i : ℕ) → slice_get rows i ≡ None → i < length (row_serials rows) → ⊥
row_serial_none rows i e lt = omega (arith, lt, row_serial_count rows, past rows i e)

pub version_serial_at : (versions : List VersionRow) (i : ℕ) (x : VersionRow) → slice_get versions i ≡ Some x
    → slice_get (version_serials versions) i ≡ Some x.serial
version_serial_at [] i x e = absurd (cc)
version_serial_at (y ∷ ys) zero x e = let same : y ≡ x = cc in ap (λ (z : VersionRow). Some z.serial) same
version_serial_at (y ∷ ys) (suc i) x e = version_serial_at ys i x e

pub version_serial_count : (versions : List VersionRow) → length (version_serials versions) ≡ length versions
version_serial_count [] = refl
version_serial_count (v ∷ vs) = ap suc (version_serial_count vs)

pub version_serial_none : (versions : List VersionRow) (i : ℕ) → slice_get versions i ≡ None
    → i < length (version_serials versions) → ⊥
version_serial_none versions i e lt = omega (arith, lt, version_serial_count versions, past versions i e)
