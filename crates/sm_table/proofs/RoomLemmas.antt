-- Room for more rows.
use Rattle.std.proofs.Common.{◌≡◌, ℕ, zero, suc, ◌+◌, ◌*◌, ◌-◌, ◌/◌, ◌%◌, ◌<◌, ◌≤◌, cond, eqb, refl, ap, sym, ◌∙◌, arith}
use Rattle.std.proofs.lemmas.Bool.Decides.{nat_tests}
use Rattle.sm_table.specs.Indexed.{behind, room_left}

pub left_none : room_left 0 ≡ 0
unfolding room_left
left_none = refl

pub left_next : (serial : ℕ) → room_left (suc serial) ≡ cond (eqb (room_left serial) 0) (behind serial)
    (room_left serial - 1)
unfolding room_left
left_next serial = refl

-- as many as there may be behind a row that came with new room
pub left_within : (serial : ℕ) → room_left (suc serial) ≤ behind serial
left_within zero = grind (arith, nat_tests, left_next 0, left_none)
left_within (suc serial) = grind (arith, nat_tests, left_next (suc serial), left_within serial)

-- and never for more than come at once
pub left_few : (serial : ℕ) → room_left serial < 1024
left_few zero = omega (arith, left_none)
left_few (suc serial) = omega (arith, left_within serial)

-- where room is left there is room for one less behind
pub left_less : (serial room : ℕ) → 0 < room_left serial → room_left serial ≤ room → suc (room_left (suc serial)) ≤ room
left_less serial room some h = grind (arith, nat_tests, left_next serial)

pub some_left : (n : ℕ) → (n ≡ 0 → ⊥) → 0 < n
some_left zero none = absurd (none refl)
some_left (suc n) none = omega arith

-- ---- where new room comes

-- where there is room for so many more, there is for one less behind each of them
left_falls : (serial left count : ℕ) → room_left serial ≡ left → count ≤ left
    → room_left (serial + count) ≡ left - count
left_falls serial left zero is le = ap room_left (omega arith) ∙ is ∙ omega arith
left_falls serial left (suc count) is le =
    let before : room_left (serial + count) ≡ left - count = left_falls serial left count is (omega (arith, le)) in
    let next : room_left (suc (serial + count)) ≡ left - suc count =
    grind (arith, nat_tests, left_next (serial + count)) in
    ap room_left (omega arith) ∙ next

-- and then new room comes
renewed : (serial left next room : ℕ) → room_left serial ≡ left → next ≡ suc (serial + left)
    → room ≡ behind (serial + left) → room_left next ≡ room
renewed serial left next room is at fits =
    let none : room_left (serial + left) ≡ 0 = left_falls serial left left is (omega arith) ∙ omega arith in
    ap room_left at ∙ grind (arith, nat_tests, left_next (serial + left)) ∙ sym fits

left_first : room_left 1 ≡ 0
left_first = renewed 0 0 1 0 left_none refl refl

left_at_once : room_left 1024 ≡ 1023
left_at_once = renewed 512 511 1024 1023
    (renewed 256 255 512 511
    (renewed 128 127 256 255
    (renewed 64 63 128 127
    (renewed 32 31 64 63
    (renewed 16 15 32 31
    (renewed 8 7 16 15
    (renewed 4 3 8 7
    (renewed 2 1 4 3
    (renewed 1 0 2 1 left_first refl refl)
    refl refl)
    refl refl)
    refl refl)
    refl refl)
    refl refl)
    refl refl)
    refl refl)
    refl refl)
    refl refl

-- from 1,024 rows on it comes for so many at once
left_at : (times : ℕ) → room_left (1024 * suc times) ≡ 1023
left_at zero = left_at_once
left_at (suc times) = renewed (1024 * suc times) 1023 (1024 * suc (suc times)) 1023 (left_at times) (omega arith)
    (omega arith)

pub left_late : (serial : ℕ) → 1024 ≤ serial → room_left serial ≡ 1023 - serial % 1024
left_late serial late =
    let times : ℕ = serial / 1024 - 1 in
    ap room_left (omega (arith, late))
    ∙ left_falls (1024 * suc times) 1023 (serial % 1024) (left_at times) (omega arith)
