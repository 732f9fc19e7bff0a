-- Bodies that are read one after the other.
use Rattle.std.proofs.Common.{◌≡◌, ℕ, ◌<◌, ◌≤◌, List, [], ◌∷◌, ◌++◌, length, take, drop, get_or, zero, suc, refl, ap, arith}
use Rattle.sm_journal.specs.Records.{size}

pub size_take : (n : ℕ) (bodies : List (List ℕ)) → size (take n bodies) ≤ size bodies
size_take zero bodies = omega arith
size_take (suc n) [] = omega arith
size_take (suc n) (body ∷ bodies) = omega (arith, size_take n bodies)

pub parted : (n : ℕ) (bodies : List (List ℕ)) (d : List ℕ) → n < length bodies
    → bodies ≡ take n bodies ++ get_or bodies n d ∷ drop (suc n) bodies
parted zero [] d lt = absurd (omega arith)
parted zero (body ∷ bodies) d lt = refl
parted (suc n) [] d lt = absurd (omega arith)
parted (suc n) (body ∷ bodies) d lt = ap (λ (l : List (List ℕ)). body ∷ l) (parted n bodies d (omega arith))
