-- Bytes that count up.
use Rattle.std.proofs.Common.{◌≡◌, ℕ, zero, suc, ◌+◌, ◌%◌, [], ◌∷◌, ◌++◌, length, refl, ap, ap₂, arith}
use Rattle.std.proofs.lemmas.List.FromFn.{map-range_with_len_more, length-map-range_with_len}
use Rattle.sm_io.specs.CountWords.{count_up}

-- how many there are
pub length-count_up : (first n : ℕ) → length (count_up first n) ≡ n
length-count_up first n = length-map-range_with_len (λ k. k % 256) first n

-- one more
pub count_up-push : (first n : ℕ) → count_up first (n + 1) ≡ count_up first n ++ ((first + n % 256) % 256) ∷ []
count_up-push first n =
    let same : (first + n % 256) % 256 ≡ (first + n) % 256 = omega arith in
    rw same (map-range_with_len_more (λ i. i % 256) first n (first + n) refl)

-- from equal bytes they go on alike
pub count_up-same : (first other n : ℕ) → first % 256 ≡ other % 256 → count_up first n ≡ count_up other n
count_up-same first other zero h = refl
count_up-same first other (suc n) h = ap₂ (λ byte rest. byte ∷ rest) h
    (count_up-same (first + 1) (other + 1) n (omega arith))

-- so many, and then more from there on
pub count_up-append : (first m n : ℕ) → count_up first (m + n) ≡ count_up first m ++ count_up (first + m) n
count_up-append first zero n = let e : zero + n ≡ n = omega arith in let f : first + zero ≡ first = omega arith in
    rw (e, f)
count_up-append first (suc m) n =
    let e : suc m + n ≡ suc (m + n) = omega arith in
    let f : first + suc m ≡ first + 1 + m = omega arith in
    rw (e, f) (ap (λ rest. (first % 256) ∷ rest) (count_up-append (first + 1) m n))
