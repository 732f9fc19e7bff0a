-- Keys and their blocks.
use Rattle.std.proofs.Common.{◌≡◌, ℕ, ◌+◌, ◌<◌, ◌≤◌, ◌-◌, List, [], ◌∷◌, ◌++◌, length, take, drop, get_or, replicate, bit_xor, refl, ap, sym, ◌∙◌, zero-add, arith}
use Rattle.std.proofs.lemmas.List.{drop_at, take_at, take_more, take_more_set, map-append, drop-replicate, length-append, drop-drop}
use Rattle.std.proofs.Math.ListN.{set}
use Rattle.sm_sigv4.specs.Hmac.{padded, masked}

-- a piece at the front of zeros
abbrev one_placed : List ℕ → List ℕ
one_placed front = take 0 (replicate 64 0) ++ front ++ drop (0 + length front) (replicate 64 0)

one_is_placed : (front : List ℕ) → one_placed front ≡ front ++ replicate (64 - length front) 0
one_is_placed front =
    ap (λ (zeros : List ℕ). front ++ zeros)
    (ap (λ n. drop n (replicate 64 0)) (zero-add (length front)) ∙ drop-replicate (length front) 64 0)

left_over : (front back : List ℕ) → 64 - length front - length back ≡ 64 - length (front ++ back)
left_over front back = omega (arith, length-append front back)

-- and another behind it
pub both_placed : (front back : List ℕ) → length front + length back ≤ 64 →
    take (length front) (one_placed front) ++ back ++ drop (length front + length back) (one_placed front)
    ≡ padded (front ++ back)
both_placed front back h =
    ap (λ (block : List ℕ). take (length front) block ++ back ++ drop (length front + length back) block)
    (one_is_placed front)
    ∙ ap (λ (t : List ℕ). t ++ back ++ drop (length front + length back) (front ++ replicate (64 - length front) 0))
    (take_at front (replicate (64 - length front) 0) (length front) refl)
    ∙ ap (λ (t : List ℕ). front ++ back ++ t)
    (sym (drop-drop (length back) (length front) (front ++ replicate (64 - length front) 0))
    ∙ ap (drop (length back)) (drop_at front (replicate (64 - length front) 0) (length front) refl)
    ∙ drop-replicate (length back) (64 - length front) 0
    ∙ ap (λ n. replicate n 0) (left_over front back))

-- one byte more
pub masked_more : (byte : ℕ) (block bytes : List ℕ) (i : ℕ) → i < length block → length bytes ≡ length block
    → take i bytes ≡ masked byte (take i block)
    → take (i + 1) (set bytes i (bit_xor (get_or block i 0) byte)) ≡ masked byte (take (i + 1) block)
masked_more byte block bytes i h long so_far =
    take_more_set bytes i (bit_xor (get_or block i 0) byte) (omega arith)
    ∙ ap (λ (t : List ℕ). t ++ bit_xor (get_or block i 0) byte ∷ []) so_far
    ∙ sym (ap (masked byte) (take_more block i 0 h)
    ∙ map-append (λ b. bit_xor b byte) (take i block) (get_or block i 0 ∷ []))
