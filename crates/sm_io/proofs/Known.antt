-- Bytes that are told optionally, after one part and then another.
use Rattle.std.proofs.Common.{◌≡◌, ℕ, ◌+◌, List, [], ◌++◌, take, drop, None, Some, refl, sym, ap, ◌∙◌, arith, append_assoc, length}
use Rattle.std.specs.Prelude.{Option}
use Rattle.std.specs.Io.KnownBytes.{append_known, prepend_known}
use Rattle.std.proofs.Math.Seq.{take-add}
use Rattle.std.proofs.lemmas.Grind.{common_steps}
use Rattle.std.proofs.lemmas.Slice.{between_to_end}
use Rattle.std.specs.List.{between}

-- known bytes that grow by one list and then by another grow by both
pub append_known-append : (known : Option (List ℕ)) (xs ys : List ℕ)
    → append_known (append_known known xs) ys ≡ append_known known (xs ++ ys)
append_known-append None xs ys = refl
append_known-append (Some bytes) xs ys = ap Some (append_assoc bytes xs ys)

-- known bytes that lose one list and then another lose both
pub prepend_known-append : (xs ys : List ℕ) (known : Option (List ℕ))
    → prepend_known xs (prepend_known ys known) ≡ prepend_known (xs ++ ys) known
prepend_known-append xs ys None = refl
prepend_known-append xs ys (Some bytes) = ap Some (sym (append_assoc xs ys bytes))

-- a piece that was taken up to a place is taken up to n places further
pub append_known-piece : (first now then : Option (List ℕ)) (piece : List ℕ) (at n : ℕ)
    → now ≡ append_known first (take at piece) → then ≡ append_known now (take n (between at (length piece) piece))
    → then ≡ append_known first (take (at + n) piece)
append_known-piece first now then piece at n before step =
    step ∙ ap (λ part. append_known now (take n part)) (between_to_end piece at (length piece) (omega arith))
    ∙ ap (λ known. append_known known (take n (drop at piece))) before
    ∙ append_known-append first (take at piece) (take n (drop at piece))
    ∙ ap (append_known first) (sym (take-add at n piece))

-- What is left lost the front of a buffer up to a place, and then n bytes past it, while the front stayed.
pub prepend_known-piece : (first now then : Option (List ℕ)) (old new : List ℕ) (at n : ℕ)
    → first ≡ prepend_known (take at old) now → take at new ≡ take at old
    → now ≡ prepend_known (take n (drop at new)) then
    → first ≡ prepend_known (take (at + n) new) then
prepend_known-piece first now then old new at n before front step =
    before ∙ ap (λ part. prepend_known part now) (sym front) ∙ ap (prepend_known (take at new)) step
    ∙ prepend_known-append (take at new) (take n (drop at new)) then
    ∙ ap (λ part. prepend_known part then) (sym (take-add at n new))

-- no bytes more
pub append_known-nil : (known : Option (List ℕ)) → append_known known [] ≡ known
append_known-nil None = refl
append_known-nil (Some bytes) = grind (arith, common_steps)

pub prepend_known-nil : (known : Option (List ℕ)) → prepend_known [] known ≡ known
prepend_known-nil None = refl
prepend_known-nil (Some bytes) = refl

-- what follows what was told before
pub told_more : (before now after : Option (List ℕ)) (xs ys : List ℕ) → now ≡ append_known before xs
    → after ≡ append_known now ys
    → after ≡ append_known before (xs ++ ys)
told_more before now after xs ys first then =
    then ∙ ap (λ known. append_known known ys) first ∙ append_known-append before xs ys
