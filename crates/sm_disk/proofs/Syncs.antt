-- Where the last sync of a file stands.
use Rattle.std.proofs.Common.{◌≡◌, ℕ, zero, suc, ◌+◌, ◌<◌, Bool, true, false, List, [], ◌∷◌, length, get_or, take, cond, ltb, refl, ap, ◌∙◌, sym, arith}
use Rattle.std.proofs.lemmas.Bool.Decides.{nat_tests}
use Rattle.sm_disk.specs.declared.call.Call.{Call}
use Rattle.sm_disk.specs.Calls.{count_to_last}

-- where the first item's test is f, and the next one's t, behind which n items stand up to the last that passes
step : (t f : Bool) (i n : ℕ)
    → cond (ltb 0 (cond t (i + 1) n)) (cond t (i + 1) n + 1) (cond f 1 0)
    ≡ cond t (suc i + 1) (cond (ltb 0 n) (n + 1) (cond f 1 0))
step true f i n = grind (arith, nat_tests)
step false f i n = refl

pub count_to_last_more : (test : Call → Bool) (calls : List Call) (i : ℕ) (call : Call) → i < length calls
    → call ≡ get_or calls i call
    → count_to_last test (take (i + 1) calls) ≡ cond (test call) (i + 1) (count_to_last test (take i calls))
count_to_last_more test [] i call lt is = absurd (omega arith)
count_to_last_more test (first ∷ calls) zero call lt is = ap (λ (c : Call). cond (test c) 1 0) (sym is)
count_to_last_more test (first ∷ calls) (suc i) call lt is =
    let rest = count_to_last_more test calls i call (omega arith) is in
    let next : suc i + 1 ≡ suc (i + 1) = omega arith in
    ap (λ (k : ℕ). count_to_last test (take k (first ∷ calls))) next
    ∙ ap (λ (n : ℕ). cond (ltb 0 n) (n + 1) (cond (test first) 1 0)) rest
    ∙ step (test call) (test first) i (count_to_last test (take i calls))
