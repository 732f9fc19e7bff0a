-- What is pending of a file once it is changed.
use Rattle.std.proofs.Common.{◌≡◌, ◌≢◌, ℕ, zero, suc, ◌<◌, eqb, cond, refl, sym, ◌∙◌, ap, arith}
use Rattle.std.proofs.lemmas.Bool.{cond-false, ne_eqb}
use Rattle.sm_write_buffer.specs.Gathering.{pending_of, with_pending}
use Rattle.sm_write_buffer.specs.declared.pending.Pending.{Pending}
use Rattle.sm_write_buffer.specs.declared.waiting.Waiting.{Waiting}

-- that of the file
pub changed : (w : Waiting) (file : ℕ) (p : Pending) → file < 3 → pending_of (with_pending w file p) file ≡ p
changed w zero p lt = refl
changed w (suc zero) p lt = refl
changed w (suc (suc zero)) p lt = refl
changed w (suc (suc (suc n))) p lt = absurd (omega arith)

-- not that of another one
pub others_stay : (w : Waiting) (file : ℕ) (p : Pending) → file < 3 → (other : ℕ) → other ≢ file
    → pending_of (with_pending w file p) other ≡ pending_of w other
others_stay w zero p lt other ne =
    cond-false (eqb other 0) p _ (ne_eqb other 0 ne) ∙ sym (cond-false (eqb other 0) w.journal_0 _ (ne_eqb other 0 ne))
others_stay w (suc zero) p lt other ne =
    ap (λ (q : Pending). cond (eqb other 0) w.journal_0 q) (cond-false (eqb other 1) p _ (ne_eqb other 1 ne)
    ∙ sym (cond-false (eqb other 1) w.journal_1 _ (ne_eqb other 1 ne)))
others_stay w (suc (suc zero)) p lt other ne =
    ap (λ (q : Pending). cond (eqb other 0) w.journal_0 (cond (eqb other 1) w.journal_1 q))
    (cond-false (eqb other 2) p _ (ne_eqb other 2 ne) ∙ sym (cond-false (eqb other 2) w.root _ (ne_eqb other 2 ne)))
others_stay w (suc (suc (suc n))) p lt other ne = absurd (omega arith)

-- with what is pending of it already it is the same
pub put_same : (w : Waiting) (file : ℕ) → file < 3 → with_pending w file (pending_of w file) ≡ w
put_same w zero lt = refl
put_same w (suc zero) lt = refl
put_same w (suc (suc zero)) lt = refl
put_same w (suc (suc (suc n))) lt = absurd (omega arith)

-- what is taken out and put back is put there
pub put_back : (file : ℕ) → file < 3 → (w taken again : Waiting) (q p : Pending) → taken ≡ with_pending w file q
    → again ≡ with_pending taken file p → again ≡ with_pending w file p
put_back file lt w taken again q p rest back = back ∙ ap (λ (u : Waiting). with_pending u file p) rest
    ∙ twice w file p q lt
  where
    twice : (w : Waiting) (file : ℕ) (p q : Pending) → file < 3
        → with_pending (with_pending w file q) file p ≡ with_pending w file p
    twice w zero p q lt = refl
    twice w (suc zero) p q lt = refl
    twice w (suc (suc zero)) p q lt = refl
    twice w (suc (suc (suc n))) p q lt = absurd (omega arith)
