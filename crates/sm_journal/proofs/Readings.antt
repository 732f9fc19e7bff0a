-- How the reading of a file's records goes on.
use Rattle.std.proofs.Common.{◌≡◌, ℕ, ◌+◌, ◌≤◌, List, [], ◌∷◌, ◌++◌, length, take, drop, sym, ◌∙◌, ap, subst, arith, append_assoc, length-append, take-append-drop}
use Rattle.std.specs.Int.{w32, to_be_bytes}
use Rattle.sm_journal.specs.declared.format.Format.{Format}
use Rattle.sm_journal.specs.Records.{header, entry_of, record_of, front, size, AreWithin, body_limit}
use Rattle.sm_journal.proofs.Front.{front-nil, front-push, size-push, within-push}

pub begun : (f : Format) (bytes rest : List ℕ) (bodies : List (List ℕ)) → take 8 bytes ≡ header f → rest ≡ drop 8 bytes
    → bodies ≡ [] → bytes ≡ front f bodies ++ rest
unfolding front
begun f bytes rest bodies head behind none =
    sym (take-append-drop 8 bytes) ∙ ap (λ (l : List ℕ). l ++ drop 8 bytes) head
    ∙ ap (λ (l : List ℕ). header f ++ l) (sym behind) ∙ ap (λ (l : List ℕ). l ++ rest) (sym (front-nil f))
    ∙ ap (λ (l : List (List ℕ)). front f l ++ rest) (sym none)

module _ (rest behind body next : List ℕ) (bodies more : List (List ℕ)) (kept : List ℕ) (open_gate : rest ≡ 1 ∷ behind)
    (split : behind ≡ entry_of body ++ next) (pushed : more ≡ bodies ++ kept ∷ []) (same : kept ≡ body) where
  pub further : (f : Format) (bytes : List ℕ) → bytes ≡ front f bodies ++ rest → bytes ≡ front f more ++ next
  further f bytes is =
      is
      ∙ ap (λ (l : List ℕ). front f bodies ++ l) (open_gate ∙ ap (λ (l : List ℕ). 1 ∷ l) split)
      ∙ sym (append_assoc (front f bodies) (record_of body) next)
      ∙ ap (λ (l : List ℕ). l ++ next) (sym (front-push f bodies body))
      ∙ ap (λ (b : List ℕ). front f (bodies ++ b ∷ []) ++ next) (sym same)
      ∙ ap (λ (l : List (List ℕ)). front f l ++ next) (sym pushed)

  pub larger : size more ≡ size bodies + (5 + length body)
  larger = ap size pushed ∙ ap (λ (b : List ℕ). size (bodies ++ b ∷ [])) same ∙ size-push bodies body

  pub still_within : AreWithin bodies → length body ≤ body_limit → AreWithin more
  still_within all fits = subst AreWithin (sym (pushed ∙ ap (λ (b : List ℕ). bodies ++ b ∷ []) same))
      (within-push bodies body all fits)

  pub shorter : (bytes : List ℕ) → length bytes ≡ 8 + size bodies + length rest
      → length bytes ≡ 8 + size more + length next
  shorter bytes is = omega (
    arith,
    larger,
    ap length (open_gate ∙ ap (λ (l : List ℕ). 1 ∷ l) split),
    length-append
        (entry_of body) next,
    length-append (to_be_bytes w32 (length body)) body,
  )
