-- The claims of a history with one mark more.
use Rattle.std.proofs.Common.{ℕ, List, [], ◌∷◌, ◌++◌, sym, subst, append_assoc, append-nil}
use Rattle.sm_model.specs.declared.entry.Mark.{Mark}
use Rattle.sm_account.specs.Claims.{ClaimsReadyBehind, ClaimsReadyStep}
use Rattle.sm_account.specs.States.{Base}

pub claims_more : (base : Base) (before history : List (ℕ × Mark)) (seat : ℕ) (mark : Mark)
    → ClaimsReadyBehind base before history → ClaimsReadyStep base (before ++ history) mark
    → ClaimsReadyBehind base before (history ++ (seat, mark) ∷ [])
claims_more base before [] seat mark claims ready =
    (subst (λ h. ClaimsReadyStep base h mark) (append-nil before) ready, tt)
claims_more base before (x ∷ history) seat mark claims ready = (
  claims.0,
  claims_more base (before ++ x ∷ []) history seat mark claims.1
      (subst (λ h. ClaimsReadyStep base h mark) (sym (append_assoc before (x ∷ []) history)) ready),
)
