use Rattle.std.proofs.Common.{◌∷◌, List, ℕ, ap, sym, ◌∙◌}
use Rattle.sm_sigv4.specs.Authorizations.{scope_of}
use Rattle.sm_sigv4.proofs.AuthorizationLemmas.{one_piece_too_many}
use Rattle.sm_sigv4.proofs.authorization.scope_at.Goals as goal

pub returns-in-Some-first_piece-4 : goal.returns-in-Some-first_piece-4
returns-in-Some-first_piece-4 c =
    let behind_service = ap (λ (t : List (List ℕ)). c.in-Some-first_piece-3.service.now ∷ t)
    c.in-Some-first_piece-4.ensures.first in
    let behind_region = ap (λ (t : List (List ℕ)). c.in-Some-first_piece-2.region.now ∷ t)
    (c.in-Some-first_piece-3.ensures.first ∙ behind_service) in
    let behind_date = ap (λ (t : List (List ℕ)). c.in-Some-first_piece.date.now ∷ t)
    (c.in-Some-first_piece-2.ensures.first ∙ behind_region) in
    let behind_key = ap (λ (t : List (List ℕ)). c.in-Some.key.now ∷ t)
    (c.in-Some-first_piece.ensures.first ∙ behind_date) in
    sym (ap scope_of (c.in-Some.ensures.first ∙ behind_key) ∙ one_piece_too_many c.in-Some.key.now
    c.in-Some-first_piece.date.now
    c.in-Some-first_piece-2.region.now c.in-Some-first_piece-3.service.now c.in-Some-first_piece-4.field-0.0.now
    c.in-Some-first_piece-4.field-0.1.now)
