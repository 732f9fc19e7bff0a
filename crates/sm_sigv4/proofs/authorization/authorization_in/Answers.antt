use Rattle.std.proofs.Common.{◌∷◌, List, ℕ, ap, sym, ◌∙◌}
use Rattle.sm_sigv4.specs.Authorizations.{authorization_of}
use Rattle.sm_sigv4.proofs.AuthorizationLemmas.{one_part_too_many}
use Rattle.sm_sigv4.proofs.authorization.authorization_in.Goals as goal

pub returns-in-Some-first_piece-2 : goal.returns-in-Some-first_piece-2
returns-in-Some-first_piece-2 c =
    let behind_names = ap (λ (t : List (List ℕ)). c.in-Some-first_piece.names.now ∷ t)
    c.in-Some-first_piece-2.ensures.first in
    let behind_credential = ap (λ (t : List (List ℕ)). c.in-Some.credential.now ∷ t)
    (c.in-Some-first_piece.ensures.first ∙ behind_names) in
    sym (ap authorization_of (c.in-Some.ensures.first ∙ behind_credential) ∙ one_part_too_many c.in-Some.credential.now
    c.in-Some-first_piece.names.now c.in-Some-first_piece-2.field-0.0.now c.in-Some-first_piece-2.field-0.1.now)
