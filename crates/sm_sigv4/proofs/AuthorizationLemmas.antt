-- The parts of an Authorization field.
use Rattle.std.proofs.Common.{◌≡◌, ℕ, List, ◌∷◌, ◌++◌, None, ap, append_assoc}
use Rattle.sm_sigv4.specs.Texts.{pieces}
use Rattle.sm_sigv4.specs.Authorizations.{scope_of, authorization_of}
use Rattle.sm_sigv4.proofs.TextLemmas.{has_piece}

-- a sixth piece is none of a scope
pub one_piece_too_many : (key date region service last rest : List ℕ)
    → scope_of (key ∷ date ∷ region ∷ service ∷ last ∷ pieces 47 rest) ≡ None
one_piece_too_many key date region service last rest =
    let p = has_piece 47 rest in
    ap (λ (parts : List (List ℕ)). scope_of (key ∷ date ∷ region ∷ service ∷ last ∷ parts)) p.is

-- nor a fourth part one of a field
pub one_part_too_many : (credential names signature rest : List ℕ)
    → authorization_of (credential ∷ names ∷ signature ∷ pieces 44 rest) ≡ None
one_part_too_many credential names signature rest =
    let p = has_piece 44 rest in
    ap (λ (parts : List (List ℕ)). authorization_of (credential ∷ names ∷ signature ∷ parts)) p.is

-- six pieces behind a text
pub six_behind : (text a b c d e f : List ℕ)
    → ((((((text ++ a) ++ b) ++ c) ++ d) ++ e) ++ f) ≡ text ++ (a ++ b ++ c ++ d ++ e ++ f)
six_behind text a b c d e f = simp append_assoc
