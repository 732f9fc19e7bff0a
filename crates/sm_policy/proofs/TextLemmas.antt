-- Texts that are others, one after the other.
use Rattle.std.proofs.Common.{◌≡◌, ℕ, ◌&&◌, Bool, true, false, List, [], ◌∷◌, ◌++◌, length, take, drop, nat_eq, refl, ap, sym, ◌∙◌}
use Rattle.std.specs.Cmp.Lexicographic.{pointwise}
use Rattle.sm_base.specs.Texts.{same_text}

and_assoc : (a b c : Bool) → (a && (b && c)) ≡ ((a && b) && c)
and_assoc true b c = refl
and_assoc false b c = refl

-- a text is a front and more where it begins with the front, and more follows
split : (text front more : List ℕ) → pointwise nat_eq text (front ++ more)
    ≡ (pointwise nat_eq (take (length front) text) front && pointwise nat_eq (drop (length front) text) more)
split text [] more = refl
split [] (c ∷ front) more = refl
split (d ∷ text) (c ∷ front) more =
    ap (λ b. nat_eq d c && b) (split text front more)
    ∙ and_assoc (nat_eq d c) (pointwise nat_eq (take (length front) text) front)
    (pointwise nat_eq (drop (length front) text) more)

pub is_joined : (text front more rest : List ℕ) → pointwise nat_eq (take (length front) text) front ≡ true
    → rest ≡ drop (length front) text → same_text text (front ++ more) ≡ same_text rest more
unfolding same_text
is_joined text front more rest begins e =
    split text front more ∙ ap (λ b. b && pointwise nat_eq (drop (length front) text) more) begins
    ∙ ap (λ (t : List ℕ). pointwise nat_eq t more) (sym e)

pub not_joined : (text front more : List ℕ) → pointwise nat_eq (take (length front) text) front ≡ false
    → same_text text (front ++ more) ≡ false
unfolding same_text
not_joined text front more begins =
    split text front more ∙ ap (λ b. b && pointwise nat_eq (drop (length front) text) more) begins

-- a key that is a t
