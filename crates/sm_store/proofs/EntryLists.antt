-- Lists that are equal.
use Rattle.std.proofs.Common.{◌≡◌, List, [], ◌∷◌}

-- the first of two lists, and the rest
pub first_is : {A : Type 0} (x y : A) (xs ys : List A) → x ∷ xs ≡ y ∷ ys → x ≡ y
first_is x y xs ys same = cc

pub rest_is : {A : Type 0} (x y : A) (xs ys : List A) → x ∷ xs ≡ y ∷ ys → xs ≡ ys
rest_is x y xs ys same = cc

pub none_is_some : {A : Type 0} (x : A) (xs : List A) → [] ≡ x ∷ xs → ⊥
none_is_some x xs same = cc
