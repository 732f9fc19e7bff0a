-- What stands at a place of a list.
use Rattle.std.proofs.Common.{◌≡◌, ℕ, ◌+◌, ◌<◌, suc, List, ◌∷◌, length, get_or, drop, Some, ap, ◌∙◌, add-one}
use Rattle.std.proofs.Math.Seq.{drop-cons}
use Rattle.std.specs.List.{slice_get}
use Rattle.std.proofs.lemmas.Option.{slice_get_within, get_or_from_slice_get}

-- from a place on a list begins with what stands there
pub drop_at : {A : Type 0} (xs : List A) (i : ℕ) (x : A) → slice_get xs i ≡ Some x
    → drop i xs ≡ x ∷ drop (i + 1) xs
drop_at xs i x at =
    let within : i < length xs = slice_get_within xs i x at in
    let there : get_or xs i x ≡ x = get_or_from_slice_get xs i x x at in
    rw add-one (drop-cons xs i x within ∙ ap (λ y. y ∷ drop (suc i) xs) there)
