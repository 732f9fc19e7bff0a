-- Filters: the texts of a row's tags.
use Rattle.std.proofs.Common.{◌≡◌, ℕ, Bool, ◌||◌, List, [], ◌∷◌, map, nat_eq, refl, ap}
use Rattle.std.specs.List.{list_any, starts_with}
use Rattle.sm_model.specs.declared.value.Tag.{Tag}

list_any_map : {A B : Type 0} (p : B → Bool) (f : A → B) (xs : List A) →
    list_any p (map f xs) ≡ list_any (λ x. p (f x)) xs
list_any_map p f [] = refl
list_any_map p f (x ∷ xs) = ap (λ (b : Bool). p (f x) || b) (list_any_map p f xs)

pub any_of_keys : (tags : List Tag) (beginning : List ℕ) →
    list_any (λ text. starts_with nat_eq text beginning) (map (λ (tag : Tag). tag.key) tags)
    ≡ list_any (λ (tag : Tag). starts_with nat_eq tag.key beginning) tags
any_of_keys tags beginning = list_any_map (λ text. starts_with nat_eq text beginning) (λ (tag : Tag). tag.key) tags

pub any_of_values : (tags : List Tag) (beginning : List ℕ) →
    list_any (λ text. starts_with nat_eq text beginning) (map (λ (tag : Tag). tag.value) tags)
    ≡ list_any (λ (tag : Tag). starts_with nat_eq tag.value beginning) tags
any_of_values tags beginning =
    list_any_map (λ text. starts_with nat_eq text beginning) (λ (tag : Tag). tag.value) tags
