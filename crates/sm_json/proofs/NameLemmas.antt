-- Finding an operation by its name.
use Rattle.std.proofs.Common.{◌≡◌, ℕ, ◌+◌, ◌<◌, List, ◌∷◌, length, drop, get_or, cond, true, false, Some, sym, ap, ◌∙◌}
use Rattle.std.proofs.lemmas.List.{at_drop_more}
use Rattle.std.specs.Str.{bytes_eq}
use Rattle.sm_json.specs.declared.operation.Operation.{Operation}
use Rattle.sm_json.specs.Operations.{name_of, find_named}

module _ (name : List ℕ) (operations : List Operation) (i : ℕ) (x : Operation) (h : i < length operations)
    (at : x ≡ get_or operations i x) where
  found_from : find_named name (drop i operations) ≡ cond (bytes_eq (name_of x) name) (Some x)
      (find_named name (drop (i + 1) operations))
  found_from =
      at_drop_more (find_named name) operations i x h
      ∙ ap (λ (y : Operation). find_named name (y ∷ drop (i + 1) operations)) (sym at)

  -- the operation has the name
  pub named_here : bytes_eq (name_of x) name ≡ true → find_named name (drop i operations) ≡ Some x
  named_here is = found_from ∙ ap (λ b. cond b (Some x) (find_named name (drop (i + 1) operations))) is

  -- it has another
  pub named_further : bytes_eq (name_of x) name ≡ false
      → find_named name (drop i operations) ≡ find_named name (drop (i + 1) operations)
  named_further is = found_from ∙ ap (λ b. cond b (Some x) (find_named name (drop (i + 1) operations))) is
