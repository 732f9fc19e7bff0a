-- The fields of a message.
use Rattle.std.proofs.Common.{◌≡◌, ℕ, ◌+◌, ◌<◌, List, ◌∷◌, length, drop, map, get_or, cond, sym, ap, ◌∙◌}
use Rattle.std.proofs.lemmas.List.{at_drop_more}
use Rattle.std.specs.Str.{str_eq_ignore_ascii_case}
use Rattle.sm_http.specs.declared.answer.Field.{Field}
use Rattle.sm_http.specs.Heads.{values_of}
use Rattle.sm_http.specs.Reading.{pair_of}

-- the values from a place on: that of the field there, where it has the name, and those behind it
pub values_at : (name : List ℕ) (fields : List Field) (i : ℕ) (x : Field) → i < length fields → x ≡ get_or fields i x →
    values_of name (map pair_of (drop i fields))
    ≡ cond (str_eq_ignore_ascii_case x.name name) (x.value ∷ values_of name (map pair_of (drop (i + 1) fields)))
    (values_of name (map pair_of (drop (i + 1) fields)))
values_at name fields i x h e =
    at_drop_more (λ (xs : List Field). values_of name (map pair_of xs)) fields i x h
    ∙ ap (λ (y : Field). values_of name (map pair_of (y ∷ drop (i + 1) fields))) (sym e)
