-- Lists that are told optionally.
use Rattle.std.specs.Prelude.{List, ◌++◌, Option, None, Some}

module _ {A : Type 0} where
  -- items that are told optionally, with these more at the end
  abbrev pub told_behind : Option (List A) → List A → Option (List A)
  told_behind None items = None
  told_behind (Some told) items = Some (told ++ items)

  -- and with these more at the beginning
  abbrev pub told_ahead : List A → Option (List A) → Option (List A)
  told_ahead items None = None
  told_ahead items (Some told) = Some (items ++ told)
