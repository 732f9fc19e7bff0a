-- The name in an ARN.
use Rattle.std.specs.Prelude.{ℕ, List, drop}

-- what stands in the place of the name in an ARN without its last seven characters
unfoldable pub name_in : List ℕ → List ℕ
name_in arn = drop 53 arn
