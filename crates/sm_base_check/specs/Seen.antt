-- Texts that were seen.
use Rattle.std.specs.Borrow.{Bor}
use Rattle.std.specs.Prelude.{ℕ, List, map}

-- the texts that are referred to
abbrev pub texts_of : List (Bor (List ℕ)) → List (List ℕ)
texts_of texts = map (λ text. text.now) texts
