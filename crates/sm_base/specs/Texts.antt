-- Texts: their bytes, wherever they lie, and tests on them.
use Rattle.std.specs.Prelude.{ℕ, Bool, List, length, nat_eq, nat_le, string_bytes}
use Rattle.std.specs.Arc.{arc_str_bytes}
use Rattle.std.specs.Cmp.Lexicographic.{pointwise}
use Rattle.std.specs.Str.{chars}
use Rattle.sm_base.specs.declared.text.Kept.{Kept}
use Rattle.sm_base.specs.declared.text.Kept.TheVariants.{Fixed, Owned, Shared}

-- the bytes of a text
abbrev pub kept_bytes : Kept → List ℕ
kept_bytes (Fixed text) = text.now
kept_bytes (Owned string) = string_bytes string
kept_bytes (Shared text) = arc_str_bytes text

-- both texts have the same bytes
unfoldable pub same_text : List ℕ → List ℕ → Bool
same_text one other = pointwise nat_eq one other

-- a text of at most so many characters
abbrev pub has_at_most : ℕ → List ℕ → Bool
has_at_most limit text = nat_le (length (chars text)) limit
