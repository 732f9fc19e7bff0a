-- Texts: what stands behind their beginnings, the pieces between two bytes, and the spaces in a value.
-- AWS General Reference, "Create a signed AWS API request": the canonical request (Trim, and sequential spaces).
use Rattle.std.specs.Prelude.{ℕ, Bool, false, ◌==◌, ◌&&◌, not, nat_eq, if◌then◌else◌, List, [], ◌∷◌, length, take, drop, Option, Some, None}
use Rattle.std.specs.List.{slice_split, list_all}
use Rattle.std.specs.Cmp.Lexicographic.{pointwise}
use Rattle.httparse.specs.Grammar.{trim_ows}

-- what stands behind these bytes, where the text begins with them
unfoldable pub behind : List ℕ → List ℕ → Option (List ℕ)
behind front text = if pointwise nat_eq (take (length front) text) front then Some (drop (length front) text) else None

-- the pieces of a text between such bytes; a text without one is its one piece
abbrev pub pieces : ℕ → List ℕ → List (List ℕ)
pieces byte text = slice_split (λ b. b == byte) text

-- the byte stands nowhere in the text
abbrev pub lacks : ℕ → List ℕ → Bool
lacks byte text = list_all (λ b. not (b == byte)) text

-- the text without the spaces that it begins with
abbrev pub past_spaces : List ℕ → List ℕ
past_spaces [] = []
past_spaces (b ∷ text) = if b == 32 then past_spaces text else b ∷ text

-- the text begins with a space
abbrev pub begins_with_space : List ℕ → Bool
begins_with_space [] = false
begins_with_space (b ∷ text) = b == 32

-- a space in front of a space is left out, so that a run of spaces becomes one
abbrev pub single_spaced : List ℕ → List ℕ
single_spaced [] = []
single_spaced (b ∷ text) = if (b == 32) && begins_with_space text then single_spaced text else b ∷ single_spaced text

-- a value without the spaces and tabs around it, in which runs of spaces are one
abbrev pub trimmed : List ℕ → List ℕ
trimmed value = single_spaced (trim_ows value)
