-- The values of a query: percent-encoded texts (RFC 3986, section 2.1).
use Rattle.std.specs.Prelude.{ℕ, Bool, true, false, not, ◌||◌, ◌&&◌, ◌==◌, if◌then◌else◌, List, [], ◌∷◌, Option, None, Some}
use Rattle.std.specs.Char.{is_ascii_hexdigit}
use Rattle.std.specs.Str.{is_utf8}
use Rattle.percent_encoding.specs.Percent.{percent_decode}

-- the text begins with two hexadecimal digits
abbrev pub begins_with_digits : List ℕ → Bool
begins_with_digits [] = false
begins_with_digits (high ∷ []) = false
begins_with_digits (high ∷ low ∷ rest) = is_ascii_hexdigit high && is_ascii_hexdigit low

-- behind each % stand two hexadecimal digits
abbrev pub is_encoded : List ℕ → Bool
is_encoded [] = true
is_encoded (b ∷ rest) = (not (b == 37) || begins_with_digits rest) && is_encoded rest

-- the text that bytes are, where they are UTF-8
abbrev pub utf8_text : List ℕ → Option (List ℕ)
utf8_text bytes = if is_utf8 bytes then Some bytes else None

-- the text that a value stands for, in which % and two digits are a byte and all else is itself; none where there is
-- another %, or the bytes are no text
abbrev pub decoded : List ℕ → Option (List ℕ)
decoded value = if is_encoded value then utf8_text (percent_decode value) else None
