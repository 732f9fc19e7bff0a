-- The fields that are signed.
-- AWS General Reference, "Create a signed AWS API request": SignedHeaders; RFC 9110, section 5.6.2 (tokens).
use Rattle.std.specs.Prelude.{ℕ, Bool, true, ◌&&◌, not, nat_le, List, [], ◌∷◌, length, codes, is_some}
use Rattle.std.specs.Char.{is_ascii_uppercase}
use Rattle.std.specs.List.{list_all, list_any, join_with_byte}
use Rattle.std.specs.Cmp.Lexicographic.{slice_cmp}
use Rattle.std.specs.Ordering.{nat_cmp, is_lt}
use Rattle.httparse.specs.Grammar.{is_token_byte}
use Rattle.sm_base.specs.Texts.{same_text}
use Rattle.sm_http.specs.Heads.{NameValue, field_of}
use Rattle.sm_sigv4.specs.Texts.{pieces}

-- a byte of a field's name, and no capital
unfoldable pub is_name_byte : ℕ → Bool
is_name_byte b = is_token_byte b && not (is_ascii_uppercase b)

-- a lower-case name that a field may have
unfoldable pub is_field_name : List ℕ → Bool
is_field_name name = nat_le 1 (length name) && list_all is_name_byte name

-- a text stands before another in byte order
unfoldable pub is_before : List ℕ → List ℕ → Bool
is_before one other = is_lt (slice_cmp nat_cmp one other)

-- a name that may be signed: the message has such a field, and the name stands behind the one that was signed before it
unfoldable pub is_next : List NameValue → List ℕ → List ℕ → Bool
is_next fields before name = is_field_name name && is_some (field_of name fields) && is_before before name

-- each may be signed, behind the one before it
abbrev pub are_next : List NameValue → List ℕ → List (List ℕ) → Bool
are_next fields before [] = true
are_next fields before (name ∷ names) = is_next fields before name && are_next fields name names

-- the name is among these
abbrev pub is_among : List (List ℕ) → List ℕ → Bool
is_among names name = list_any (λ n. same_text n name) names

-- These may be signed: each is a field's name in lower case, they ascend strictly, the three that must be are among
-- them, and the field that has the signature isn't. The empty text stands before all others.
unfoldable pub are_signable : List NameValue → List (List ℕ) → Bool
are_signable fields names =
    are_next fields [] names && is_among names (codes "host") && is_among names (codes "x-amz-date")
    && is_among names (codes "x-amz-target") && not (is_among names (codes "authorization"))

-- the names of a text, with a semicolon between two, and the text of names
abbrev pub names_of : List ℕ → List (List ℕ)
names_of text = pieces 59 text

abbrev pub names_text : List (List ℕ) → List ℕ
names_text names = join_with_byte 59 names
