-- The heads of HTTP requests and their fields: RFC 9112, sections 2.1, 3, 5 and 6.2.
use Rattle.std.specs.Prelude.{◌≡◌, ℕ, ◌+◌, ◌≤◌, Bool, ◌&&◌, nat_eq, nat_le, if◌then◌else◌, List, [], ◌∷◌, length, take, drop, map, Option, Some, None, option_map, codes}
use Rattle.std.specs.List.{list_all, starts_with}
use Rattle.std.specs.Char.{is_ascii_digit}
use Rattle.std.specs.Str.{str_eq_ignore_ascii_case}
use Rattle.std.specs.Str.Parse.{digits_value}
use Rattle.httparse.specs.Grammar.{RequestHead, ReadsRequest}
use Rattle.httparse.specs.Spans.{name_and_value}

-- the greatest length of a head, how many fields it may have, and the greatest length of a body
abbrev pub head_limit : ℕ
head_limit = 16384

abbrev pub field_limit : ℕ
field_limit = 64

abbrev pub body_limit : ℕ
body_limit = 524288

-- an empty line and the end of the line before it
abbrev pub line_ends : List ℕ
line_ends = 13 ∷ 10 ∷ 13 ∷ 10 ∷ []

-- how many bytes there are up to and including the first CR LF CR LF, if it is there
abbrev pub blank_line : List ℕ → Option ℕ
blank_line [] = None
blank_line (b ∷ bytes) = if starts_with nat_eq (b ∷ bytes) line_ends then Some 4
    else option_map (λ n. n + 1) (blank_line bytes)

-- the empty line begins at none of the first k places
abbrev pub Passed : ℕ → List ℕ → Type 0
Passed k bytes = blank_line bytes ≡ option_map (λ n. n + k) (blank_line (drop k bytes))

-- how long the head at the front is, if its end is within the limit
abbrev pub head_length : List ℕ → Option ℕ
head_length bytes = blank_line (take head_limit bytes)

-- the text is one complete request head, of at most so many fields
abbrev pub IsHead : List ℕ → RequestHead → Type 0
IsHead text head = ReadsRequest text head [] × (length head.fields ≤ field_limit)

-- a field: its name, and its value without the white space around it
abbrev pub NameValue : Type 0
NameValue = List ℕ × List ℕ

-- the fields of a head
abbrev pub fields_of : RequestHead → List NameValue
fields_of head = map name_and_value head.fields

-- the values of the fields of a name, whose case does not count
abbrev pub values_of : List ℕ → List NameValue → List (List ℕ)
values_of name [] = []
values_of name (field ∷ fields) = if str_eq_ignore_ascii_case field.0 name then field.1 ∷ values_of name fields
    else values_of name fields

-- the first of some values
abbrev pub first_of : List (List ℕ) → Option (List ℕ)
first_of [] = None
first_of (value ∷ values) = Some value

-- the value of the first field of a name
abbrev pub field_of : List ℕ → List NameValue → Option (List ℕ)
field_of name fields = first_of (values_of name fields)

-- a length is spelled by 1 to 10 decimal digits
abbrev pub is_length : List ℕ → Bool
is_length text = nat_le 1 (length text) && nat_le (length text) 10 && list_all is_ascii_digit text

-- how long a body is by the values of Content-Length: 0 where there is none, and nothing where there are two or one of
-- another spelling
abbrev pub length_of : List (List ℕ) → Option ℕ
length_of [] = Some 0
length_of (value ∷ []) = if is_length value then Some (digits_value 10 value) else None
length_of (value ∷ other ∷ values) = None

abbrev pub body_length : List NameValue → Option ℕ
body_length fields = length_of (values_of (codes "content-length") fields)
