-- The people text: a line for each person, `<key> full|guest <ARN>` and, if wanted, ` <secret>`.
-- This project's own; the ARN is that of IAM User Guide, "IAM identifiers".
use Rattle.std.specs.Prelude.{ℕ, ◌+◌, Bool, true, false, ◌&&◌, ◌||◌, ◌==◌, if◌then◌else◌, List, [], ◌∷◌, ◌++◌, codes, Option, Some, None, Result, Ok, Err}
use Rattle.std.specs.List.{list_any}
use Rattle.std.specs.Char.{is_ascii_alphanumeric}
use Rattle.sm_base.specs.PersonArn.{is_person_arn}
use Rattle.sm_base.specs.Spelling.{is_run, is_token_byte}
use Rattle.sm_base.specs.Texts.{same_text}
use Rattle.sm_base.specs.declared.limits.TheConstants.{KEY_LIMIT}
use Rattle.sm_model.specs.declared.person.Person.{Person}
use Rattle.sm_principal.specs.Persons.{Known}
use Rattle.sm_principal.specs.declared.known.TheConstants.{SECRET_LIMIT}

-- an ASCII letter, a digit or _
unfoldable pub is_key_byte : ℕ → Bool
is_key_byte b = is_ascii_alphanumeric b || b == 95

-- a key has 1 to 128 of these
unfoldable pub is_key : List ℕ → Bool
is_key text = is_run is_key_byte 1 KEY_LIMIT text

-- a secret has 1 to 128 characters from ! to ~
unfoldable pub is_secret : List ℕ → Bool
is_secret text = is_run is_token_byte 1 SECRET_LIMIT text

-- the text before the first such byte and the text behind it
abbrev pub pushed : ℕ → Option (List ℕ × List ℕ) → Option (List ℕ × List ℕ)
pushed c None = None
pushed c (Some parts) = Some (c ∷ parts.0, parts.1)

abbrev pub parted : ℕ → List ℕ → Option (List ℕ × List ℕ)
parted byte [] = None
parted byte (c ∷ text) = if c == byte then Some ([], text) else pushed c (parted byte text)

-- the lines of a text, each of which ends in a line feed, save the last, which may have none
abbrev pub onto : ℕ → List (List ℕ) → List (List ℕ)
onto c [] = (c ∷ []) ∷ []
onto c (line ∷ lines) = (c ∷ line) ∷ lines

abbrev pub lines_of : List ℕ → List (List ℕ)
lines_of [] = [] ∷ []
lines_of (c ∷ text) = if c == 10 then [] ∷ lines_of text else onto c (lines_of text)

-- a person of a key, a kind and an ARN
abbrev pub person_with : List ℕ → Bool → List ℕ → Person
person_with key full arn = record { key = key; arn = arn; full = full }

-- full or guest
unfoldable pub kind_of : List ℕ → Option Bool
kind_of text = if same_text text (codes "full") then Some true
    else if same_text text (codes "guest") then Some false else None

-- with a secret, or without one
abbrev pub known_with : List ℕ → Bool → List ℕ → Option (List ℕ) → Known
known_with key full arn secret = record { person = person_with key full arn; secret = secret }

-- a secret is in its form, where there is one
abbrev pub fits : Option (List ℕ) → Bool
fits None = true
fits (Some secret) = is_secret secret

abbrev pub known_if : List ℕ → Option Bool → List ℕ → Option (List ℕ) → Option Known
known_if key None arn secret = None
known_if key (Some full) arn secret =
    if is_key key && is_person_arn arn && fits secret then Some (known_with key full arn secret) else None

-- the secret stands behind a space, where there is one
abbrev pub with_arn : List ℕ → Option Bool → List ℕ → Option (List ℕ × List ℕ) → Option Known
with_arn key kind rest None = known_if key kind rest None
with_arn key kind rest (Some parts) = known_if key kind parts.0 (Some parts.1)

abbrev pub with_kind : List ℕ → Option (List ℕ × List ℕ) → Option Known
with_kind key None = None
with_kind key (Some parts) = with_arn key (kind_of parts.0) parts.1 (parted 32 parts.1)

abbrev pub with_key : Option (List ℕ × List ℕ) → Option Known
with_key None = None
with_key (Some parts) = with_kind parts.0 (parted 32 parts.1)

-- the person of a line: a key, a space, full or guest, a space, an ARN and, if wanted, a space and a secret
abbrev pub known_of : List ℕ → Option Known
known_of line = with_key (parted 32 line)

-- an empty line, or a comment
abbrev pub is_skipped : List ℕ → Bool
is_skipped [] = true
is_skipped (c ∷ line) = c == 35

-- some person has the key
abbrev pub has_key : List ℕ → Known → Bool
has_key key known = same_text known.person.key key

-- the persons known with a line more, or the line's number, where it is bad
abbrev pub added : ℕ → List Known → Option Known → Result (List Known) ℕ
added number known None = Err number
added number known (Some one) =
    if list_any (has_key one.person.key) known then Err number else Ok (known ++ one ∷ [])

abbrev pub with_line : ℕ → List Known → List ℕ → Result (List Known) ℕ
with_line number known line = if is_skipped line then Ok known else added number known (known_of line)

-- the persons of lines, of which the first has this number
abbrev pub persons_from : ℕ → Result (List Known) ℕ → List (List ℕ) → Result (List Known) ℕ
persons_from number (Err bad) lines = Err bad
persons_from number (Ok known) [] = Ok known
persons_from number (Ok known) (line ∷ lines) = persons_from (number + 1) (with_line number known line) lines

-- the persons of a text, or its first bad line
abbrev pub persons_of : List ℕ → Result (List Known) ℕ
persons_of text = persons_from 1 (Ok []) (lines_of text)
