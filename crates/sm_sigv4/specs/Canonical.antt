-- The canonical text of a message.
-- AWS General Reference, "Create a signed AWS API request": the canonical request.
use Rattle.std.specs.Prelude.{ℕ, List, [], ◌∷◌, ◌++◌, codes}
use Rattle.sha2.specs.Sha256.{sha256}
use Rattle.sha2.specs.Hashers.{Holds256}
use Rattle.sha2.specs.declared.Sha256.{Sha256}
use Rattle.hex.specs.Hex.{encode_lower}
use Rattle.sm_http.specs.Messages.{Message}
use Rattle.sm_http.specs.Heads.{NameValue, values_of}
use Rattle.sm_sigv4.specs.Texts.{trimmed}
use Rattle.sm_sigv4.specs.Names.{names_of}

abbrev pub line_end : List ℕ
line_end = 10 ∷ []

-- values behind the first, each behind a comma
abbrev pub more_values : List (List ℕ) → List ℕ
more_values [] = []
more_values (value ∷ values) = codes "," ++ trimmed value ++ more_values values

-- the values of a field, with a comma between two
abbrev pub values_text : List (List ℕ) → List ℕ
values_text [] = []
values_text (value ∷ values) = trimmed value ++ more_values values

-- the line of a field: its name, a colon, its values
abbrev pub line : List NameValue → List ℕ → List ℕ
line fields name = name ++ codes ":" ++ values_text (values_of name fields) ++ line_end

abbrev pub lines : List NameValue → List (List ℕ) → List ℕ
lines fields [] = []
lines fields (name ∷ names) = line fields name ++ lines fields names

-- The canonical text: the method, the path, an empty query, the lines of the fields that are signed, an empty line,
-- their names, and the digest of the body.
unfoldable pub canonical : Message → List ℕ → List ℕ
canonical message names =
    message.method ++ line_end ++ message.path ++ (10 ∷ 10 ∷ []) ++ lines message.fields (names_of names) ++
    line_end
    ++ names ++ line_end ++ encode_lower (sha256 message.body)

-- a hasher was given this text behind all that it had
abbrev pub Feeds : Sha256 → Sha256 → List ℕ → Type 0
Feeds old new text = (before : List ℕ) → Holds256 old before → Holds256 new (before ++ text)
