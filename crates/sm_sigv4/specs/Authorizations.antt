-- What an Authorization field says.
-- AWS General Reference, "Create a signed AWS API request": Credential, SignedHeaders and Signature; the scope of a
-- credential.
use Rattle.std.specs.Prelude.{ℕ, Bool, ◌&&◌, ◌||◌, ◌==◌, nat_le, if◌then◌else◌, List, [], ◌∷◌, ◌++◌, codes, Option, Some, None, option_and_then}
use Rattle.std.specs.Char.{is_ascii_alphanumeric, is_ascii_digit}
use Rattle.sm_base.specs.Spelling.{is_run, is_region_byte}
use Rattle.sm_base.specs.Texts.{same_text}
use Rattle.sm_base.specs.declared.limits.TheConstants.{KEY_LIMIT}
use Rattle.sm_sigv4.specs.declared.scope.Scope.{Scope}
use Rattle.sm_sigv4.specs.Texts.{behind, pieces, past_spaces}

-- an ASCII letter, a digit or _
unfoldable pub is_key_byte : ℕ → Bool
is_key_byte b = is_ascii_alphanumeric b || b == 95

-- a digit of a signature: 0 to 9 and a to f
unfoldable pub is_lower_digit : ℕ → Bool
is_lower_digit b = is_ascii_digit b || (nat_le 97 b && nat_le b 102)

-- a key has 1 to 128 of these, a date 8 digits, a region or a service 1 to 64 lower-case letters, digits or -
abbrev pub is_key : List ℕ → Bool
is_key text = is_run is_key_byte 1 KEY_LIMIT text

abbrev pub is_date : List ℕ → Bool
is_date text = is_run is_ascii_digit 8 8 text

abbrev pub is_place : List ℕ → Bool
is_place text = is_run is_region_byte 1 64 text

-- a signature has 64 digits
abbrev pub is_signature : List ℕ → Bool
is_signature text = is_run is_lower_digit 64 64 text

-- each part of a scope is in its form
unfoldable pub is_scope : Scope → Bool
is_scope scope = is_key scope.key && is_date scope.date && is_place scope.region && is_place scope.service

-- what an Authorization field says: whose key signs, and for which day, region and service; the names of the fields
-- that are signed, and the signature's digits
pub record Authorization : Type 0 where
  pub scope : Scope
  pub names : List ℕ
  pub digits : List ℕ

-- the scope of its pieces, of which the last is aws4_request
abbrev pub scope_if : Scope → List ℕ → Option Scope
scope_if scope last = if same_text last (codes "aws4_request") && is_scope scope then Some scope else None

abbrev pub scope_of : List (List ℕ) → Option Scope
scope_of (key ∷ date ∷ region ∷ service ∷ last ∷ []) =
    scope_if (record { key = key; date = date; region = region; service = service }) last
scope_of others = None

abbrev pub scope_at : List ℕ → Option Scope
scope_at text = scope_of (pieces 47 text)

-- the scope that a credential names: <key>/<date>/<region>/<service>/aws4_request
abbrev pub scope_in : List ℕ → Option Scope
scope_in text = option_and_then scope_at (behind (codes "AWS4-HMAC-SHA256 Credential=") text)

-- the names of the fields that are signed
abbrev pub names_in : List ℕ → Option (List ℕ)
names_in text = behind (codes "SignedHeaders=") (past_spaces text)

-- the digits of the signature
abbrev pub signature_if : List ℕ → Option (List ℕ)
signature_if digits = if is_signature digits then Some digits else None

abbrev pub signature_in : List ℕ → Option (List ℕ)
signature_in text = option_and_then signature_if (behind (codes "Signature=") (past_spaces text))

-- what three parts say, where each is there
abbrev pub with_digits : Scope → List ℕ → Option (List ℕ) → Option Authorization
with_digits scope names None = None
with_digits scope names (Some digits) = Some (record { scope = scope; names = names; digits = digits })

abbrev pub with_names : Scope → Option (List ℕ) → Option (List ℕ) → Option Authorization
with_names scope None digits = None
with_names scope (Some names) digits = with_digits scope names digits

abbrev pub with_scope : Option Scope → Option (List ℕ) → Option (List ℕ) → Option Authorization
with_scope None names digits = None
with_scope (Some scope) names digits = with_names scope names digits

abbrev pub authorization_of : List (List ℕ) → Option Authorization
authorization_of (credential ∷ names ∷ signature ∷ []) =
    with_scope (scope_in credential) (names_in names) (signature_in signature)
authorization_of others = None

-- what an Authorization field says: three parts, with a comma and any spaces between two
abbrev pub authorization_in : List ℕ → Option Authorization
authorization_in text = authorization_of (pieces 44 text)

-- the day, the region and the service of a scope as they stand in a text
abbrev pub scope_text : Scope → List ℕ
scope_text scope = scope.date ++ codes "/" ++ scope.region ++ codes "/" ++ scope.service ++ codes "/aws4_request"

-- an Authorization field, with one space behind each comma
abbrev pub spelled : Authorization → List ℕ
spelled a = codes "AWS4-HMAC-SHA256 Credential=" ++ a.scope.key ++ codes "/" ++ scope_text a.scope
    ++ codes ", SignedHeaders=" ++ a.names ++ codes ", Signature=" ++ a.digits
