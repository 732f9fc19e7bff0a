-- Signatures: when a message is signed by a secret, and what signs it.
-- AWS General Reference, "Create a signed AWS API request": the string to sign, the signing key, and the signature.
use Rattle.std.specs.Prelude.{ℕ, Bool, ◌&&◌, ◌==◌, if◌then◌else◌, List, ◌++◌, length, take, drop, codes, slice_index, Option, Some, None, option_and_then, Result, Ok, Err}
use Rattle.std.specs.Char.{is_ascii_digit}
use Rattle.std.specs.List.{list_all}
use Rattle.sha2.specs.Sha256.{sha256}
use Rattle.hex.specs.Hex.{encode_lower}
use Rattle.sm_base.specs.Texts.{same_text}
use Rattle.sm_http.specs.Messages.{Message}
use Rattle.sm_http.specs.Heads.{field_of}
use Rattle.sm_sigv4.specs.declared.part.Part.{Part}
use Rattle.sm_sigv4.specs.declared.part.Part.TheVariants as part
use Rattle.sm_sigv4.specs.declared.scope.Scope.{Scope}
use Rattle.sm_sigv4.specs.Hmac.{hmac}
use Rattle.sm_sigv4.specs.Authorizations.{Authorization, authorization_in, is_scope, scope_text, spelled}
use Rattle.sm_sigv4.specs.Names.{are_signable, names_of, names_text}
use Rattle.sm_sigv4.specs.Canonical.{line_end, canonical}

-- a moment of this day: 8 digits, T, 6 digits, Z
unfoldable pub is_moment : List ℕ → List ℕ → Bool
is_moment date text =
    length text == 16 && list_all is_ascii_digit (take 8 text) && slice_index text 8 == 84
    && list_all is_ascii_digit (take 6 (drop 9 text)) && slice_index text 15 == 90 && same_text (take 8 text) date

-- the key that signs for a day, a region and a service
unfoldable pub signing_key : List ℕ → Scope → List ℕ
signing_key secret scope =
    hmac (hmac (hmac (hmac (codes "AWS4" ++ secret) scope.date) scope.region) scope.service) (codes "aws4_request")

-- the text that is signed
abbrev pub text_to_sign : Scope → List ℕ → List ℕ → List ℕ
text_to_sign scope moment text =
    codes "AWS4-HMAC-SHA256" ++ line_end ++ moment ++ line_end ++ scope_text scope ++ line_end
    ++ encode_lower (sha256 text)

-- the digits of the signature of a message at a moment, where these names are signed
unfoldable pub signature : List ℕ → Scope → List ℕ → Message → List ℕ → List ℕ
signature secret scope moment message names =
    encode_lower (hmac (signing_key secret scope) (text_to_sign scope moment (canonical message names)))

-- the tests of a message's signature, in their order: what the Authorization field says, the names, the date, the
-- digits
abbrev pub by_moment : List ℕ → Message → Authorization → Option (List ℕ) → Option Part
by_moment secret message a None = Some part.Date
by_moment secret message a (Some moment) =
    if is_moment a.scope.date moment
    then (if same_text a.digits (signature secret a.scope moment message a.names) then None else Some part.Signature)
    else Some part.Date

abbrev pub by_authorization : List ℕ → Message → Option Authorization → Option Part
by_authorization secret message None = Some part.Authorization
by_authorization secret message (Some a) =
    if are_signable message.fields (names_of a.names)
    then by_moment secret message a (field_of (codes "x-amz-date") message.fields) else Some part.SignedHeaders

-- the first part of a message's signature that fails, or none where the secret signed it
abbrev pub signed : List ℕ → Message → Option Part
signed secret message =
    by_authorization secret message (option_and_then authorization_in
    (field_of (codes "authorization") message.fields))

-- the Authorization field of a message that a secret signs
abbrev pub field_with : List ℕ → Message → Scope → List ℕ → List ℕ → List ℕ
field_with secret message scope names moment =
    spelled (record { scope = scope; names = names; digits = signature secret scope moment message names })

abbrev pub sign_at : List ℕ → Message → Scope → List (List ℕ) → Option (List ℕ) → Result (List ℕ) Part
sign_at secret message scope names None = Err part.Date
sign_at secret message scope names (Some moment) =
    if is_moment scope.date moment then Ok (field_with secret message scope (names_text names) moment)
    else Err part.Date

-- the Authorization field that signs a message, or the first part that can't be
abbrev pub sign : List ℕ → Message → Scope → List (List ℕ) → Result (List ℕ) Part
sign secret message scope names =
    if is_scope scope
    then (if are_signable message.fields names
    then sign_at secret message scope names (field_of (codes "x-amz-date") message.fields)
    else Err part.SignedHeaders)
    else Err part.Authorization
