-- Laws of signatures.
use Rattle.std.specs.Prelude.{◌≡◌, ℕ, ◌++◌, List, [], ◌∷◌, replicate, codes, true, false, Some}
use Rattle.sm_base.specs.Texts.{same_text}
use Rattle.sm_http.specs.Messages.{Message}
use Rattle.sm_http.specs.Heads.{values_of}
use Rattle.sm_sigv4.specs.Authorizations.{Authorization, is_scope, is_signature, scope_text, authorization_in}
use Rattle.sm_sigv4.specs.Texts.{lacks}
use Rattle.sm_sigv4.specs.Names.{is_field_name, is_among, names_of}
use Rattle.sm_sigv4.specs.Canonical.{canonical}

-- an Authorization field as a sentence, with so many spaces behind its two commas
abbrev pub spelled_with : ℕ → ℕ → Authorization → List ℕ
spelled_with first second a = codes "AWS4-HMAC-SHA256 Credential=" ++ a.scope.key ++ codes "/" ++ scope_text a.scope
    ++ codes "," ++ replicate first 32 ++ codes "SignedHeaders=" ++ a.names
    ++ codes "," ++ replicate second 32 ++ codes "Signature=" ++ a.digits

-- its parts are in their forms
pub record IsAuthorization (a : Authorization) : Type 0 where
  pub scope : is_scope a.scope ≡ true
  pub names : lacks 44 a.names ≡ true
  pub digits : is_signature a.digits ≡ true

-- what such a sentence spells is what the field says
abbrev pub ReadsSpellings : Type 0
ReadsSpellings = (first second : ℕ) (a : Authorization) → IsAuthorization a
    → authorization_in (spelled_with first second a) ≡ Some a

-- the text is such a sentence
pub record IsSpelled (text : List ℕ) (a : Authorization) : Type 0 where
  pub first : ℕ
  pub second : ℕ
  pub whole : text ≡ spelled_with first second a
  pub formed : IsAuthorization a

-- and a field that says something is one
abbrev pub ReadsNoOther : Type 0
ReadsNoOther = (text : List ℕ) (a : Authorization) → authorization_in text ≡ Some a → IsSpelled text a

-- the canonical text depends on the method, the path, the body and the fields that are signed, and on nothing else
abbrev pub ByNamesAlone : Type 0
ByNamesAlone = (one other : Message) (names : List ℕ) → one.method ≡ other.method → one.path ≡ other.path
    → one.body ≡ other.body
    → ((name : List ℕ) → is_among (names_of names) name ≡ true
    → values_of name one.fields ≡ values_of name other.fields)
    → canonical one names ≡ canonical other names

-- the message with the value as its one Authorization field, and otherwise the same: each other field has the same
-- values
pub record Carries (message : Message) (value : List ℕ) (sent : Message) : Type 0 where
  pub method : sent.method ≡ message.method
  pub path : sent.path ≡ message.path
  pub body : sent.body ≡ message.body
  pub alone : values_of (codes "authorization") sent.fields ≡ value ∷ []
  pub others : (name : List ℕ) → is_field_name name ≡ true → same_text name (codes "authorization") ≡ false
      → values_of name sent.fields ≡ values_of name message.fields
