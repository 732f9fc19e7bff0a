-- What a body is as JSON.
use Rattle.std.proofs.Common.{◌≡◌, ℕ, List, Bool, true, false, cond, Option, Some, None, refl, ap, sym, ◌∙◌, subst}
use Rattle.std.specs.Str.{IsUtf8, is_utf8}
use Rattle.std.proofs.lemmas.Str.{IsUtf8-from_is_utf8, is_utf8-from_IsUtf8}
use Rattle.serde_json.specs.Data.{Data}
use Rattle.serde_json.specs.Read.{read}
use Rattle.sm_json.specs.Asks.{json_of}
use Rattle.sm_json.specs.Bodies.{IsBody}
use Rattle.sm_json.specs.declared.body.Body.{Body}

pub is_json : (bytes : List ℕ) (json : Data) → IsUtf8 bytes → read bytes ≡ Some json → json_of bytes ≡ Some json
is_json bytes json text e = rw (is_utf8-from_IsUtf8 bytes text) e

-- a choice that is nothing on both sides
neither : (test : Bool) (o : Option Data) → (test ≡ true → o ≡ None) → cond test o None ≡ None
neither true o h = h refl
neither false o h = refl

pub is_no_json : (bytes : List ℕ) → (IsUtf8 bytes → read bytes ≡ None) → json_of bytes ≡ None
is_no_json bytes h = neither (is_utf8 bytes) (read bytes) (λ t. h (IsUtf8-from_is_utf8 bytes t))

-- bytes that are UTF-8 are what their text is
pub is_as_text : (bytes text : List ℕ) (body : Body) → IsUtf8 bytes → text ≡ bytes → IsBody body (read text)
    → IsBody body (json_of bytes)
is_as_text bytes text body utf8 e is =
    subst (IsBody body)
    (ap read e ∙ sym (ap (λ t. cond t (read bytes) None) (is_utf8-from_IsUtf8 bytes utf8))) is

-- other bytes are no JSON
pub is_no_text : (bytes : List ℕ) → (IsUtf8 bytes → ⊥) → json_of bytes ≡ None
is_no_text bytes none = is_no_json bytes (λ utf8. absurd (none utf8))
