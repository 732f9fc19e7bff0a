-- What a text is as JSON.
use Rattle.std.proofs.Common.{◌≡◌, ℕ, List, Bool, true, false, cond, Option, Some, None, refl}
use Rattle.std.specs.Str.{IsUtf8, is_utf8}
use Rattle.std.proofs.lemmas.Str.{IsUtf8-from_is_utf8, is_utf8-from_IsUtf8}
use Rattle.serde_json.specs.Data.{Data}
use Rattle.serde_json.specs.Read.{read}
use Rattle.sm_policy_text.specs.Documents.{json_of}

pub is_json : (bytes : List ℕ) (json : Data) → IsUtf8 bytes → read bytes ≡ Some json → json_of bytes ≡ Some json
is_json bytes json text e = rw (is_utf8-from_IsUtf8 bytes text) e

-- a choice that is nothing on both sides
neither : (test : Bool) (o : Option Data) → (test ≡ true → o ≡ None) → cond test o None ≡ None
neither true o h = h refl
neither false o h = refl

pub is_no_json : (bytes : List ℕ) → (IsUtf8 bytes → read bytes ≡ None) → json_of bytes ≡ None
is_no_json bytes h = neither (is_utf8 bytes) (read bytes) (λ t. h (IsUtf8-from_is_utf8 bytes t))
