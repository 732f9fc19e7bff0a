-- The spellings of names, tokens, labels and ARNs, as tests on a text's bytes.
-- AWS Secrets Manager API Reference: CreateSecret (Name, ClientRequestToken), UpdateSecretVersionStage (VersionStage);
-- IAM User Guide: "Amazon Resource Names (ARNs)".
use Rattle.std.specs.Prelude.{◌≡◌, ℕ, Bool, IsTrue, ◌++◌, ◌||◌, ◌&&◌, ◌==◌, nat_le, nat_eq, List, length, drop, codes, if◌then◌else◌}
use Rattle.std.specs.List.{list_any, list_all, starts_with, before_first, after_first}
use Rattle.std.specs.Char.{is_ascii_alphanumeric, is_ascii_digit, is_ascii_lowercase}
use Rattle.std.specs.Str.{is_utf8, chars}

-- a byte of a name: an ASCII letter, a digit, or one of /_+=.@-
unfoldable pub is_name_byte : ℕ → Bool
is_name_byte b = is_ascii_alphanumeric b || list_any (λ c. c == b) (codes "/_+=.@-")

-- a byte of a token: from ! to ~
unfoldable pub is_token_byte : ℕ → Bool
is_token_byte b = nat_le 33 b && nat_le b 126

-- a byte of a region: a lower-case letter, a digit or -
unfoldable pub is_region_byte : ℕ → Bool
is_region_byte b = is_ascii_lowercase b || is_ascii_digit b || b == 45

-- at least low and at most high bytes, each of which passes the test
abbrev pub is_run : (ℕ → Bool) → ℕ → ℕ → List ℕ → Bool
is_run test low high text = nat_le low (length text) && nat_le (length text) high && list_all test text

-- a name has 1 to 512 characters
unfoldable pub is_name : List ℕ → Bool
is_name text = is_run is_name_byte 1 512 text

-- a token has 32 to 64 characters
unfoldable pub is_token : List ℕ → Bool
is_token text = is_run is_token_byte 32 64 text

-- a label has 1 to 256 characters of UTF-8
unfoldable pub is_label : List ℕ → Bool
is_label text = is_utf8 text && nat_le 1 (length (chars text)) && nat_le (length (chars text)) 256

-- a colon
abbrev pub is_colon : ℕ → Bool
is_colon b = b == 58

-- what stands after the account: the word secret, and 1 to 519 characters of names
abbrev pub is_resource : List ℕ → Bool
is_resource text = starts_with nat_eq text (codes "secret:") && is_run is_name_byte 1 519 (drop 7 text)

-- what stands after the region: 12 digits, a colon and the resource
abbrev pub is_account_on : List ℕ → Bool
is_account_on text = is_run is_ascii_digit 12 12 (before_first is_colon text) && is_resource (after_first is_colon text)

-- what stands after the service: a region of 1 to 32 characters, a colon, the account and the resource
abbrev pub is_region_on : List ℕ → Bool
is_region_on text = is_run is_region_byte 1 32 (before_first is_colon text) && is_account_on (after_first is_colon text)

-- an ARN of a secret: arn:aws:secretsmanager:<region>:<account>:secret:<rest>
unfoldable pub is_arn : List ℕ → Bool
is_arn text = starts_with nat_eq text (codes "arn:aws:secretsmanager:") && is_region_on (drop 23 text)

-- a text that begins with arn: is to be an ARN
abbrev pub is_arn_like : List ℕ → Bool
is_arn_like text = starts_with nat_eq text (codes "arn:")

-- the SecretId of a request: an ARN where it begins with arn:, and else a name
unfoldable pub is_secret_id : List ℕ → Bool
is_secret_id text = if is_arn_like text then is_arn text else is_name text

-- An ARN of a secret, as a sentence: arn:aws:secretsmanager:<region>:<account>:secret:<rest>. The test is_arn answers
-- it.
pub record IsArnOf (text region account rest : List ℕ) : Type 0 where
  pub whole : text ≡ codes "arn:aws:secretsmanager:"
      ++ (region ++ (codes ":" ++ (account ++ (codes ":secret:" ++ rest))))
  pub region_spelled : IsTrue (is_run is_region_byte 1 32 region)
  pub account_spelled : IsTrue (is_run is_ascii_digit 12 12 account)
  pub rest_spelled : IsTrue (is_run is_name_byte 1 519 rest)
