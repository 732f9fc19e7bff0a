-- NextTokens: the letter of what is listed, and a serial in decimal digits without leading zeros.
-- AWS Secrets Manager API Reference, ListSecrets and ListSecretVersionIds (NextToken; its spelling is our own).
use Rattle.std.specs.Prelude.{ℕ, ◌^◌, ◌&&◌, nat_eq, nat_lt, if◌then◌else◌, List, ◌∷◌, drop, decimal, Option, Some, None}
use Rattle.std.specs.Cmp.Lexicographic.{pointwise}
use Rattle.std.specs.Str.Parse.{digits_value}

-- the one spelling of a serial behind a letter
unfoldable pub spelled : ℕ → ℕ → List ℕ
spelled letter serial = letter ∷ decimal serial

-- the number that the digits behind the letter write
unfoldable pub written : List ℕ → ℕ
written token = digits_value 10 (drop 1 token)

-- a token is the spelling of a number below 2^64
unfoldable pub serial_of : ℕ → List ℕ → Option ℕ
serial_of letter token =
    if pointwise nat_eq token (spelled letter (written token)) && nat_lt (written token) (2 ^ 64)
    then Some (written token) else None
