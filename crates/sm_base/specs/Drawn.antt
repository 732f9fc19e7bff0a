-- Tokens and ARNs of random bytes.
use Rattle.std.specs.Prelude.{ℕ, ◌+◌, ◌-◌, ◌%◌, nat_lt, if◌then◌else◌, List, ◌++◌, map, codes}
use Rattle.uuid.specs.Text.{hyphenated_text, lower}
use Rattle.uuid.specs.Parts.{with_variant, with_version}
use Rattle.uuid.specs.declared.Version.TheVariants.{Random}
use Rattle.uuid.specs.declared.Variant.TheVariants.{RFC4122}

-- The version 4 UUID of 16 random bytes (RFC 9562, section 5.4), in lower-case hexadecimal digits with hyphens.
abbrev pub drawn_token : List ℕ → List ℕ
drawn_token bytes = hyphenated_text lower (with_version (with_variant bytes RFC4122) Random)

-- the character of a random byte at the end of an ARN: the byte modulo 62, into A to Z, a to z, 0 to 9
abbrev pub suffix_character : ℕ → ℕ
suffix_character byte =
    let n = byte % 62 in if nat_lt n 26 then 65 + n else (if nat_lt n 52 then 97 + (n - 26) else 48 + (n - 52))

-- The ARN of a new secret: its name, a hyphen and the characters of six random bytes.
unfoldable pub drawn_arn : List ℕ → List ℕ → List ℕ
drawn_arn name six =
    codes "arn:aws:secretsmanager:us-east-1:000000000000:secret:" ++ (name ++ (codes "-" ++ map suffix_character six))
