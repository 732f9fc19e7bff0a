-- Numerals of so many digits as they are written.
use Rattle.std.proofs.Common.{◌≡◌, ℕ, ◌-◌, ◌^◌, List, [], ◌++◌, length, replicate, false, ap, arith}
use Rattle.std.specs.Fmt.{char_count, format_spec, padded_integral}
use Rattle.std.proofs.lemmas.List.{append-nil}
use Rattle.sm_drill.specs.Messages.{in_digits}

padded : (width : ℕ) (numeral : List ℕ) (padding : ℕ) → padding ≡ width - length numeral
    → replicate padding 48 ++ (numeral ++ []) ≡ in_digits width numeral
padded width numeral padding is =
    rw is (ap (λ text. replicate (width - length numeral) 48 ++ text) (append-nil numeral))

pub in_20_digits : (numeral : List ℕ)
    → padded_integral (format_spec 32 0 4 20 (2 ^ 64 - 1)) false [] numeral ≡ in_digits 20 numeral
unfolding padded_integral char_count
in_20_digits numeral = padded 20 numeral (20 - length numeral - 0 - 0) (omega arith)

pub in_8_digits : (numeral : List ℕ)
    → padded_integral (format_spec 32 0 4 8 (2 ^ 64 - 1)) false [] numeral ≡ in_digits 8 numeral
unfolding padded_integral char_count
in_8_digits numeral = padded 8 numeral (8 - length numeral - 0 - 0) (omega arith)
