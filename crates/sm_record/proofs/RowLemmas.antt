-- What always has a spelling, of numbers as rows have them.
use Rattle.std.proofs.Common.{◌≡◌, ℕ, ◌^◌, ◌<◌, true, IsTrue, nat_lt, ◌&&◌, arith}
use Rattle.std.proofs.lemmas.Bool.{ltb-true, lt-ltb}
use Rattle.std.proofs.lemmas.Bool.Decides.{nat_tests}

pub long_fits : (n : ℕ) → n < 2 ^ 64 → nat_lt n (2 ^ 64) ≡ true
long_fits n lt = lt-ltb n (2 ^ 64) lt

pub days_fit : (n : ℕ) → n < 2 ^ 32 → (nat_lt n (2 ^ 32) && nat_lt n (2 ^ 64)) ≡ true
days_fit n lt = grind (arith, nat_tests)

pub octet_is_byte : (n : ℕ) → IsTrue (nat_lt n 256) → n < 256
octet_is_byte n fits = ltb-true n 256 fits
