-- ARNs of persons.
use Rattle.std.proofs.Common.{◌≡◌, ℕ, ◌≤◌, ◌&&◌, Bool, true, false, List, length, nat_le, refl, arith}
use Rattle.std.specs.List.{list_all}
use Rattle.std.proofs.lemmas.Bool.Decides.{nat_tests}
use Rattle.sm_base.specs.Spelling.{is_token_byte, is_run}

both : (a b : Bool) → (a && b) ≡ true → (a ≡ true) × (b ≡ true)
both true b h = (refl, h)
both false b h = absurd (cc)

pub long_enough : (text : List ℕ) → is_run is_token_byte 27 154 text ≡ true → 26 ≤ length text
long_enough text is = least (length text)
    (both (nat_le 27 (length text)) (nat_le (length text) 154)
    (both (nat_le 27 (length text) && nat_le (length text) 154) (list_all is_token_byte text) is).0).0
  where
    least : (n : ℕ) → nat_le 27 n ≡ true → 26 ≤ n
    least n h = grind (arith, nat_tests)
