-- Tests on texts.
use Rattle.std.proofs.Common.{◌≡◌, ◌≢◌, ◌↔◌, ◌⊎◌, ℕ, ◌<◌, ltb, leb, Bool, true, false, ◌&&◌, List, length, IsTrue, Decides, refl, sym, inl, inr, arith}
use Rattle.std.specs.List.{All, list_all}
use Rattle.std.specs.Str.{IsAscii}
use Rattle.std.specs.Cmp.Lexicographic.{bytes_decides}
use Rattle.std.proofs.lemmas.Bool.{ltb-true}
use Rattle.std.proofs.lemmas.Bool.Decides.{same_from_decides, not_from_Decides}
use Rattle.std.proofs.lemmas.List.Elements.{All-weaker}
use Rattle.std.proofs.lemmas.List.Sums.{AllPass-from_list_all}
use Rattle.std.proofs.lemmas.Str.{IsUtf8-from_ascii, is_utf8-from_IsUtf8, chars-IsAscii}
use Rattle.std.proofs.lemmas.Str.Ascii.{IsAscii-from_all}
use Rattle.sm_base.specs.Spelling.{is_label}
use Rattle.sm_base.specs.Texts.{same_text}

pub same_text_decides : (a b : List ℕ) → Decides (same_text a b) (a ≡ b)
unfolding same_text
same_text_decides a b = bytes_decides a b

-- a test that says whether two texts are equal
pub same_text_from_equals : (a b : List ℕ) (r : Bool) → (IsTrue r ↔ (a ≡ b)) → r ≡ same_text a b
same_text_from_equals a b r h = same_from_decides r (same_text a b) h (same_text_decides a b)

pub same_text_itself : (a : List ℕ) → same_text a a ≡ true
same_text_itself a = (same_text_decides a a).1 refl

-- the test, with what it tells
pub same_text_tells : (a b : List ℕ) → ((same_text a b ≡ true) × (a ≡ b)) ⊎ ((same_text a b ≡ false) × (a ≢ b))
same_text_tells a b = by (same_text a b) refl
  where
    by : (r : Bool) → r ≡ same_text a b → ((same_text a b ≡ true) × (a ≡ b)) ⊎ ((same_text a b ≡ false) × (a ≢ b))
    by true e = inl (sym e, (same_text_decides a b).0 (sym e))
    by false e = inr (sym e, not_from_Decides (same_text a b) (same_text_decides a b) (sym e))

-- a text of 1 to 256 ASCII characters is a label
pub ascii_label : (t : List ℕ) → list_all (λ b. ltb b 128) t ≡ true → (leb 1 (length t) && leb (length t) 256) ≡ true
    → IsTrue (is_label t)
unfolding is_label
ascii_label t ascii short =
    let each : All (λ b. b < 128) t =
    All-weaker (λ b. ltb b 128 ≡ true) (λ b. b < 128) (λ b. ltb-true b 128) t
    (AllPass-from_list_all (λ b. ltb b 128) t ascii) in
    let plain : IsAscii t = IsAscii-from_all t each in
    rw (chars-IsAscii t plain) (grind (arith, is_utf8-from_IsUtf8 t (IsUtf8-from_ascii t plain)))
