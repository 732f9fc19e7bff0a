-- Lines and their parts.
use Rattle.std.proofs.Common.{◌≡◌, ◌≢◌, ℕ, zero, suc, ◌+◌, ◌<◌, ◌≤◌, ◌==◌, ◌&&◌, cond, Bool, true, false, List, [], ◌∷◌, ◌++◌, length, take, drop, get_or, nat_le, Option, Some, None, refl, ap, sym, ◌∙◌, append_assoc, append-nil, add-one, arith}
use Rattle.std.specs.List.{list_all}
use Rattle.std.specs.Str.{is_utf8}
use Rattle.std.proofs.lemmas.Bool.Decides.{nat_tests}
use Rattle.std.proofs.lemmas.List.{drop_more}
use Rattle.std.proofs.Math.ListN.{drop_of_length-le}
use Rattle.std.proofs.lemmas.Str.{IsUtf8-from_ascii, is_utf8-from_IsUtf8}
use Rattle.sm_base.specs.PersonArn.{is_person_arn}
use Rattle.sm_base.specs.Spelling.{is_token_byte, is_run}
use Rattle.sm_base.specs.declared.limits.TheConstants.{KEY_LIMIT}
use Rattle.sm_principal.specs.Lines.{is_key_byte, is_key, pushed, parted, onto, lines_of}

-- bytes before both parts
abbrev pub with_before : List ℕ → Option (List ℕ × List ℕ) → Option (List ℕ × List ℕ)
with_before front None = None
with_before front (Some parts) = Some (front ++ parts.0, parts.1)

before_moved : (front : List ℕ) (c : ℕ) (parts : Option (List ℕ × List ℕ))
    → with_before front (pushed c parts) ≡ with_before (front ++ c ∷ []) parts
before_moved front c None = refl
before_moved front c (Some parts) = ap (λ f. Some (f, parts.1)) (sym (append_assoc front (c ∷ []) parts.0))

one_suc : (text : List ℕ) (i : ℕ) → i < length text → take i text ++ get_or text i 0 ∷ [] ≡ take (suc i) text
one_suc [] i h = absurd (omega arith)
one_suc (c ∷ text) zero h = refl
one_suc (c ∷ text) (suc i) h = ap (λ t. c ∷ t) (one_suc text i (omega arith))

one_more : (text : List ℕ) (i : ℕ) → i < length text → take i text ++ get_or text i 0 ∷ [] ≡ take (i + 1) text
one_more text i h = one_suc text i h ∙ ap (λ n. take n text) (sym (add-one i))

is_byte : (x byte : ℕ) → x ≡ byte → (x == byte) ≡ true
is_byte x byte e = grind (arith, nat_tests)

is_other : (x byte : ℕ) → x ≢ byte → (x == byte) ≡ false
is_other x byte e = grind (arith, nat_tests)

module _ (byte : ℕ) (text : List ℕ) (i : ℕ) (h : i < length text) where
  parted_from : (b : Bool) → (get_or text i 0 == byte) ≡ b → parted byte (drop i text)
      ≡ cond b (Some ([], drop (i + 1) text)) (pushed (get_or text i 0) (parted byte (drop (i + 1) text)))
  parted_from b is =
      ap (parted byte) (drop_more text i 0 h)
      ∙ ap (λ b. cond b (Some ([], drop (i + 1) text)) (pushed (get_or text i 0) (parted byte (drop (i + 1) text)))) is

  pub parted_here : (wanted : Option (List ℕ × List ℕ)) (front back : List ℕ) → get_or text i 0 ≡ byte
      → wanted ≡ with_before (take i text) (parted byte (drop i text)) → front ≡ take i text
      → back ≡ drop (i + 1) text → Some (front, back) ≡ wanted
  parted_here wanted front back is was front_is back_is =
      ap (λ f. Some (f, back)) (front_is ∙ sym (append-nil (take i text)))
      ∙ ap (λ b. Some (take i text ++ [], b)) back_is
      ∙ sym (was ∙ ap (with_before (take i text)) (parted_from true (is_byte (get_or text i 0) byte is)))

  pub parted_later : (wanted : Option (List ℕ × List ℕ)) → get_or text i 0 ≢ byte
      → wanted ≡ with_before (take i text) (parted byte (drop i text))
      → wanted ≡ with_before (take (i + 1) text) (parted byte (drop (i + 1) text))
  parted_later wanted is was =
      was ∙ ap (with_before (take i text)) (parted_from false (is_other (get_or text i 0) byte is))
      ∙ before_moved (take i text) (get_or text i 0) (parted byte (drop (i + 1) text))
      ∙ ap (λ f. with_before f (parted byte (drop (i + 1) text))) (one_more text i h)

pub parted_none : (byte : ℕ) (text : List ℕ) (i : ℕ) (wanted : Option (List ℕ × List ℕ)) → length text ≤ i
    → wanted ≡ with_before (take i text) (parted byte (drop i text)) → None ≡ wanted
parted_none byte text i wanted h was =
    sym (was ∙ ap (λ (t : List ℕ). with_before (take i text) (parted byte t)) (drop_of_length-le text h))

pub both : (a b : Bool) → (a && b) ≡ true → (a ≡ true) × (b ≡ true)
both true b h = (refl, h)
both false b h = absurd (cc)

-- ASCII
ascii_at : (test : ℕ → Bool) → ((b : ℕ) → test b ≡ true → b < 128) → (bytes : List ℕ) (place : ℕ)
    → list_all test bytes ≡ true → get_or bytes place 0 < 128
ascii_at test low [] place all = omega arith
ascii_at test low (b ∷ bytes) zero all = low b (both (test b) (list_all test bytes) all).0
ascii_at test low (b ∷ bytes) (suc place) all =
    ascii_at test low bytes place (both (test b) (list_all test bytes) all).1

ascii_is_text : (test : ℕ → Bool) → ((b : ℕ) → test b ≡ true → b < 128) → (bytes : List ℕ)
    → list_all test bytes ≡ true → is_utf8 bytes ≡ true
ascii_is_text test low bytes all =
    is_utf8-from_IsUtf8 bytes (IsUtf8-from_ascii bytes (λ i. ascii_at test low bytes i all))

key_byte_is_ascii : (b : ℕ) → is_key_byte b ≡ true → b < 128
unfolding is_key_byte
key_byte_is_ascii b is = grind (arith, nat_tests)

token_byte_is_ascii : (b : ℕ) → is_token_byte b ≡ true → b < 128
unfolding is_token_byte
token_byte_is_ascii b is = grind (arith, nat_tests)

pub key_bytes_all : (text : List ℕ) → is_key text ≡ true → list_all is_key_byte text ≡ true
unfolding is_key
key_bytes_all text is =
    (both (nat_le 1 (length text) && nat_le (length text) KEY_LIMIT) (list_all is_key_byte text) is).1

pub key_is_text : (text : List ℕ) → is_key text ≡ true → is_utf8 text ≡ true
key_is_text text is = ascii_is_text is_key_byte key_byte_is_ascii text (key_bytes_all text is)

run_is_all : (text : List ℕ) → is_run is_token_byte 27 154 text ≡ true → list_all is_token_byte text ≡ true
run_is_all text is = (both (nat_le 27 (length text) && nat_le (length text) 154) (list_all is_token_byte text) is).1

first_of_four : (a b c d : Bool) → (((a && b) && c) && d) ≡ true → a ≡ true
first_of_four true b c d h = refl
first_of_four false b c d h = h

pub arn_bytes_all : (text : List ℕ) → is_person_arn text ≡ true → list_all is_token_byte text ≡ true
unfolding is_person_arn
arn_bytes_all text is = run_is_all text (first_of_four _ _ _ _ is)

pub arn_is_text : (text : List ℕ) → is_person_arn text ≡ true → is_utf8 text ≡ true
arn_is_text text is = ascii_is_text is_token_byte token_byte_is_ascii text (arn_bytes_all text is)

-- lines
none_of : (c : ℕ) (parts : Option (List ℕ × List ℕ)) → pushed c parts ≡ None → parts ≡ None
none_of c None e = refl
none_of c (Some parts) e = absurd (cc)

alone_step : (c : ℕ) (text : List ℕ) → (parted 10 text ≡ None → lines_of text ≡ text ∷ []) → (b : Bool)
    → cond b (Some ([], text)) (pushed c (parted 10 text)) ≡ None
    → cond b ([] ∷ lines_of text) (onto c (lines_of text)) ≡ (c ∷ text) ∷ []
alone_step c text known true e = absurd (cc)
alone_step c text known false e = ap (onto c) (known (none_of c (parted 10 text) e))

-- without a line feed there is one line
pub line_alone : (text : List ℕ) → parted 10 text ≡ None → lines_of text ≡ text ∷ []
line_alone [] h = refl
line_alone (c ∷ text) h = alone_step c text (line_alone text) (c == 10) h

first_rest : (c : ℕ) (text : List ℕ)
    → ((p : List ℕ × List ℕ) → parted 10 text ≡ Some p → lines_of text ≡ p.0 ∷ lines_of p.1)
    → (o : Option (List ℕ × List ℕ)) → parted 10 text ≡ o → (p : List ℕ × List ℕ) → pushed c o ≡ Some p
    → onto c (lines_of text) ≡ p.0 ∷ lines_of p.1
first_rest c text known None is p e = absurd (cc)
first_rest c text known (Some q) is p e =
    let f : (c ∷ q.0, q.1) ≡ p = cc in
    ap (onto c) (known q is) ∙ ap (λ (r : List ℕ × List ℕ). r.0 ∷ lines_of r.1) f

first_step : (c : ℕ) (text : List ℕ)
    → ((p : List ℕ × List ℕ) → parted 10 text ≡ Some p → lines_of text ≡ p.0 ∷ lines_of p.1) → (b : Bool)
    → (p : List ℕ × List ℕ) → cond b (Some ([], text)) (pushed c (parted 10 text)) ≡ Some p
    → cond b ([] ∷ lines_of text) (onto c (lines_of text)) ≡ p.0 ∷ lines_of p.1
first_step c text known true p e =
    let f : ([], text) ≡ p = cc in ap (λ (r : List ℕ × List ℕ). r.0 ∷ lines_of r.1) f
first_step c text known false p e = first_rest c text known (parted 10 text) refl p e

-- the first line, and the others
pub line_first : (text : List ℕ) (p : List ℕ × List ℕ) → parted 10 text ≡ Some p → lines_of text ≡ p.0 ∷ lines_of p.1
line_first [] p h = absurd (cc)
line_first (c ∷ text) p h = first_step c text (line_first text) (c == 10) p h
