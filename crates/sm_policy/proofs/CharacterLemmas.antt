-- The first character of a text.
use Rattle.std.proofs.Common.{◌≡◌, ℕ, zero, ◌-◌, ◌<◌, ◌≤◌, List, [], ◌∷◌, length, Option, Some, None, MatchOption, refl, ap, sym, ◌∙◌, arith}
use Rattle.std.specs.Str.{chars, chars_after, continuation_len, lead_bits}
use Rattle.std.proofs.lemmas.Str.{chars-nil}
use Rattle.std.proofs.lemmas.Bool.Decides.{nat_tests}
use Rattle.sm_policy.specs.Characters.{Continues, Begins}

-- each case of an option leads to another fact
pub each_case : {A : Type 0} (o : Option A) (P Q : Type 0) (R S : A → Type 0) → (P → Q) → ((x : A) → R x → S x)
    → MatchOption o P R → MatchOption o Q S
each_case None P Q R S f g h = f h
each_case (Some x) P Q R S f g h = g x h

pub no_character : (bytes : List ℕ) → bytes ≡ [] → chars bytes ≡ []
no_character bytes e = ap chars e ∙ chars-nil

-- behind the last byte of a character
after_last : (c : ℕ) (text : List ℕ) → chars_after zero c text ≡ c ∷ chars text
unfolding chars
after_last c [] = refl
after_last c (b ∷ text) = refl

len_one : (b : ℕ) → b < 128 → continuation_len b ≡ 0
len_one b h = grind (arith, nat_tests)

len_two : (b : ℕ) → 128 ≤ b → b < 224 → continuation_len b ≡ 1
len_two b h k = grind (arith, nat_tests)

len_three : (b : ℕ) → 224 ≤ b → b < 240 → continuation_len b ≡ 2
len_three b h k = grind (arith, nat_tests)

len_four : (b : ℕ) → 240 ≤ b → continuation_len b ≡ 3
len_four b h = grind (arith, nat_tests)

bits_one : (b : ℕ) → b < 128 → lead_bits b ≡ b
bits_one b h = grind (arith, nat_tests)

bits_two : (b : ℕ) → 128 ≤ b → b < 224 → lead_bits b ≡ b - 192
bits_two b h k = grind (arith, nat_tests)

bits_three : (b : ℕ) → 224 ≤ b → b < 240 → lead_bits b ≡ b - 224
bits_three b h k = grind (arith, nat_tests)

bits_four : (b : ℕ) → 240 ≤ b → lead_bits b ≡ b - 240
bits_four b h = grind (arith, nat_tests)

of_byte : (b : ℕ) (text : List ℕ) → chars (b ∷ text) ≡ chars_after (continuation_len b) (lead_bits b) text
unfolding chars
of_byte b text = refl

-- a byte that begins a character of so many more bytes
lead : (bytes : List ℕ) (b : ℕ) (text : List ℕ) (n bits : ℕ) → bytes ≡ b ∷ text → continuation_len b ≡ n
    → lead_bits b ≡ bits → chars bytes ≡ chars_after n bits text
lead bytes b text n bits is len has = ap chars is ∙ of_byte b text ∙ ap (λ m. chars_after m (lead_bits b) text) len
    ∙ ap (λ m. chars_after n m text) has

pub one_byte : (bytes : List ℕ) (b : ℕ) (text : List ℕ) (c : ℕ) → bytes ≡ b ∷ text → b < 128 → c ≡ b
    → Begins bytes c text
one_byte bytes b text c is h e = record {
  front = lead bytes b text 0 c is (len_one b h) (bits_one b h ∙ sym e) ∙ after_last c text;
  high = omega arith;
  shorter = omega (arith, ap length is);
}

-- characters of two bytes
module _ (bytes : List ℕ) (b : ℕ) (text : List ℕ) (bits : ℕ) (is : bytes ≡ b ∷ text) (low : 128 ≤ b) (high : b < 224)
    (has : bits ≡ b - 192) where
  pub two_cut : text ≡ [] → chars bytes ≡ []
  two_cut e = lead bytes b text 1 bits is (len_two b low high) (bits_two b low high ∙ sym has)
      ∙ ap (λ (t : List ℕ). chars_after 1 bits t) e

  pub two_bytes : (c : ℕ) (rest : List ℕ) → Continues bits text c rest → Begins bytes c rest
  two_bytes c rest on = record {
    front = lead bytes b text 1 bits is (len_two b low high) (bits_two b low high ∙ sym has) ∙ on.on 0
        ∙ after_last c rest;
    high = omega (arith, on.high);
    shorter = omega (arith, on.shorter, ap length is);
  }

-- of three
module _ (bytes : List ℕ) (b : ℕ) (text : List ℕ) (bits : ℕ) (is : bytes ≡ b ∷ text) (low : 224 ≤ b) (high : b < 240)
    (has : bits ≡ b - 224) where
  pub three_cut : text ≡ [] → chars bytes ≡ []
  three_cut e = lead bytes b text 2 bits is (len_three b low high) (bits_three b low high ∙ sym has)
      ∙ ap (λ (t : List ℕ). chars_after 2 bits t) e

  pub three_cut_later : (m : ℕ) (mid : List ℕ) → Continues bits text m mid → mid ≡ [] → chars bytes ≡ []
  three_cut_later m mid on e = lead bytes b text 2 bits is (len_three b low high) (bits_three b low high ∙ sym has)
      ∙ on.on 1 ∙ ap (λ (t : List ℕ). chars_after 1 m t) e

  pub three_bytes : (m : ℕ) (mid : List ℕ) (c : ℕ) (rest : List ℕ) → Continues bits text m mid
      → Continues m mid c rest → Begins bytes c rest
  three_bytes m mid c rest on last = record {
    front = lead bytes b text 2 bits is (len_three b low high) (bits_three b low high ∙ sym has) ∙ on.on 1
        ∙ last.on 0 ∙ after_last c rest;
    high = omega (arith, on.high, last.high);
    shorter = omega (arith, on.shorter, last.shorter, ap length is);
  }

-- of four
module _ (bytes : List ℕ) (b : ℕ) (text : List ℕ) (bits : ℕ) (is : bytes ≡ b ∷ text) (low : 240 ≤ b)
    (has : bits ≡ b - 240) where
  pub four_cut : text ≡ [] → chars bytes ≡ []
  four_cut e = lead bytes b text 3 bits is (len_four b low) (bits_four b low ∙ sym has)
      ∙ ap (λ (t : List ℕ). chars_after 3 bits t) e

  pub four_cut_later : (m : ℕ) (mid : List ℕ) → Continues bits text m mid → mid ≡ [] → chars bytes ≡ []
  four_cut_later m mid on e = lead bytes b text 3 bits is (len_four b low) (bits_four b low ∙ sym has) ∙ on.on 2
      ∙ ap (λ (t : List ℕ). chars_after 2 m t) e

  pub four_cut_last : (m : ℕ) (mid : List ℕ) (n : ℕ) (more : List ℕ) → Continues bits text m mid
      → Continues m mid n more → more ≡ [] → chars bytes ≡ []
  four_cut_last m mid n more on next e = lead bytes b text 3 bits is (len_four b low) (bits_four b low ∙ sym has)
      ∙ on.on 2 ∙ next.on 1 ∙ ap (λ (t : List ℕ). chars_after 1 n t) e

  pub four_bytes : (m : ℕ) (mid : List ℕ) (n : ℕ) (more : List ℕ) (c : ℕ) (rest : List ℕ) → bits < 256
      → Continues bits text m mid → Continues m mid n more → Continues n more c rest → Begins bytes c rest
  four_bytes m mid n more c rest small on next last = record {
    front = lead bytes b text 3 bits is (len_four b low) (bits_four b low ∙ sym has) ∙ on.on 2 ∙ next.on 1
        ∙ last.on 0 ∙ after_last c rest;
    high = omega (arith, on.high, next.high, last.high);
    shorter = omega (arith, on.shorter, next.shorter, last.shorter, ap length is);
  }
