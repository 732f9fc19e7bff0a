-- Labels, byte by byte.
use Rattle.std.proofs.Common.{◌≡◌, ◌≢◌, ℕ, zero, suc, ◌+◌, ◌/◌, ◌%◌, ◌<◌, ◌≤◌, Bool, true, false, ◌&&◌, if◌then◌else◌, IsTrue, List, [], ◌∷◌, ◌++◌, length, take, nat_le, Option, Some, None, MatchOption, ◌⊎◌, inl, inr, refl, sym, ap, ◌∙◌, arith, add-zero, zero-add, length-append}
use Rattle.std.proofs.lemmas.Bool.{cases_Bool, cases_lt, and_parts, and_from, le-leb, lt-leb, leb-true, false≢true}
use Rattle.sm_base.specs.declared.characters.Awaited.{Awaited}
use Rattle.sm_base.specs.declared.characters.Awaited.TheVariants.{Character, One, Two, Three, AfterE0, AfterEd, AfterF0, AfterF4}
use Rattle.sm_base.specs.declared.characters.Progress.{Progress}
use Rattle.sm_base.specs.FirstFault.{IsFirstFault, CanBecomeSpelled}
use Rattle.std.proofs.lemmas.Str.{length-encode, len_utf8_bounds, chars-encodes, encodes-chars, scalars-chars, is_utf8-from_IsUtf8, IsUtf8-from_is_utf8}
use Rattle.std.specs.Str.{chars, is_utf8}
use Rattle.sm_base.specs.Spelling.{is_label}
use Rattle.sm_base.proofs.FaultLemmas.{first_fault_same}
use Rattle.sm_base.proofs.RunLemmas.{same_tests}
use Rattle.std.specs.Int.{is_in_range}
use lib.Utf8.{encode, encodes, scalar, scalars, scalar_cases}
use Rattle.sm_base.proofs.CharacterLemmas.{FirstByte, ascii, of_two, of_three, of_four, is_e0, is_ed, is_f0, is_f4, no_first, first_byte_of, in_range, first_ascii, first_two, first_three, first_four, encode_one, encode_two, encode_three, encode_four, one_char, two_char, three_char, four_char, two_fits, tail_fits, e0_fits, ed_fits, f0_fits, f4_fits}
use Rattle.sm_base.specs.Characters.{first_byte, next_byte, within, is_between, progress_after, is_whole, fault_on, fault_after, no_progress}

-- from so much progress, the text becomes one with so many characters
abbrev spelled_on : Option Progress → (Progress → Bool) → Bool
spelled_on None further = false
spelled_on (Some progress) further = further progress

abbrev spelled : Progress → List ℕ → Bool
spelled progress [] = is_whole progress
spelled progress (byte ∷ rest) = spelled_on (progress_after progress byte) (λ further. spelled further rest)

abbrev at : Awaited → ℕ → Progress
at awaited characters = record { awaited = awaited; characters = characters }

-- from any progress some text does
live_character : (n : ℕ) → CanBecomeSpelled (λ rest. spelled (at Character n) rest) []
live_character zero = (97 ∷ [], refl)
live_character (suc n) = ([], le-leb 1 (suc n) (omega arith))

live_one : (n : ℕ) → CanBecomeSpelled (λ rest. spelled (at One n) rest) []
live_one n = (128 ∷ (live_character n).0, (live_character n).1)

live_two : (n : ℕ) → CanBecomeSpelled (λ rest. spelled (at Two n) rest) []
live_two n = (128 ∷ (live_one n).0, (live_one n).1)

live_at : (awaited : Awaited) (n : ℕ) → CanBecomeSpelled (λ rest. spelled (at awaited n) rest) []
live_at Character n = live_character n
live_at One n = live_one n
live_at Two n = live_two n
live_at Three n = (128 ∷ (live_two n).0, (live_two n).1)
live_at AfterE0 n = (160 ∷ (live_one n).0, (live_one n).1)
live_at AfterEd n = (128 ∷ (live_one n).0, (live_one n).1)
live_at AfterF0 n = (144 ∷ (live_two n).0, (live_two n).1)
live_at AfterF4 n = (128 ∷ (live_two n).0, (live_two n).1)

abbrev FaultsAt : Progress → List ℕ → ℕ → ℕ → Type 0
FaultsAt progress text start place = (n : ℕ) × (place ≡ start + n) × IsFirstFault (λ t. spelled progress t) text n

fault_here : (progress : Progress) (text : List ℕ) → spelled progress text ≡ false
    → (0 < length text → ¬ CanBecomeSpelled (λ t. spelled progress t) (take 1 text))
    → IsFirstFault (λ t. spelled progress t) text 0
fault_here progress text unspelled stuck = record {
  unspelled = λ is. false≢true (sym unspelled ∙ is);
  within = omega arith;
  before = live_at progress.awaited progress.characters;
  from_there = stuck;
}

fault_further : (progress further : Progress) (byte : ℕ) (rest : List ℕ) (n : ℕ)
    → progress_after progress byte ≡ Some further
    → IsFirstFault (λ t. spelled further t) rest n → IsFirstFault (λ t. spelled progress t) (byte ∷ rest) (suc n)
fault_further progress further byte rest n on fault =
    let same : (t : List ℕ) → spelled progress (byte ∷ t) ≡ spelled further t = λ t. rw on refl in
    record {
      unspelled = λ is. fault.unspelled (sym (same rest) ∙ is);
      within = omega (arith, fault.within);
      before = (fault.before.0, same (take n rest ++ fault.before.0) ∙ fault.before.1);
      from_there = λ under w.
          let one_more : suc n + 1 ≡ suc (n + 1) = omega arith in
          let is : spelled progress (byte ∷ (take (n + 1) rest ++ w.0)) ≡ true = rw one_more at w.1 in
          fault.from_there (omega arith) (w.0, sym (same (take (n + 1) rest ++ w.0)) ∙ is);
    }

-- what the law says of a text
abbrev Law : Progress → ℕ → List ℕ → Type 0
Law progress start text = MatchOption (fault_after progress start text) (IsTrue (spelled progress text))
    (FaultsAt progress text start)

law_at_end : (progress : Progress) (start : ℕ) (whole : Bool) → is_whole progress ≡ whole
    → MatchOption (if whole then None else Some start) (whole ≡ true) (FaultsAt progress [] start)
law_at_end progress start true is = refl
law_at_end progress start false is = (0, sym (add-zero start), fault_here progress [] is (λ some. absurd (omega arith)))

law_further : (progress further : Progress) (start byte : ℕ) (rest : List ℕ) (fault : Option ℕ)
    → progress_after progress byte ≡ Some further
    → MatchOption fault (IsTrue (spelled further rest)) (FaultsAt further rest (start + 1))
    → MatchOption fault (IsTrue (spelled further rest)) (FaultsAt progress (byte ∷ rest) start)
law_further progress further start byte rest None is whole = whole
law_further progress further start byte rest (Some place) is faults =
    (suc faults.0, faults.1 ∙ omega arith, fault_further progress further byte rest faults.0 is faults.2)

law_on : (progress : Progress) (start byte : ℕ) (rest : List ℕ) → ((further : Progress) → Law further (start + 1) rest)
    → (on : Option Progress) → progress_after progress byte ≡ on
    → MatchOption (fault_on on start (λ further. fault_after further (start + 1) rest))
    (IsTrue (spelled_on on (λ further. spelled further rest)))
    (FaultsAt progress (byte ∷ rest) start)
law_on progress start byte rest laws None is =
    (0, sym (add-zero start), fault_here progress (byte ∷ rest) (rw is refl) (λ some w. false≢true (rw is at w.1)))
law_on progress start byte rest laws (Some further) is =
    law_further progress further start byte rest (fault_after further (start + 1) rest) is (laws further)

label_law : (progress : Progress) (start : ℕ) (text : List ℕ) → Law progress start text
label_law progress start [] = law_at_end progress start (is_whole progress) refl
label_law progress start (byte ∷ rest) =
    law_on progress start byte rest (λ further. label_law further (start + 1) rest) (progress_after progress byte) refl

-- one byte more
step_character : (n b : ℕ) (rest : List ℕ) (a : Awaited) → n < 256 → first_byte b ≡ Some a
    → spelled (at Character n) (b ∷ rest) ≡ spelled (at a (n + 1)) rest
step_character n b rest a room first = rw (lt-leb 256 n room, first) refl

step_tail : (a further : Awaited) (low high n b : ℕ) (rest : List ℕ) → is_between a ≡ false
    → next_byte a b ≡ within low high b further
    → low ≤ b → b ≤ high → spelled (at a n) (b ∷ rest) ≡ spelled (at further n) rest
step_tail a further low high n b rest pending on above below = rw (pending, on, in_range low high b above below) refl

-- the last bytes of a character: any number of 6 bits each
last_one : (p n : ℕ) (rest : List ℕ) → spelled (at One n) ((128 + p % 64) ∷ rest) ≡ spelled (at Character n) rest
last_one p n rest = step_tail One Character 128 191 n (128 + p % 64) rest refl refl (tail_fits p).0 (tail_fits p).1

last_two : (p q n : ℕ) (rest : List ℕ) → spelled (at Two n) ((128 + p % 64) ∷ (128 + q % 64) ∷ rest)
    ≡ spelled (at Character n) rest
last_two p q n rest =
    step_tail Two One 128 191 n (128 + p % 64) ((128 + q % 64) ∷ rest) refl refl (tail_fits p).0 (tail_fits p).1
    ∙ last_one q n rest

-- one character more, by how many bytes it has
two_spelled : (c n : ℕ) (rest : List ℕ) → n < 256 → 128 ≤ c → c < 2048
    → spelled (at Character n) ((192 + c / 64) ∷ (128 + c % 64) ∷ rest) ≡ spelled (at Character (n + 1)) rest
two_spelled c n rest room low high =
    let fits = two_fits c low high in
    step_character n (192 + c / 64) ((128 + c % 64) ∷ rest) One room (first_two (192 + c / 64) fits.0 fits.1)
    ∙ last_one c (n + 1) rest

three_spelled : (c n : ℕ) (rest : List ℕ) → n < 256 → 2048 ≤ c → c < 65536 → (c < 55296) ⊎ ((57344 ≤ c) × (c < 1114112))
    → spelled (at Character n) ((224 + c / 4096) ∷ (128 + c / 64 % 64) ∷ (128 + c % 64) ∷ rest)
    ≡ spelled (at Character (n + 1)) rest
three_spelled c n rest room low high is =
    let tail : List ℕ = (128 + c / 64 % 64) ∷ (128 + c % 64) ∷ rest in
    elim (cases_lt c 4096) [
      | inl short ↦
          let fits = e0_fits c low short in
          step_character n (224 + c / 4096) tail AfterE0 room (ap first_byte fits.0)
          ∙ step_tail AfterE0 One 160 191 (n + 1) (128 + c / 64 % 64) ((128 + c % 64) ∷ rest) refl refl fits.1
          (tail_fits (c / 64)).1
          ∙ last_one c (n + 1) rest
      | inr long ↦ elim (middle c is) [
        | inl ed ↦
            let fits = ed_fits c ed.0 ed.1 in
            step_character n (224 + c / 4096) tail AfterEd room (ap first_byte fits.0)
            ∙ step_tail AfterEd One 128 159 (n + 1) (128 + c / 64 % 64) ((128 + c % 64) ∷ rest) refl refl
            (tail_fits (c / 64)).0 fits.1
            ∙ last_one c (n + 1) rest
        | inr other ↦
            step_character n (224 + c / 4096) tail Two room
            (first_three (224 + c / 4096) (omega arith) (omega arith) (other_first c other))
            ∙ last_two (c / 64) c (n + 1) rest
      ]
    ]
  where
    middle : (c : ℕ) → (c < 55296) ⊎ ((57344 ≤ c) × (c < 1114112)) → ((53248 ≤ c) × (c < 55296))
        ⊎ ((c < 53248) ⊎ (57344 ≤ c))
    middle c (inl below) = elim (cases_lt c 53248) [ inl low ↦ inr (inl low) | inr high ↦ inl (high, below) ]
    middle c (inr above) = inr (inr above.0)

    other_first : (c : ℕ) → (c < 53248) ⊎ (57344 ≤ c) → 224 + c / 4096 ≢ 237
    other_first c (inl below) = λ e. omega arith
    other_first c (inr above) = λ e. omega arith

four_spelled : (c n : ℕ) (rest : List ℕ) → n < 256 → 65536 ≤ c → c < 1114112
    → spelled (at Character n) ((240 + c / 262144) ∷ (128 + c / 4096 % 64) ∷ (128 + c / 64 % 64) ∷ (128 + c % 64)
    ∷ rest)
    ≡ spelled (at Character (n + 1)) rest
four_spelled c n rest room low high =
    let second : ℕ = 128 + c / 4096 % 64 in
    let tail : List ℕ = (128 + c / 64 % 64) ∷ (128 + c % 64) ∷ rest in
    elim (cases_lt c 262144) [
      | inl short ↦
          let fits = f0_fits c low short in
          step_character n (240 + c / 262144) (second ∷ tail) AfterF0 room (ap first_byte fits.0)
          ∙ step_tail AfterF0 Two 144 191 (n + 1) second tail refl refl fits.1 (tail_fits (c / 4096)).1
          ∙ last_two (c / 64) c (n + 1) rest
      | inr long ↦ elim (cases_lt c 1048576) [
        | inl middle ↦
            step_character n (240 + c / 262144) (second ∷ tail) Three room
            (first_four (240 + c / 262144) (omega arith) (omega arith))
            ∙ step_tail Three Two 128 191 (n + 1) second tail refl refl (tail_fits (c / 4096)).0
            (tail_fits (c / 4096)).1
            ∙ last_two (c / 64) c (n + 1) rest
        | inr last ↦
            let fits = f4_fits c last high in
            step_character n (240 + c / 262144) (second ∷ tail) AfterF4 room (ap first_byte fits.0)
            ∙ step_tail AfterF4 Two 128 143 (n + 1) second tail refl refl (tail_fits (c / 4096)).0 fits.1
            ∙ last_two (c / 64) c (n + 1) rest
      ]
    ]

scalar_below : (c : ℕ) → scalar c ≡ true → c < 1114112
scalar_below c is = elim (scalar_cases c is) [ inl low ↦ omega arith | inr high ↦ high.1 ]

char_spelled : (c n : ℕ) (rest : List ℕ) → scalar c ≡ true → n < 256
    → spelled (at Character n) (encode c ++ rest) ≡ spelled (at Character (n + 1)) rest
char_spelled c n rest is room =
    elim (cases_lt c 128) [
      | inl one ↦ rw (encode_one c one) (step_character n c rest Character room (first_ascii c one))
      | inr above_one ↦ elim (cases_lt c 2048) [
        | inl two ↦ rw (encode_two c above_one two) (two_spelled c n rest room above_one two)
        | inr above_two ↦ elim (cases_lt c 65536) [
          | inl three ↦ rw (encode_three c above_two three)
              (three_spelled c n rest room above_two three (scalar_cases c is))
          | inr four ↦ rw (encode_four c four) (four_spelled c n rest room four (scalar_below c is))
        ]
      ]
    ]

-- so many characters
pub chars_spelled : (cs : List ℕ) (n : ℕ) → scalars cs ≡ true → 1 ≤ n + length cs → n + length cs ≤ 256
    → spelled (at Character n) (encodes cs) ≡ true
chars_spelled [] n all some few = le-leb 1 n (omega arith)
chars_spelled (c ∷ cs) n all some few =
    let both = and_parts (scalar c) (scalars cs) all in
    char_spelled c n (encodes cs) both.0 (omega arith) ∙ chars_spelled cs (n + 1) both.1 (omega arith) (omega arith)

-- the next byte of a character that is begun
read_tail : (a further : Awaited) (low high n : ℕ) (text : List ℕ) → is_between a ≡ false
    → ((b : ℕ) → next_byte a b ≡ within low high b further) → spelled (at a n) text ≡ true
    → (b : ℕ) × (rest : List ℕ) × (text ≡ b ∷ rest) × (low ≤ b) × (b ≤ high) × (spelled (at further n) rest ≡ true)
read_tail a further low high n [] pending on is = absurd (false≢true (sym (rw pending refl) ∙ is))
read_tail a further low high n (b ∷ rest) pending on is =
    elim (cases_Bool (is_in_range low high b)) [
      | inl inside ↦
          let bounds = and_parts (nat_le low b) (nat_le b high) inside in
          let below = leb-true low b bounds.0 in
          let above = leb-true b high bounds.1 in
          (b, rest, refl, below, above, sym (step_tail a further low high n b rest pending (on b) below above) ∙ is)
      | inr outside ↦ absurd (false≢true (sym (rw (pending, on b, outside) refl) ∙ is))
    ]

-- a text from a character on: the character, and the rest
abbrev ReadsCharacter : ℕ → List ℕ → Type 0
ReadsCharacter n text = (c : ℕ) × (rest : List ℕ) × (scalar c ≡ true) × (text ≡ encode c ++ rest)
    × (spelled (at Character (n + 1)) rest ≡ true)

-- bytes that were read one by one, and the rest
joined_three : (x y z : ℕ) (text second third bytes : List ℕ) → text ≡ y ∷ second → second ≡ z ∷ third
    → bytes ≡ x ∷ y ∷ z ∷ []
    → x ∷ text ≡ bytes ++ third
joined_three x y z text second third bytes is_second is_third is_bytes = rw (is_second, is_third, is_bytes) refl

joined_four : (x y z w : ℕ) (text second third fourth bytes : List ℕ) → text ≡ y ∷ second → second ≡ z ∷ third
    → third ≡ w ∷ fourth
    → bytes ≡ x ∷ y ∷ z ∷ w ∷ [] → x ∷ text ≡ bytes ++ fourth
joined_four x y z w text second third fourth bytes is_second is_third is_fourth is_bytes =
    rw (is_second, is_third, is_fourth, is_bytes) refl

-- a character of bytes, and the rest, where its last bytes are read one by one
read_two : (n x : ℕ) (text : List ℕ) → spelled (at One (n + 1)) text ≡ true → 194 ≤ x → x ≤ 223
    → ReadsCharacter n (x ∷ text)
read_two n x text is low high =
    let second = read_tail One Character 128 191 (n + 1) text refl (λ _. refl) is in
    let char = two_char x second.0 low high second.3 second.4 in
    (char.0, second.1, char.1, ap (λ t. x ∷ t) second.2 ∙ ap (λ bytes. bytes ++ second.1) (sym char.2), second.5)

-- the second byte of a character of three, in a range
read_three : (n x low high : ℕ) (a : Awaited) (text : List ℕ) → is_between a ≡ false
    → ((b : ℕ) → next_byte a b ≡ within low high b One)
    → 128 ≤ low → high ≤ 191 → spelled (at a (n + 1)) text ≡ true → 224 ≤ x → x ≤ 239
    → (225 ≤ x) ⊎ (160 ≤ low) → (x ≢ 237) ⊎ (high ≤ 159) → ReadsCharacter n (x ∷ text)
read_three n x low high a text pending on low_tail high_tail is x_low x_high not_short no_surrogate =
    let second = read_tail a One low high (n + 1) text pending on is in
    let third = read_tail One Character 128 191 (n + 1) second.1 refl (λ _. refl) second.5 in
    let char = three_char x second.0 third.0 x_low x_high (omega (arith, second.3))
    (omega (arith, second.4)) third.3 third.4
    (elim not_short [ inl long ↦ inl long | inr short ↦ inr (omega (arith, second.3)) ])
    (elim no_surrogate [ inl other ↦ inl other | inr low_half ↦ inr (omega (arith, second.4)) ]) in (
      char.0,
      third.1,
      char.1,
      joined_three x second.0 third.0 text second.1 third.1
          (encode char.0) second.2 third.2 char.2,
      third.5,
    )

-- the second byte of a character of four, in a range
read_four : (n x low high : ℕ) (a : Awaited) (text : List ℕ) → is_between a ≡ false
    → ((b : ℕ) → next_byte a b ≡ within low high b Two)
    → 128 ≤ low → high ≤ 191 → spelled (at a (n + 1)) text ≡ true → 240 ≤ x → x ≤ 244
    → (241 ≤ x) ⊎ (144 ≤ low) → (x ≤ 243) ⊎ (high ≤ 143) → ReadsCharacter n (x ∷ text)
read_four n x low high a text pending on low_tail high_tail is x_low x_high not_short not_long =
    let second = read_tail a Two low high (n + 1) text pending on is in
    let third = read_tail Two One 128 191 (n + 1) second.1 refl (λ _. refl) second.5 in
    let fourth = read_tail One Character 128 191 (n + 1) third.1 refl (λ _. refl) third.5 in
    let char = four_char x second.0 third.0 fourth.0 x_low x_high (omega (arith, second.3))
    (omega (arith, second.4)) third.3 third.4 fourth.3 fourth.4
    (elim not_short [ inl long ↦ inl long | inr short ↦ inr (omega (arith, second.3)) ])
    (elim not_long [ inl before ↦ inl before | inr last ↦ inr (omega (arith, second.4)) ]) in (
      char.0,
      fourth.1,
      char.1,
      joined_four x second.0 third.0 fourth.0 text second.1 third.1 fourth.1
          (encode char.0) second.2 third.2 fourth.2 char.2,
      fourth.5,
    )

read_character : (n b : ℕ) (text : List ℕ) → n < 256 → spelled (at Character n) (b ∷ text) ≡ true → (kind : FirstByte b)
    → ReadsCharacter n (b ∷ text)
read_character n b text room is (ascii small) =
    let char = one_char b small in (
      char.0,
      text,
      char.1,
      ap (λ bytes. bytes ++ text) (sym char.2),
      sym
          (step_character n b text Character room (first_ascii b small)) ∙ is,
    )
read_character n b text room is (of_two low high) =
    read_two n b text (sym (step_character n b text One room (first_two b low high)) ∙ is) low high
read_character n b text room is (of_three low high other) =
    read_three n b 128 191 Two text refl (λ _. refl) (omega arith) (omega arith)
    (sym (step_character n b text Two room (first_three b low high other)) ∙ is) (omega arith) high (inl low)
    (inl other)
read_character n b text room is (of_four low high) =
    read_four n b 128 191 Three text refl (λ _. refl) (omega arith) (omega arith)
    (sym (step_character n b text Three room (first_four b low high)) ∙ is) (omega arith) (omega arith) (inl low)
    (inl high)
read_character n b text room is (is_e0 e) =
    read_three n b 160 191 AfterE0 text refl (λ _. refl) (omega arith) (omega arith)
    (sym (step_character n b text AfterE0 room (ap first_byte e)) ∙ is) (omega arith) (omega arith) (inr (omega arith))
    (inl (λ ed. omega arith))
read_character n b text room is (is_ed e) =
    read_three n b 128 159 AfterEd text refl (λ _. refl) (omega arith) (omega arith)
    (sym (step_character n b text AfterEd room (ap first_byte e)) ∙ is) (omega arith) (omega arith) (inl (omega arith))
    (inr (omega arith))
read_character n b text room is (is_f0 e) =
    read_four n b 144 191 AfterF0 text refl (λ _. refl) (omega arith) (omega arith)
    (sym (step_character n b text AfterF0 room (ap first_byte e)) ∙ is) (omega arith) (omega arith) (inr (omega arith))
    (inl (omega arith))
read_character n b text room is (is_f4 e) =
    read_four n b 128 143 AfterF4 text refl (λ _. refl) (omega arith) (omega arith)
    (sym (step_character n b text AfterF4 room (ap first_byte e)) ∙ is) (omega arith) (omega arith) (inl (omega arith))
    (inr (omega arith))
read_character n b text room is (no_first refused) =
    absurd (false≢true (sym (rw (lt-leb 256 n room, refused) refl) ∙ is))

spelled_room : (n b : ℕ) (text : List ℕ) → spelled (at Character n) (b ∷ text) ≡ true → n < 256
spelled_room n b text is = elim (cases_lt n 256) [
  | inl room ↦ room
  | inr full ↦ absurd (false≢true (sym (rw (le-leb 256 n full) refl) ∙ is))
]

-- so many characters
pub record HasCharacters (n : ℕ) (text : List ℕ) : Type 0 where
  pub characters : List ℕ
  pub scalar : scalars characters ≡ true
  pub encoded : encodes characters ≡ text
  pub some : 1 ≤ n + length characters
  pub few : n ≤ 256 → n + length characters ≤ 256

length_encode : (c : ℕ) → 0 < length (encode c)
length_encode c = omega (arith, length-encode c, (len_utf8_bounds c).0)

pub spelled_chars : (fuel n : ℕ) (text : List ℕ) → length text ≤ fuel → spelled (at Character n) text ≡ true
    → HasCharacters n text
spelled_chars fuel n [] within is = record {
  characters = [];
  scalar = refl;
  encoded = refl;
  some = omega (arith, leb-true 1 n is);
  few = λ room. omega arith;
}
spelled_chars zero n (b ∷ text) within is = absurd (omega arith)
spelled_chars (suc fuel) n (b ∷ text) within is =
    let room = spelled_room n b text is in
    let read = read_character n b text room is (first_byte_of b) in
    let shorter : length read.1 ≤ fuel =
    omega (arith, length_encode read.0, length-append (encode read.0) read.1, ap length read.3) in
    let later = spelled_chars fuel (n + 1) read.1 shorter read.4 in
    record {
      characters = read.0 ∷ later.characters;
      scalar = and_from _ _ read.2 later.scalar;
      encoded = ap (λ t. encode read.0 ++ t) later.encoded ∙ sym read.3;
      some = omega (arith, later.some);
      few = λ _. omega (arith, later.few);
    }

-- a label's bytes are those that are spelled from the beginning on
pub label_is_spelled : (text : List ℕ) → spelled no_progress text ≡ is_label text
unfolding is_label
label_is_spelled text = same_tests _ _ to back
  where
    to : spelled no_progress text ≡ true
        → (is_utf8 text && nat_le 1 (length (chars text)) && nat_le (length (chars text)) 256) ≡ true
    to is =
        let has = spelled_chars (length text) 0 text (omega arith) is in
        let characters : chars text ≡ has.characters = ap chars (sym has.encoded)
        ∙ chars-encodes has.characters has.scalar in
        let n : length (chars text) ≡ length has.characters = ap length characters in
        and_from _ _
        (and_from _ _ (is_utf8-from_IsUtf8 text (has.characters, (has.scalar, has.encoded)))
        (le-leb 1 (length (chars text)) (omega (arith, n, has.some))))
        (le-leb (length (chars text)) 256 (omega (arith, n, has.few)))

    back : (is_utf8 text && nat_le 1 (length (chars text)) && nat_le (length (chars text)) 256) ≡ true
        → spelled no_progress text ≡ true
    back is =
        let both = and_parts (is_utf8 text && nat_le 1 (length (chars text))) (nat_le (length (chars text)) 256) is in
        let front = and_parts (is_utf8 text) (nat_le 1 (length (chars text))) both.0 in
        let utf8 = IsUtf8-from_is_utf8 text front.0 in
        ap (λ t. spelled no_progress t) (sym (encodes-chars text utf8))
        ∙ chars_spelled (chars text) 0 (scalars-chars text utf8)
        (omega (arith, leb-true 1 (length (chars text)) front.1))
        (omega (arith, leb-true (length (chars text)) 256 both.1))

-- The law of the reader of labels: it finds no fault in a label, and in any other text the first one.
pub label_no_fault : (text : List ℕ) → None ≡ fault_after no_progress 0 text → is_label text ≡ true
label_no_fault text none = sym (label_is_spelled text) ∙ (rw (← none) at (label_law no_progress 0 text))

pub label_fault_place : (text : List ℕ) (place : ℕ) → Some place ≡ fault_after no_progress 0 text
    → IsFirstFault is_label text place
label_fault_place text place some =
    let faults : FaultsAt no_progress text 0 place = rw (← some) at (label_law no_progress 0 text) in
    first_fault_same (λ t. spelled no_progress t) is_label text place label_is_spelled
    (rw (faults.1, zero-add faults.0) faults.2)

pub label_is_utf8 : (text : List ℕ) → is_label text ≡ true → is_utf8 text ≡ true
unfolding is_label
label_is_utf8 text is =
    (and_parts (is_utf8 text) _ (and_parts (is_utf8 text && nat_le 1 (length (chars text))) _ is).0).0
