-- What parts take of a text, and where it leaves them.
use Rattle.std.proofs.Common.{◌≡◌, ℕ, zero, suc, ◌+◌, ◌-◌, ◌<◌, ◌≤◌, true, false, not, ◌&&◌, ◌==◌, List, [], ◌∷◌, ◌++◌, length, take, drop, get_or, Option, Some, None, MatchOption, IsTrue, nat_lt, nat_le, refl, sym, ap, ◌∙◌, inl, inr, arith, add-one, add-zero, zero-add, add_assoc, length-append}
use Rattle.std.proofs.Math.Seq.{take-add}
use Rattle.std.proofs.lemmas.List.{drop_more, drop_all, drop_at, take-append-drop, length-take-le, length-drop, length-replicate, get_or-replicate, append_assoc}
use Rattle.std.proofs.lemmas.List.Folds.{list_all-append}
use Rattle.std.proofs.lemmas.Str.{IsUtf8-from_ascii, is_utf8-from_IsUtf8}
use Rattle.std.specs.Char.{is_ascii}
use Rattle.std.specs.List.{list_all}
use Rattle.std.specs.Str.{is_utf8}
use Rattle.std.proofs.lemmas.Bool.{eqb-true, cases_Bool, cases_lt, and_parts, and_from, and_right, not-true, eq-eqb, false≢true, le-leb, lt-leb, leb-true, ltb-true, lt-ltb, le-ltb}
use Rattle.std.proofs.lemmas.Bool.Decides.{nat_tests}
use Rattle.sm_base.specs.declared.parts.Alphabet.{Alphabet}
use Rattle.sm_base.specs.declared.parts.Alphabet.TheVariants.{NameBytes, TokenBytes, RegionBytes, Digits}
use Rattle.sm_base.specs.declared.parts.Word.{Word}
use Rattle.sm_base.specs.declared.parts.Word.TheVariants.{ArnStart, Colon, ResourceType}
use Rattle.sm_base.specs.declared.parts.Part.{Part}
use Rattle.sm_base.specs.declared.parts.Part.TheVariants.{Literal, Run}
use Rattle.sm_base.specs.Spelling.{is_name_byte, is_token_byte, is_region_byte}
use Rattle.sm_base.specs.FirstFault.{IsFirstFault, CanBecomeSpelled}
use Rattle.sm_base.specs.Parts.{is_in, admits, least, reach, reach_from, fault_from, has_parts, sample_byte, sample_part, sample, is_apart, are_apart, word_bytes}

-- after the last part: nothing may be left
pub fault_from_all : (start i at : ℕ) (parts : List Part) (text : List ℕ)
    → length parts ≤ i → length text ≤ at → fault_from start (drop i parts) (drop at text) ≡ None
fault_from_all start i at parts text done read = rw (drop_all i parts done, drop_all at text read) refl

pub fault_from_more : (start i at : ℕ) (parts : List Part) (text : List ℕ)
    → length parts ≤ i → at < length text → fault_from start (drop i parts) (drop at text) ≡ Some start
fault_from_more start i at parts text done more = rw (drop_all i parts done, drop_more text at 0 more) refl

-- one byte
pub reach_step : (part : Part) (place byte : ℕ) (rest : List ℕ) → admits part place byte ≡ true
    → reach_from part place (byte ∷ rest) ≡ reach_from part (place + 1) rest + 1
reach_step part place byte rest admitted = rw admitted refl

pub reach_stop : (part : Part) (place byte : ℕ) (rest : List ℕ) → admits part place byte ≡ false
    → reach_from part place (byte ∷ rest) ≡ 0
reach_stop part place byte rest refused = rw refused refl

-- the bytes that a part takes, whatever follows them
pub reach_front : (part : Part) (place : ℕ) (text more : List ℕ)
    → reach_from part place (take (reach_from part place text) text ++ more)
    ≡ reach_from part place text + reach_from part (place + reach_from part place text) more
reach_front part place [] more = rw (add-zero, zero-add) refl
reach_front part place (byte ∷ text) more =
    elim (cases_Bool (admits part place byte)) [
      | inl admitted ↦
          let n : ℕ = reach_from part (place + 1) text in
          let here : reach_from part place (byte ∷ text) ≡ suc n = reach_step part place byte text admitted
          ∙ add-one n in
          let onward : reach_from part (place + 1 + n) more ≡ reach_from part (place + suc n) more =
          ap (λ k. reach_from part k more) (omega arith) in
          rw here (reach_step part place byte (take n text ++ more) admitted
          ∙ omega (arith, reach_front part (place + 1) text more, onward))
      | inr refused ↦ rw (reach_stop part place byte text refused, add-zero, zero-add) refl
    ]

pub reach_within : (part : Part) (place : ℕ) (text : List ℕ) → reach_from part place text ≤ length text
reach_within part place [] = omega arith
reach_within part place (byte ∷ text) =
    elim (cases_Bool (admits part place byte)) [
      | inl admitted ↦ rw (reach_step part place byte text admitted) (omega (arith, reach_within part (place + 1) text))
      | inr refused ↦ rw (reach_stop part place byte text refused) (omega arith)
    ]

-- once a part has taken all that it takes, it takes nothing of what follows
reach_rest : (part : Part) (place : ℕ) (text : List ℕ)
    → reach_from part (place + reach_from part place text) (drop (reach_from part place text) text) ≡ 0
reach_rest part place [] = refl
reach_rest part place (byte ∷ text) =
    elim (cases_Bool (admits part place byte)) [
      | inl admitted ↦
          let n : ℕ = reach_from part (place + 1) text in
          let here : reach_from part place (byte ∷ text) ≡ suc n = reach_step part place byte text admitted
          ∙ add-one n in
          let onward : reach_from part (place + suc n) (drop n text) ≡ reach_from part (place + 1 + n) (drop n text) =
          ap (λ k. reach_from part k (drop n text)) (omega arith) in
          rw here (onward ∙ reach_rest part (place + 1) text)
      | inr refused ↦ rw (reach_stop part place byte text refused, add-zero) (reach_stop part place byte text refused)
    ]

-- what takes nothing of a text takes nothing of one that begins with the same byte
reach_head : (part : Part) (place byte : ℕ) (rest more : List ℕ)
    → reach_from part place (byte ∷ rest) ≡ 0 → reach_from part place (byte ∷ more) ≡ 0
reach_head part place byte rest more none =
    elim (cases_Bool (admits part place byte)) [
      | inl admitted ↦ absurd (omega (arith, sym (reach_step part place byte rest admitted) ∙ none))
      | inr refused ↦ reach_stop part place byte more refused
    ]

reach_cut : (part : Part) (place n : ℕ) (rest more : List ℕ) → 0 < length rest
    → reach_from part place rest ≡ 0 → reach_from part place (take (n + 1) rest ++ more) ≡ 0
reach_cut part place n [] more some none = absurd (omega arith)
reach_cut part place n (byte ∷ rest) more some none =
    rw (add-one n) (reach_head part place byte rest (take n rest ++ more) none)

-- a byte of each alphabet is in it
sample_is_in : (alphabet : Alphabet) → is_in alphabet (sample_byte alphabet) ≡ true
unfolding is_name_byte is_token_byte is_region_byte
sample_is_in NameBytes = refl
sample_is_in TokenBytes = refl
sample_is_in RegionBytes = refl
sample_is_in Digits = refl

-- what may follow a part is none of it, once the part has its least
apart_stops : (part : Part) (following : List ℕ) (place : ℕ) → is_apart part following ≡ true → least part ≤ place
    → reach_from part place following ≡ 0
apart_stops part [] place apart enough = refl
apart_stops (Literal word) (byte ∷ rest) place apart enough =
    reach_stop (Literal word) place byte rest (rw (le-ltb place (length (word_bytes word)) enough) refl)
apart_stops (Run alphabet low high) (byte ∷ rest) place apart enough =
    reach_stop (Run alphabet low high) place byte rest
    (and_right (nat_lt place high) (is_in alphabet byte)
    (not-true (is_in alphabet byte) (and_parts (nat_le low high) (not (is_in alphabet byte)) apart).1))

length_sample : (part : Part) → length (sample_part part) ≡ least part
length_sample (Literal word) = refl
length_sample (Run alphabet low high) = length-replicate low (sample_byte alphabet)

has_room : (alphabet : Alphabet) (low high : ℕ) (following : List ℕ) → is_apart (Run alphabet low high) following ≡ true
    → low ≤ high
has_room alphabet low high [] apart = leb-true low high apart
has_room alphabet low high (byte ∷ rest) apart =
    leb-true low high (and_parts (nat_le low high) (not (is_in alphabet byte)) apart).0

sample_admitted : (part : Part) (following : List ℕ) (place : ℕ) → is_apart part following ≡ true → place < least part
    → admits part place (get_or (sample_part part) place 0) ≡ true
sample_admitted (Literal word) following place apart under =
    and_from _ _ (lt-ltb place (length (word_bytes word)) under)
    (eq-eqb (get_or (word_bytes word) place 0) (get_or (word_bytes word) place 0) refl)
sample_admitted (Run alphabet low high) following place apart under =
    let room : low ≤ high = has_room alphabet low high following apart in
    rw (get_or-replicate low place (sample_byte alphabet) 0 under)
    (and_from _ _ (lt-ltb place high (omega arith)) (sample_is_in alphabet))

-- the rest of a part's shortest bytes is taken, and no more
sample_taken : (part : Part) (following : List ℕ) (more place : ℕ) → is_apart part following ≡ true
    → place + more ≡ least part
    → reach_from part place (drop place (sample_part part) ++ following) ≡ more
sample_taken part following zero place apart sum =
    rw (drop_all place (sample_part part) (omega (arith, length_sample part)))
    (apart_stops part following place apart (omega arith))
sample_taken part following (suc more) place apart sum =
    rw (drop_more (sample_part part) place 0 (omega (arith, length_sample part)))
    (reach_step part place (get_or (sample_part part) place 0) (drop (place + 1) (sample_part part) ++ following)
    (sample_admitted part following place apart (omega arith))
    ∙ ap (λ n. n + 1) (sample_taken part following more (place + 1) apart (omega arith)) ∙ add-one more)

-- a text in two: what its first part takes, and the rest
pub has_parts_split : (part : Part) (parts : List Part) (front rest : List ℕ)
    → reach part (front ++ rest) ≡ length front
    → has_parts (part ∷ parts) (front ++ rest) ≡ (nat_le (least part) (length front) && has_parts parts rest)
has_parts_split part parts front rest taken = rw (taken, drop_at front rest (length front) refl) refl

pub sample_has_parts : (parts : List Part) → are_apart parts ≡ true → has_parts parts (sample parts) ≡ true
sample_has_parts [] apart = refl
sample_has_parts (part ∷ parts) apart =
    let both = and_parts (is_apart part (sample parts)) (are_apart parts) apart in
    let taken : reach part (sample_part part ++ sample parts) ≡ length (sample_part part) =
    sample_taken part (sample parts) (least part) 0 both.0 (omega arith) ∙ sym (length_sample part) in
    has_parts_split part parts (sample_part part) (sample parts) taken
    ∙ and_from _ _ (le-leb (least part) (length (sample_part part)) (omega (arith, length_sample part)))
    (sample_has_parts parts both.1)

-- The next parts begin where the first one has taken what it takes.
length_taken : (part : Part) (text : List ℕ) → length (take (reach part text) text) ≡ reach part text
length_taken part text = length-take-le (reach part text) text (reach_within part 0 text)

has_parts_on : (part : Part) (parts : List Part) (text rest : List ℕ)
    → reach_from part (0 + reach part text) rest ≡ 0
    → has_parts (part ∷ parts) (take (reach part text) text ++ rest)
    ≡ (nat_le (least part) (reach part text) && has_parts parts rest)
has_parts_on part parts text rest none =
    let front : List ℕ = take (reach part text) text in
    let taken : reach part (front ++ rest) ≡ length front =
    reach_front part 0 text rest ∙ omega (arith, none, length_taken part text) in
    has_parts_split part parts front rest taken
    ∙ ap (λ n. nat_le (least part) n && has_parts parts rest) (length_taken part text)

has_parts_beyond : (part : Part) (parts : List Part) (text rest : List ℕ) (more : ℕ)
    → reach part text + more < length text
    → has_parts (part ∷ parts) (take (reach part text + (more + 1)) text ++ rest)
    ≡ (nat_le (least part) (reach part text) && has_parts parts (take (more + 1) (drop (reach part text) text) ++ rest))
has_parts_beyond part parts text rest more under =
    let n : ℕ = reach part text in
    rw (take-add n (more + 1) text, append_assoc (take n text) (take (more + 1) (drop n text)) rest)
    (has_parts_on part parts text (take (more + 1) (drop n text) ++ rest)
    (reach_cut part (0 + n) more (drop n text) rest (omega (arith, length-drop n text)) (reach_rest part 0 text)))

-- The text ends, or a byte is refused, before a part has its least.
fault_short : (part : Part) (parts : List Part) (text : List ℕ) → are_apart (part ∷ parts) ≡ true
    → reach part text < least part → IsFirstFault (has_parts (part ∷ parts)) text (reach part text)
fault_short part parts text apart short =
    let n : ℕ = reach part text in
    let both = and_parts (is_apart part (sample parts)) (are_apart parts) apart in
    let refused : nat_le (least part) n ≡ false = lt-leb (least part) n short in
    let filling : List ℕ = drop n (sample_part part) in
    let filled : reach_from part (0 + n) (filling ++ sample parts) ≡ least part - n =
    rw (zero-add n) (sample_taken part (sample parts) (least part - n) n both.0 (omega arith)) in
    let taken : reach part ((take n text ++ filling) ++ sample parts) ≡ length (take n text ++ filling) =
    rw (append_assoc (take n text) filling (sample parts))
    (reach_front part 0 text (filling ++ sample parts)
    ∙ omega (
      arith,
      filled,
      length-append (take n text) filling,
      length_taken part text,
      length-drop n
          (sample_part part),
      length_sample part,
    )) in
    record {
      unspelled = λ spelled. false≢true (sym refused ∙ (and_parts _ _ spelled).0);
      within = reach_within part 0 text;
      before = (
        filling ++ sample parts,
        rw (← append_assoc (take n text) filling (sample parts))
            (has_parts_split part parts (take n text ++ filling) (sample parts) taken
            ∙ and_from _ _
            (le-leb (least part) _
            (omega (
              arith,
              length-append (take n text) filling,
              length_taken part text,
              length-drop n
                  (sample_part part),
              length_sample part,
            )))
            (sample_has_parts parts both.1)),
      );
      from_there = λ under w.
          let beyond = has_parts_beyond part parts text w.0 0 (omega arith) in
          let same : has_parts (part ∷ parts) (take (n + (0 + 1)) text ++ w.0) ≡ true = rw (zero-add 1) w.1 in
          false≢true (sym refused ∙ (and_parts _ _ (sym beyond ∙ same)).0);
    }

-- What the first part takes, and what can be a later part's, can be both together.
fault_later_before : (part : Part) (parts : List Part) (text : List ℕ) (place : ℕ)
    → is_apart part (sample parts) ≡ true → has_parts parts (sample parts) ≡ true
    → nat_le (least part) (reach part text) ≡ true → IsFirstFault (has_parts parts) (drop (reach part text) text) place
    → CanBecomeSpelled (has_parts (part ∷ parts)) (take (reach part text + place) text)
fault_later_before part parts text zero apart sampled has_least later =
    let n : ℕ = reach part text in
    let none : reach_from part (0 + n) (sample parts) ≡ 0 =
    rw (zero-add n) (apart_stops part (sample parts) n apart (leb-true (least part) n has_least)) in
    (sample parts, rw (add-zero n) (has_parts_on part parts text (sample parts) none ∙ and_from _ _ has_least sampled))
fault_later_before part parts text (suc place) apart sampled has_least later =
    let n : ℕ = reach part text in
    let rest : List ℕ = later.before.0 in
    let spelled : has_parts parts (take (place + 1) (drop n text) ++ rest) ≡ true = rw (add-one place) later.before.1 in
    let under : n + place < length text = omega (arith, later.within, length-drop n text) in
    (rest, rw (← add-one place) (has_parts_beyond part parts text rest place under ∙ and_from _ _ has_least spelled))

-- A part has its least, and the text leaves a later one.
fault_later : (part : Part) (parts : List Part) (text : List ℕ) (place : ℕ) → are_apart (part ∷ parts) ≡ true
    → least part ≤ reach part text → IsFirstFault (has_parts parts) (drop (reach part text) text) place
    → IsFirstFault (has_parts (part ∷ parts)) text (reach part text + place)
fault_later part parts text place apart enough later =
    let n : ℕ = reach part text in
    let both = and_parts (is_apart part (sample parts)) (are_apart parts) apart in
    let has_least : nat_le (least part) n ≡ true = le-leb (least part) n enough in
    record {
      unspelled = λ spelled. later.unspelled (and_parts _ _ spelled).1;
      within = omega (arith, later.within, length-drop n text, reach_within part 0 text);
      before = fault_later_before part parts text place both.0 (sample_has_parts parts both.1) has_least later;
      from_there = λ under w.
          let beyond = has_parts_beyond part parts text w.0 place under in
          let same : has_parts (part ∷ parts) (take (n + (place + 1)) text ++ w.0) ≡ true =
          rw (← add_assoc n place 1) w.1 in
          later.from_there (omega (arith, length-drop n text)) (w.0, (and_parts _ _ (sym beyond ∙ same)).1);
    }

-- what a place says that is counted on from a start
abbrev FaultsAt : List Part → List ℕ → ℕ → ℕ → Type 0
FaultsAt parts text start place = (n : ℕ) × (place ≡ start + n) × IsFirstFault (has_parts parts) text n

parts_law : (start : ℕ) (parts : List Part) (text : List ℕ) → are_apart parts ≡ true
    → MatchOption (fault_from start parts text) (IsTrue (has_parts parts text)) (FaultsAt parts text start)
parts_law start [] [] apart = refl
parts_law start [] (byte ∷ rest) apart = (
  0,
  sym (add-zero start),
  record {
    unspelled = λ spelled. false≢true spelled;
    within = omega arith;
    before = ([], refl);
    from_there = λ _ w. false≢true w.1;
  },
)
parts_law start (part ∷ parts) text apart =
    let n : ℕ = reach part text in
    let both = and_parts (is_apart part (sample parts)) (are_apart parts) apart in
    elim (cases_lt n (least part)) [
      | inl short ↦ rw (lt-ltb n (least part) short) (n, refl, fault_short part parts text apart short)
      | inr enough ↦ rw (le-ltb n (least part) enough)
          (later_law start part parts text apart enough (fault_from (start + n) parts (drop n text))
          (parts_law (start + n) parts (drop n text) both.1))
    ]
  where
    later_law : (start : ℕ) (part : Part) (parts : List Part) (text : List ℕ) → are_apart (part ∷ parts) ≡ true
        → least part ≤ reach part text → (fault : Option ℕ)
        → MatchOption fault (IsTrue (has_parts parts (drop (reach part text) text)))
        (FaultsAt parts (drop (reach part text) text) (start + reach part text))
        → MatchOption fault (IsTrue (has_parts (part ∷ parts) text)) (FaultsAt (part ∷ parts) text start)
    later_law start part parts text apart enough None spelled =
        and_from _ _ (le-leb (least part) (reach part text) enough) spelled
    later_law start part parts text apart enough (Some place) faults = (
      reach part text + faults.0,
      faults.1
          ∙ add_assoc start (reach part text) faults.0,
      fault_later part parts text faults.0 apart enough faults.2,
    )

-- The law of the reader of parts: it finds no fault in a text that has the parts, and in any other the first one.
pub no_fault : (parts : List Part) (text : List ℕ) → are_apart parts ≡ true → None ≡ fault_from 0 parts text
    → has_parts parts text ≡ true
no_fault parts text apart none = rw (← none) at (parts_law 0 parts text apart)

pub fault_place : (parts : List Part) (text : List ℕ) (place : ℕ) → are_apart parts ≡ true
    → Some place ≡ fault_from 0 parts text
    → IsFirstFault (has_parts parts) text place
fault_place parts text place apart some =
    let faults : FaultsAt parts text 0 place = rw (← some) at (parts_law 0 parts text apart) in
    rw (faults.1, zero-add faults.0) faults.2

-- all bytes of parts are ASCII
name_byte_is_ascii : (byte : ℕ) → is_name_byte byte ≡ true → byte < 128
unfolding is_name_byte
name_byte_is_ascii byte is = grind (arith, nat_tests)

token_byte_is_ascii : (byte : ℕ) → is_token_byte byte ≡ true → byte < 128
unfolding is_token_byte
token_byte_is_ascii byte is = grind (arith, nat_tests)

region_byte_is_ascii : (byte : ℕ) → is_region_byte byte ≡ true → byte < 128
unfolding is_region_byte
region_byte_is_ascii byte is = grind (arith, nat_tests)

in_alphabet_is_ascii : (alphabet : Alphabet) (byte : ℕ) → is_in alphabet byte ≡ true → byte < 128
in_alphabet_is_ascii NameBytes byte is = name_byte_is_ascii byte is
in_alphabet_is_ascii TokenBytes byte is = token_byte_is_ascii byte is
in_alphabet_is_ascii RegionBytes byte is = region_byte_is_ascii byte is
in_alphabet_is_ascii Digits byte is = grind (arith, nat_tests)

ascii_at : (bytes : List ℕ) (place : ℕ) → list_all is_ascii bytes ≡ true → get_or bytes place 0 < 128
ascii_at [] place all = omega arith
ascii_at (byte ∷ bytes) zero all = ltb-true byte 128 (and_parts (is_ascii byte) (list_all is_ascii bytes) all).0
ascii_at (byte ∷ bytes) (suc place) all = ascii_at bytes place
    (and_parts (is_ascii byte) (list_all is_ascii bytes) all).1

word_is_ascii : (word : Word) → list_all is_ascii (word_bytes word) ≡ true
word_is_ascii ArnStart = refl
word_is_ascii Colon = refl
word_is_ascii ResourceType = refl

admitted_is_ascii : (part : Part) (place byte : ℕ) → admits part place byte ≡ true → byte < 128
admitted_is_ascii (Literal word) place byte admitted =
    let same : get_or (word_bytes word) place 0 ≡ byte =
    eqb-true (get_or (word_bytes word) place 0) byte
    (and_parts (nat_lt place (length (word_bytes word))) (get_or (word_bytes word) place 0 == byte) admitted).1 in
    omega (arith, same, ascii_at (word_bytes word) place (word_is_ascii word))
admitted_is_ascii (Run alphabet low high) place byte admitted =
    in_alphabet_is_ascii alphabet byte (and_parts _ _ admitted).1

taken_is_ascii : (part : Part) (place : ℕ) (text : List ℕ)
    → list_all is_ascii (take (reach_from part place text) text) ≡ true
taken_is_ascii part place [] = refl
taken_is_ascii part place (byte ∷ text) =
    elim (cases_Bool (admits part place byte)) [
      | inl admitted ↦
          rw (reach_step part place byte text admitted, add-one (reach_from part (place + 1) text))
          (and_from _ _ (lt-ltb byte 128 (admitted_is_ascii part place byte admitted))
          (taken_is_ascii part (place + 1) text))
      | inr refused ↦ rw (reach_stop part place byte text refused) refl
    ]

parts_are_ascii : (parts : List Part) (text : List ℕ) → has_parts parts text ≡ true → list_all is_ascii text ≡ true
parts_are_ascii [] [] has = refl
parts_are_ascii [] (byte ∷ text) has = absurd (false≢true has)
parts_are_ascii (part ∷ parts) text has =
    let n : ℕ = reach part text in
    let rest : list_all is_ascii (drop n text) ≡ true = parts_are_ascii parts (drop n text) (and_parts _ _ has).1 in
    ap (list_all is_ascii) (sym (take-append-drop n text)) ∙ list_all-append is_ascii (take n text) (drop n text)
    ∙ and_from _ _ (taken_is_ascii part 0 text) rest

pub parts_are_utf8 : (parts : List Part) (text : List ℕ) → has_parts parts text ≡ true → is_utf8 text ≡ true
parts_are_utf8 parts text has =
    is_utf8-from_IsUtf8 text (IsUtf8-from_ascii text (λ i. ascii_at text i (parts_are_ascii parts text has)))
