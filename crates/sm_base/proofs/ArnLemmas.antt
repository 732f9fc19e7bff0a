-- ARNs of secrets, as parts.
use Rattle.std.proofs.Common.{◌≡◌, ℕ, suc, ◌+◌, ◌≤◌, true, false, not, ◌&&◌, ◌==◌, if◌then◌else◌, List, [], ◌∷◌, ◌++◌, length, take, drop, get_or, nat_lt, nat_le, nat_eq, codes, refl, sym, ap, ◌∙◌, ◌⊎◌, inl, inr, arith, add-zero, zero-add, le_antisymm}
use Rattle.std.proofs.lemmas.Bool.Decides.{nat_tests}
use Rattle.std.proofs.lemmas.List.{drop_more, drop_all, length-take-le, take-append-drop, take_all, append-nil}
use Rattle.std.proofs.lemmas.Bool.{cases_Bool, cases_lt, and_parts, and_from, lt-ltb, le-ltb, le-leb, lt-leb, leb-true, eqb-true, ne_eqb, and_right, false≢true}
use Rattle.std.specs.List.{list_all, starts_with, before_first, after_first, position_or_len}
use Rattle.sm_base.specs.declared.parts.Alphabet.{Alphabet}
use Rattle.sm_base.specs.declared.parts.Alphabet.TheVariants.{NameBytes, RegionBytes, Digits}
use Rattle.sm_base.specs.declared.parts.Word.{Word}
use Rattle.sm_base.specs.declared.parts.Word.TheVariants.{ArnStart, Colon, ResourceType}
use Rattle.sm_base.specs.declared.parts.Part.{Part}
use Rattle.sm_base.specs.declared.parts.Part.TheVariants.{Literal, Run}
use Rattle.sm_base.specs.Spelling.{is_run, is_arn, is_colon, is_account_on, is_region_on, is_resource, is_region_byte}
use Rattle.sm_base.specs.Parts.{is_in, reach, reach_from, has_parts, word_bytes}
use Rattle.sm_base.specs.Reading.{IsRefusal}
use Rattle.sm_base.specs.declared.spelling.ReadRefused.{ReadRefused}
use Rattle.sm_base.proofs.FaultLemmas.{refusal_same}
use Rattle.sm_base.proofs.PartLemmas.{reach_step, reach_stop, reach_within, reach_front, has_parts_split}
use Rattle.sm_base.proofs.RunLemmas.{room_for_all, same_tests, run_taken, taken_run, run_is_run}

-- how many bytes two lists have in common at their front
abbrev common : List ℕ → List ℕ → ℕ
common [] text = 0
common (b ∷ bytes) [] = 0
common (b ∷ bytes) (c ∷ text) = if b == c then common bytes text + 1 else 0

common_nil : (bytes : List ℕ) → common bytes [] ≡ 0
common_nil [] = refl
common_nil (b ∷ bytes) = refl

common_same : (b c : ℕ) (bytes text : List ℕ) → (b == c) ≡ true → common (b ∷ bytes) (c ∷ text) ≡ common bytes text + 1
common_same b c bytes text same = rw same refl

common_other : (b c : ℕ) (bytes text : List ℕ) → (b == c) ≡ false → common (b ∷ bytes) (c ∷ text) ≡ 0
common_other b c bytes text other = rw other refl

common_within : (bytes text : List ℕ) → common bytes text ≤ length bytes
common_within [] text = omega arith
common_within (b ∷ bytes) [] = omega arith
common_within (b ∷ bytes) (c ∷ text) =
    elim (cases_Bool (b == c)) [
      | inl same ↦ rw same (omega (arith, common_within bytes text))
      | inr other ↦ rw other (omega arith)
    ]

literal_reach : (word : Word) (place : ℕ) (text : List ℕ)
    → reach_from (Literal word) place text ≡ common (drop place (word_bytes word)) text
literal_reach word place [] = sym (common_nil (drop place (word_bytes word)))
literal_reach word place (byte ∷ text) =
    elim (cases_lt place (length (word_bytes word))) [
      | inl under ↦
          let b : ℕ = get_or (word_bytes word) place 0 in
          let more = drop_more (word_bytes word) place 0 under in
          elim (cases_Bool (b == byte)) [
            | inl same ↦
                reach_step (Literal word) place byte text
                (and_from _ _ (lt-ltb place (length (word_bytes word)) under) same)
                ∙ ap (λ n. n + 1) (literal_reach word (place + 1) text)
                ∙ rw more (sym (common_same b byte (drop (place + 1) (word_bytes word)) text same))
            | inr other ↦
                reach_stop (Literal word) place byte text
                (and_right (nat_lt place (length (word_bytes word))) (b == byte) other)
                ∙ rw more (sym (common_other b byte (drop (place + 1) (word_bytes word)) text other))
          ]
      | inr over ↦
          reach_stop (Literal word) place byte text (rw (le-ltb place (length (word_bytes word)) over) refl)
          ∙ rw (drop_all place (word_bytes word) over) refl
    ]

starts_is_common : (bytes text : List ℕ) → starts_with nat_eq text bytes ≡ nat_le (length bytes) (common bytes text)
starts_is_common [] text = refl
starts_is_common (b ∷ bytes) [] = sym (lt-leb (suc (length bytes)) 0 (omega arith))
starts_is_common (b ∷ bytes) (c ∷ text) =
    elim (cases_Bool (b == c)) [
      | inl same ↦ rw (same, starts_is_common bytes text) (leb_suc (length bytes) (common bytes text))
      | inr other ↦ rw other (sym (lt-leb (suc (length bytes)) 0 (omega arith)))
    ]
  where
    leb_suc : (m n : ℕ) → nat_le m n ≡ nat_le (suc m) (n + 1)
    leb_suc m n = grind (arith, nat_tests)

-- a text that has a literal first begins with its bytes
literal_first : (word : Word) (parts : List Part) (text : List ℕ)
    → has_parts (Literal word ∷ parts) text ≡ (starts_with nat_eq text (word_bytes word)
    && has_parts parts (drop (length (word_bytes word)) text))
literal_first word parts text =
    rw (literal_reach word 0 text, starts_is_common (word_bytes word) text)
    (elim (cases_Bool (nat_le (length (word_bytes word)) (common (word_bytes word) text))) [
      | inl all ↦ rw (le_antisymm (common_within (word_bytes word) text)
          (leb-true (length (word_bytes word)) (common (word_bytes word) text) all)) refl
      | inr some ↦ rw some refl
    ])

colon_first : (word : Word) (more : List ℕ) (parts : List Part) (rest : List ℕ) → (word_bytes word) ≡ 58 ∷ more
    → has_parts (Literal word ∷ parts) rest ≡ true → (after : List ℕ) × (rest ≡ 58 ∷ after)
colon_first word more parts rest is has =
    begins rest (rw is at (and_parts (starts_with nat_eq rest (word_bytes word)) _
    (sym (literal_first word parts rest) ∙ has)).0)
  where
    begins : (rest : List ℕ) → starts_with nat_eq rest (58 ∷ more) ≡ true → (after : List ℕ) × (rest ≡ 58 ∷ after)
    begins [] starts = absurd (false≢true starts)
    begins (c ∷ rest) starts = (rest, ap (λ b. b ∷ rest) (sym (eqb-true 58 c (and_parts (58 == c) _ starts).0)))

pub colon_place : (alphabet : Alphabet) (front after : List ℕ) → is_in alphabet 58 ≡ false
    → list_all (is_in alphabet) front ≡ true
    → position_or_len is_colon (front ++ 58 ∷ after) ≡ length front
colon_place alphabet [] after other all = refl
colon_place alphabet (b ∷ front) after other all =
    let both = and_parts (is_in alphabet b) (list_all (is_in alphabet) front) all in
    let no_colon : (b == 58) ≡ false = ne_eqb b 58 (λ e. false≢true (sym other ∙ ap (is_in alphabet) (sym e) ∙ both.0))
    in
    rw (no_colon, colon_place alphabet front after other both.1) (omega arith)

reach_whole : (part : Part) (front more : List ℕ) → reach_from part 0 front ≡ length front
    → reach_from part (length front) more ≡ 0
    → reach part (front ++ more) ≡ length front
reach_whole part front more alone none =
    let onward : reach_from part (0 + length front) more ≡ 0 = rw (zero-add (length front)) none in
    let sum = rw (alone, take_all (length front) front (omega arith)) at (reach_front part 0 front more) in
    sum ∙ omega (arith, onward)

-- a run that ends at the first colon
run_first : (alphabet : Alphabet) (low high : ℕ) (word : Word) (more : List ℕ) (parts : List Part) (text : List ℕ)
    → is_in alphabet 58 ≡ false → (word_bytes word) ≡ 58 ∷ more
    → has_parts (Run alphabet low high ∷ Literal word ∷ parts) text
    ≡ (is_run (is_in alphabet) low high (before_first is_colon text)
    && has_parts (Literal word ∷ parts) (drop (position_or_len is_colon text) text))
run_first alphabet low high word more parts text other is = same_tests _ _ to back
  where
    part : Part
    part = Run alphabet low high

    later : List Part
    later = Literal word ∷ parts

    to : has_parts (part ∷ later) text ≡ true
        → (is_run (is_in alphabet) low high (before_first is_colon text)
        && has_parts later (drop (position_or_len is_colon text) text)) ≡ true
    to has =
        let n : ℕ = reach part text in
        let both = and_parts (nat_le low n) (has_parts later (drop n text)) has in
        let front : List ℕ = take n text in
        let rest = colon_first word more parts (drop n text) is both.1 in
        let n_is : length front ≡ n = length-take-le n text (reach_within part 0 text) in
        let alone : reach_from part 0 front ≡ length front =
        ap (reach_from part 0) (sym (append-nil front)) ∙ reach_front part 0 text [] ∙ add-zero n ∙ sym n_is in
        let run = taken_run alphabet low high 0 front alone in
        let whole : text ≡ front ++ 58 ∷ rest.0 = sym (take-append-drop n text) ∙ ap (λ t. front ++ t) rest.1 in
        let place : position_or_len is_colon text ≡ n =
        ap (position_or_len is_colon) whole ∙ colon_place alphabet front rest.0 other run.0 ∙ n_is in
        rw place
        (and_from _ _
        (and_from _ _
        (and_from _ _ (le-leb low (length front) (omega (arith, n_is, leb-true low n both.0)))
        (le-leb (length front) high (room_for_all (length front) high run.1)))
        run.0)
        both.1)

    back : (is_run (is_in alphabet) low high (before_first is_colon text)
        && has_parts later (drop (position_or_len is_colon text) text)) ≡ true
        → has_parts (part ∷ later) text ≡ true
    back has =
        let p : ℕ = position_or_len is_colon text in
        let front : List ℕ = take p text in
        let both = and_parts (is_run (is_in alphabet) low high front) (has_parts later (drop p text)) has in
        let rest = colon_first word more parts (drop p text) is both.1 in
        let run = and_parts (nat_le low (length front) && nat_le (length front) high)
        (list_all (is_in alphabet) front) both.0 in
        let bounds = and_parts (nat_le low (length front)) (nat_le (length front) high) run.0 in
        let alone : reach_from part 0 front ≡ length front =
        run_taken alphabet low high 0 front run.1 (omega (arith, leb-true (length front) high bounds.1)) in
        let stops : reach_from part (length front) (58 ∷ rest.0) ≡ 0 =
        reach_stop part (length front) 58 rest.0 (and_right (nat_lt (length front) high) (is_in alphabet 58) other) in
        let whole : text ≡ front ++ 58 ∷ rest.0 = sym (take-append-drop p text) ∙ ap (λ t. front ++ t) rest.1 in
        ap (has_parts (part ∷ later)) whole
        ∙ has_parts_split part later front (58 ∷ rest.0) (reach_whole part front (58 ∷ rest.0) alone stops)
        ∙ and_from _ _ bounds.0 (ap (has_parts later) (sym rest.1) ∙ both.1)

pub at_colon : (text : List ℕ)
    → ((drop (position_or_len is_colon text) text ≡ []) × (after_first is_colon text ≡ []))
    ⊎ (drop (position_or_len is_colon text) text ≡ 58 ∷ after_first is_colon text)
at_colon [] = inl (refl, refl)
at_colon (b ∷ text) = elim (cases_Bool (b == 58)) [
  | inl colon ↦ inr (rw colon (ap (λ c. c ∷ text) (eqb-true b 58 colon)))
  | inr other ↦
      let p : ℕ = position_or_len is_colon text in
      let here : position_or_len is_colon (b ∷ text) ≡ suc p = rw other (omega arith) in
      let past : suc p + 1 ≡ suc (p + 1) = omega arith in
      rw (here, past) (at_colon text)
]

-- what follows the first colon
colon_then : (word : Word) (more : List ℕ) (parts : List Part) (text : List ℕ) → (word_bytes word) ≡ 58 ∷ more
    → (starts_with nat_eq [] more && has_parts parts (drop (length more) [])) ≡ false
    → has_parts (Literal word ∷ parts) (drop (position_or_len is_colon text) text)
    ≡ (starts_with nat_eq (after_first is_colon text) more
    && has_parts parts (drop (length more) (after_first is_colon text)))
colon_then word more parts text is nothing =
    literal_first word parts (drop (position_or_len is_colon text) text)
    ∙ rw is (elim (at_colon text) [ inl none ↦ rw (none.0, none.1) (sym nothing) | inr some ↦ rw some refl ])

-- the shape of an ARN, part by part
resource_is_parts : (text : List ℕ)
    → (starts_with nat_eq text (codes "secret:") && has_parts (Run NameBytes 1 519 ∷ []) (drop 7 text))
    ≡ is_resource text
resource_is_parts text = ap (λ b. starts_with nat_eq text (codes "secret:") && b)
    (run_is_run NameBytes 1 519 (drop 7 text))

account_is_parts : (text : List ℕ) → has_parts (Run Digits 12 12 ∷ Literal ResourceType ∷ Run NameBytes 1 519 ∷ []) text
    ≡ is_account_on text
account_is_parts text =
    run_first Digits 12 12 ResourceType (codes "secret:") (Run NameBytes 1 519 ∷ []) text refl refl
    ∙ ap (λ later. is_run (is_in Digits) 12 12 (before_first is_colon text) && later)
    (colon_then ResourceType (codes "secret:") (Run NameBytes 1 519 ∷ []) text refl refl
    ∙ resource_is_parts (after_first is_colon text))

region_is_parts : (text : List ℕ)
    → has_parts (Run RegionBytes 1 32 ∷ Literal Colon ∷ Run Digits 12 12 ∷ Literal ResourceType ∷ Run NameBytes 1 519
    ∷ []) text ≡ is_region_on text
unfolding is_region_byte
region_is_parts text =
    run_first RegionBytes 1 32 Colon [] (Run Digits 12 12 ∷ Literal ResourceType ∷ Run NameBytes 1 519 ∷ []) text refl
    refl
    ∙ ap (λ later. is_run (is_in RegionBytes) 1 32 (before_first is_colon text) && later)
    (colon_then Colon [] (Run Digits 12 12 ∷ Literal ResourceType ∷ Run NameBytes 1 519 ∷ []) text refl refl
    ∙ account_is_parts (after_first is_colon text))

-- an ARN is its parts
pub arn_is_parts : (text : List ℕ)
    → has_parts (Literal ArnStart ∷ Run RegionBytes 1 32 ∷ Literal Colon ∷ Run Digits 12 12 ∷ Literal ResourceType
    ∷ Run NameBytes 1 519 ∷ []) text
    ≡ is_arn text
unfolding is_arn
arn_is_parts text =
    literal_first ArnStart (Run RegionBytes 1 32 ∷ Literal Colon ∷ Run Digits 12 12 ∷ Literal ResourceType
    ∷ Run NameBytes 1 519 ∷ []) text
    ∙ ap (λ later. starts_with nat_eq text (codes "arn:aws:secretsmanager:") && later) (region_is_parts (drop 23 text))

pub arn_refusal : (text : List ℕ) (why : ReadRefused)
    → IsRefusal (has_parts (Literal ArnStart ∷ Run RegionBytes 1 32 ∷ Literal Colon ∷ Run Digits 12 12
    ∷ Literal ResourceType ∷ Run NameBytes 1 519 ∷ [])) text why
    → IsRefusal is_arn text why
arn_refusal text why refused = refusal_same _ is_arn text why arn_is_parts refused

pub region_ends : (not (is_region_byte 58) && true) ≡ true
unfolding is_region_byte
region_ends = refl
