-- A run of bytes, as a part.
use Rattle.std.proofs.Common.{◌≡◌, ℕ, zero, suc, ◌+◌, ◌<◌, ◌≤◌, Bool, true, false, ◌&&◌, List, [], ◌∷◌, length, drop, nat_lt, nat_le, refl, sym, ap, ◌∙◌, inl, inr, arith, add-one}
use Rattle.std.proofs.lemmas.List.{drop_all, length-drop}
use Rattle.std.proofs.lemmas.Bool.{cases_Bool, cases_lt, and_parts, and_from, lt-ltb, ltb-true, le-leb, leb-true, false≢true}
use Rattle.std.specs.List.{list_all}
use Rattle.sm_base.specs.declared.parts.Alphabet.{Alphabet}
use Rattle.sm_base.specs.declared.parts.Alphabet.TheVariants.{NameBytes, TokenBytes}
use Rattle.sm_base.specs.declared.parts.Part.TheVariants.{Run}
use Rattle.sm_base.specs.Spelling.{is_run, is_name, is_token}
use Rattle.sm_base.specs.Parts.{is_in, admits, reach, reach_from, has_parts}
use Rattle.sm_base.specs.Reading.{IsRefusal}
use Rattle.sm_base.specs.declared.spelling.ReadRefused.{ReadRefused}
use Rattle.sm_base.proofs.FaultLemmas.{refusal_same}
use Rattle.sm_base.proofs.PartLemmas.{reach_step, reach_stop, reach_within}

-- two tests that follow from each other
pub same_tests : (a b : Bool) → (a ≡ true → b ≡ true) → (b ≡ true → a ≡ true) → a ≡ b
same_tests true b to back = sym (to refl)
same_tests false true to back = back refl
same_tests false false to back = refl

pub run_taken : (alphabet : Alphabet) (low high place : ℕ) (text : List ℕ) → list_all (is_in alphabet) text ≡ true
    → place + length text ≤ high
    → reach_from (Run alphabet low high) place text ≡ length text
run_taken alphabet low high place [] all room = refl
run_taken alphabet low high place (byte ∷ text) all room =
    let both = and_parts (is_in alphabet byte) (list_all (is_in alphabet) text) all in
    reach_step (Run alphabet low high) place byte text (and_from _ _ (lt-ltb place high (omega arith)) both.0)
    ∙ ap (λ n. n + 1) (run_taken alphabet low high (place + 1) text both.1 (omega arith)) ∙ add-one (length text)

pub taken_run : (alphabet : Alphabet) (low high place : ℕ) (text : List ℕ)
    → reach_from (Run alphabet low high) place text ≡ length text
    → (list_all (is_in alphabet) text ≡ true) × (0 < length text → place + length text ≤ high)
taken_run alphabet low high place [] taken = (refl, λ some. absurd (omega arith))
taken_run alphabet low high place (byte ∷ text) taken =
    elim (cases_Bool (admits (Run alphabet low high) place byte)) [
      | inl admitted ↦
          let part = Run alphabet low high in
          let both = and_parts (nat_lt place high) (is_in alphabet byte) admitted in
          let here : place < high = ltb-true place high both.0 in
          let step = reach_step part place byte text admitted in
          let rest = taken_run alphabet low high (place + 1) text (omega (arith, step, taken)) in
          (and_from _ _ both.1 rest.0, λ some. run_room place high (length text) here rest.1)
      | inr refused ↦ absurd (omega (arith, reach_stop (Run alphabet low high) place byte text refused, taken))
    ]
  where
    run_room : (place high more : ℕ) → place < high → (0 < more → place + 1 + more ≤ high) → place + suc more ≤ high
    run_room place high zero here room = omega arith
    run_room place high (suc more) here room = omega (arith, room (omega arith))

pub room_for_all : (n high : ℕ) → (0 < n → 0 + n ≤ high) → n ≤ high
room_for_all n high room = elim (cases_lt 0 n) [ inl some ↦ omega (arith, room some) | inr none ↦ omega arith ]

nothing_left : (rest : List ℕ) → has_parts [] rest ≡ true → length rest ≡ 0
nothing_left [] has = refl
nothing_left (byte ∷ rest) has = absurd (false≢true has)

-- a run alone is a text of so many bytes of the alphabet
pub run_is_run : (alphabet : Alphabet) (low high : ℕ) (text : List ℕ)
    → has_parts (Run alphabet low high ∷ []) text ≡ is_run (is_in alphabet) low high text
run_is_run alphabet low high text = same_tests _ _ to back
  where
    n : ℕ
    n = reach (Run alphabet low high) text

    to : has_parts (Run alphabet low high ∷ []) text ≡ true → is_run (is_in alphabet) low high text ≡ true
    to has =
        let both = and_parts (nat_le low n) (has_parts [] (drop n text)) has in
        let all : n ≡ length text =
        omega (
          arith,
          nothing_left (drop n text) both.1,
          length-drop n text,
          reach_within
              (Run alphabet low high) 0 text,
        ) in
        let run = taken_run alphabet low high 0 text all in
        and_from _ _ (and_from _ _ (le-leb low (length text) (omega (arith, leb-true low n both.0)))
        (le-leb (length text) high (fits run.1))) run.0
      where
        fits : (0 < length text → 0 + length text ≤ high) → length text ≤ high
        fits room = elim (cases_lt 0 (length text)) [ inl some ↦ omega (arith, room some) | inr none ↦ omega arith ]

    back : is_run (is_in alphabet) low high text ≡ true → has_parts (Run alphabet low high ∷ []) text ≡ true
    back run =
        let both = and_parts (nat_le low (length text) && nat_le (length text) high)
        (list_all (is_in alphabet) text) run in
        let bounds = and_parts (nat_le low (length text)) (nat_le (length text) high) both.0 in
        let all : n ≡ length text = run_taken alphabet low high 0 text both.1
        (omega (arith, leb-true (length text) high bounds.1)) in
        rw (all, drop_all (length text) text (omega arith)) (and_from _ _ bounds.0 refl)

-- a name is a run of its bytes, and so is a token
pub name_is_run : (text : List ℕ) → has_parts (Run NameBytes 1 512 ∷ []) text ≡ is_name text
unfolding is_name
name_is_run text = run_is_run NameBytes 1 512 text

pub token_is_run : (text : List ℕ) → has_parts (Run TokenBytes 32 64 ∷ []) text ≡ is_token text
unfolding is_token
token_is_run text = run_is_run TokenBytes 32 64 text

pub name_refusal : (text : List ℕ) (why : ReadRefused) → IsRefusal (has_parts (Run NameBytes 1 512 ∷ [])) text why
    → IsRefusal is_name text why
name_refusal text why refused = refusal_same _ is_name text why name_is_run refused

pub token_refusal : (text : List ℕ) (why : ReadRefused) → IsRefusal (has_parts (Run TokenBytes 32 64 ∷ [])) text why
    → IsRefusal is_token text why
token_refusal text why refused = refusal_same _ is_token text why token_is_run refused
