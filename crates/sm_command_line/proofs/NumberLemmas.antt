-- A number that is read from a text.
use Rattle.std.proofs.Common.{◌≡◌, ◌∙◌, ◌<◌, ◌^◌, ◌&&◌, ℕ, Bool, true, false, List, [], ◌∷◌, length, Option, Some}
use Rattle.std.proofs.Common.{None, Result, Ok, Err, refl, ap, nat_lt, if◌then◌else◌}
use Rattle.std.proofs.lemmas.Bool.{ltb-true, lt-ltb}
use Rattle.std.specs.Prelude.{option_and_then}
use Rattle.std.specs.Char.{digit_value}
use Rattle.std.specs.List.{list_all}
use Rattle.std.specs.Str.Parse.{AllDigits, IsNumeral, ParsesUnsigned, digits_value, without_leading_plus}
use Rattle.clap.specs.Matches.{ReadsOne, one_text}
use Rattle.clap.specs.ValueTests.{is_numeral}
use Rattle.clap.specs.Walk.{rows_of}
use Rattle.clap.proofs.WalkLemmas.{both, one_text-rows}
use Rattle.clap.specs.declared.parser.matches.Found.{Found}
use Rattle.sm_command_line.specs.Reading.{number_in, number_of}

digits-tested : (digits : List ℕ) → AllDigits 10 digits → list_all (λ d. nat_lt (digit_value d) 10) digits ≡ true
digits-tested [] all = refl
digits-tested (d ∷ digits) all = rw (lt-ltb (digit_value d) 10 all.0) (digits-tested digits all.1)

is_numeral-true : (digits : List ℕ) → IsNumeral 10 digits → is_numeral digits ≡ true
is_numeral-true digits is = rw (lt-ltb 0 (length digits) is.0) (digits-tested digits is.1)

digits-from_test : (digits : List ℕ) → list_all (λ d. nat_lt (digit_value d) 10) digits ≡ true → AllDigits 10 digits
digits-from_test [] is = tt
digits-from_test (d ∷ digits) is =
    let parts = both _ _ is in
    (ltb-true _ _ parts.0, digits-from_test digits parts.1)

numeral-from_test : (digits : List ℕ) → is_numeral digits ≡ true → IsNumeral 10 digits
numeral-from_test digits is =
    let parts = both _ _ is in
    (ltb-true _ _ parts.0, digits-from_test digits parts.1)

-- no number where the digits are none, or too many
no_number : (bits : ℕ) (digits : List ℕ) → (IsNumeral 10 digits × (digits_value 10 digits < 2 ^ bits) → ⊥)
    → None
    ≡ (if is_numeral digits && nat_lt (digits_value 10 digits) (2 ^ bits) then Some (digits_value 10 digits) else None)
no_number bits digits none = go (is_numeral digits && nat_lt (digits_value 10 digits) (2 ^ bits)) refl
  where
    go : (fits : Bool) → (is_numeral digits && nat_lt (digits_value 10 digits) (2 ^ bits)) ≡ fits
        → None ≡ (if fits then Some (digits_value 10 digits) else None)
    go true is =
        let parts = both _ _ is in
        absurd (none (numeral-from_test digits parts.0, ltb-true _ _ parts.1))
    go false is = refl

module _ {E : Type 0} (bits : ℕ) (gives : List ℕ → Result ℕ E → Type 0)
    (parses : (text : List ℕ) (read : Result ℕ E) → gives text read → ParsesUnsigned bits 10 text read) where
  number_in-reads : (text : List ℕ) (read : Option ℕ) → ReadsOne gives text read → read ≡ number_in bits text
  number_in-reads text (Some number) reads =
      let parsed = parses text (Ok number) reads in
      rw (is_numeral-true _ parsed.0.0, lt-ltb _ _ parsed.0.1) (ap Some parsed.1)
  number_in-reads text None reads =
      no_number bits (without_leading_plus text) (parses text (Err reads.0) reads.1)

  -- what a typed getter reads of an option
  pub number_of-reads : (found : Found) (name : List ℕ) (read : Option ℕ) → (one_text found name ≡ None → read ≡ None)
      → ((text : List ℕ) → one_text found name ≡ Some text → ReadsOne gives text read)
      → read ≡ number_of bits name (rows_of found)
  number_of-reads found name read none some =
      go (one_text found name) refl ∙ ap (option_and_then (number_in bits)) (one_text-rows found name)
    where
      go : (text : Option (List ℕ)) → one_text found name ≡ text → read ≡ option_and_then (number_in bits) text
      go None is = none is
      go (Some text) is = number_in-reads text read (some text is)
