-- First faults, and refusals, of tests that answer alike.
use Rattle.std.proofs.Common.{◌≡◌, ℕ, ◌+◌, ◌-◌, ◌<◌, Bool, true, List, ◌++◌, take, drop, ap, inl, inr, sym, ◌∙◌, arith}
use Rattle.std.proofs.Math.Seq.{take-add}
use Rattle.std.proofs.lemmas.List.{append_assoc}
use Rattle.std.proofs.lemmas.Bool.{cases_order}
use Rattle.std.proofs.lemmas.Str.{IsUtf8-from_is_utf8}
use Rattle.std.specs.Str.{is_utf8, IsUtf8}
use Rattle.sm_base.specs.FirstFault.{IsFirstFault}
use Rattle.sm_base.specs.Reading.{IsRefusal}
use Rattle.sm_base.specs.declared.spelling.ReadRefused.{ReadRefused}
use Rattle.sm_base.specs.declared.spelling.ReadRefused.TheVariants.{Spelling, Memory}

pub first_fault_same : (f g : List ℕ → Bool) (text : List ℕ) (place : ℕ) → ((t : List ℕ) → f t ≡ g t)
    → IsFirstFault f text place → IsFirstFault g text place
first_fault_same f g text place same fault = record {
  unspelled = λ spelled. fault.unspelled (same text ∙ spelled);
  within = fault.within;
  before = (fault.before.0, sym (same (take place text ++ fault.before.0)) ∙ fault.before.1);
  from_there = λ under w. fault.from_there under (w.0, same (take (place + 1) text ++ w.0) ∙ w.1);
}

pub refusal_same : (f g : List ℕ → Bool) (text : List ℕ) (why : ReadRefused) → ((t : List ℕ) → f t ≡ g t)
    → IsRefusal f text why → IsRefusal g text why
refusal_same f g text (Spelling place) same fault = first_fault_same f g text place same fault
refusal_same f g text Memory same spelled = sym (same text) ∙ spelled

-- bytes that pass the test of UTF-8 are not refused as none
pub utf8_is_text : (bytes : List ℕ) → is_utf8 bytes ≡ true → ¬ IsUtf8 bytes → ⊥
utf8_is_text bytes utf8 refused = refused (IsUtf8-from_is_utf8 bytes utf8)

-- The first fault of a text has one place.
pub first_fault_unique : (f : List ℕ → Bool) (text : List ℕ) (p q : ℕ) → IsFirstFault f text p → IsFirstFault f text q
    → p ≡ q
first_fault_unique f text p q at_p at_q =
    elim (cases_order p q) [
      | inl same ↦ same
      | inr apart ↦ elim apart [
        | inl under ↦ absurd (not_before f text p q at_p at_q under)
        | inr over ↦ absurd (not_before f text q p at_q at_p over)
      ]
    ]
  where
    not_before : (f : List ℕ → Bool) (text : List ℕ) (p q : ℕ) → IsFirstFault f text p → IsFirstFault f text q → p < q
        → ⊥
    not_before f text p q at_p at_q under =
        let more : ℕ = q - (p + 1) in
        let further : List ℕ = take more (drop (p + 1) text) in
        let front : take q text ≡ take (p + 1) text ++ further = ap (λ n. take n text) (omega arith)
        ∙ take-add (p + 1) more text in
        at_p.from_there (omega (arith, at_q.within)) (
          further ++ at_q.before.0,
          ap f (sym (append_assoc (take (p + 1) text) further at_q.before.0)
              ∙ ap (λ t. t ++ at_q.before.0) (sym front)) ∙ at_q.before.1,
        )
