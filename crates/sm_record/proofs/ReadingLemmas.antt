-- What readers learn of what they call, and reading and writing of items as a loop does it.
use Rattle.std.proofs.Common.{◌≡◌, ℕ, zero, suc, ◌+◌, ◌-◌, ◌<◌, ◌≤◌, Bool, true, false, cond, nat_le, IsTrue, IsUtf8, Some, None, is_some, List, [], ◌∷◌, ◌++◌, length, take, get_or, flat_map, Result, Ok, Err, refl, sym, ap, ◌∙◌, append_assoc, append-nil, arith}
use Rattle.std.specs.List.{list_all}
use Rattle.std.specs.Str.{is_utf8}
use Rattle.std.proofs.lemmas.Bool.{false_from_ne_true, and_parts, leb-true}
use Rattle.std.proofs.lemmas.List.{take_more}
use Rattle.std.proofs.lemmas.List.Concat.{flat_map-append}
use Rattle.std.proofs.lemmas.Str.{IsUtf8-from_is_utf8, is_utf8-from_IsUtf8}
use Rattle.sm_base.specs.FirstFault.{IsFirstFault}
use Rattle.sm_model.specs.Bounds.{is_attempt}
use Rattle.sm_base.specs.declared.limits.TheConstants.{ATTEMPTS_LIMIT}
use Rattle.sm_record.specs.Codec.{Codec, then_read, read_items}
use Rattle.sm_record.specs.Fields.{attempt_of_byte}
use Rattle.sm_record.specs.Reading.{Fails}
use Rattle.sm_record.specs.declared.unread.Unread.{Unread}
use Rattle.sm_record.specs.declared.unread.Unread.TheVariants.{Left, Memory}

-- ---- tests of texts

pub utf8_passes : (bytes : List ℕ) → IsUtf8 bytes → is_utf8 bytes ≡ true
utf8_passes bytes utf8 = is_utf8-from_IsUtf8 bytes utf8

pub utf8_fails : (bytes : List ℕ) → ¬ IsUtf8 bytes → is_utf8 bytes ≡ false
utf8_fails bytes none = false_from_ne_true (is_utf8 bytes) (λ utf8. none (IsUtf8-from_is_utf8 bytes utf8))

pub fault_fails : (test : List ℕ → Bool) (bytes : List ℕ) (place : ℕ) → IsFirstFault test bytes place
    → test bytes ≡ false
fault_fails test bytes place fault = false_from_ne_true (test bytes) fault.unspelled

-- ---- items that are read one after the other

-- what was read before, and what is still read
abbrev pub with_front : {A : Type 0} → List A → Result (List A × List ℕ) ℕ → Result (List A × List ℕ) ℕ
with_front front read = then_read read (λ items rest. Ok (front ++ items, rest))

module _ {A : Type 0} where
  regroup : (front : List A) (a : A) (read : Result (List A × List ℕ) ℕ)
      → with_front front (then_read read (λ items rest. Ok (a ∷ items, rest))) ≡ with_front (front ++ a ∷ []) read
  regroup front a (Ok x) = ap (λ (items : List A). Ok (items, x.1)) (sym (append_assoc front (a ∷ []) x.0))
  regroup front a (Err left) = refl

module _ {A : Type 0} (c : Codec A) (front : List A) (count i : ℕ) (bytes : List ℕ)
    (all : Result (List A × List ℕ) ℕ) where
  pub goes_on : (a : A) (rest : List ℕ) → i < count → c.read bytes ≡ Ok (a, rest)
      → with_front front (read_items c (count - i) bytes) ≡ all
      → with_front (front ++ a ∷ []) (read_items c (count - (i + 1)) rest) ≡ all
  unfolding read_items
  goes_on a rest lt h so_far =
      let k : count - i ≡ suc (count - (i + 1)) = omega arith in
      let one : with_front front (read_items c (count - i) bytes)
      ≡ with_front (front ++ a ∷ []) (read_items c (count - (i + 1)) rest) =
      rw (k, h) (regroup front a (read_items c (count - (i + 1)) rest)) in
      sym one ∙ so_far

  pub ends : (e : Unread) → i < count → Fails e (c.read bytes)
      → with_front front (read_items c (count - i) bytes) ≡ all → Fails e all
  unfolding read_items
  ends Memory lt h so_far = tt
  ends (Left left) lt h so_far =
      let k : count - i ≡ suc (count - (i + 1)) = omega arith in
      let one : with_front front (read_items c (count - i) bytes) ≡ Err left = rw (k, h) refl in
      sym so_far ∙ one

  pub is_done : count ≤ i → with_front front (read_items c (count - i) bytes) ≡ all → all ≡ Ok (front, bytes)
  unfolding read_items
  is_done le so_far =
      let k : count - i ≡ 0 = omega arith in
      let one : with_front front (read_items c (count - i) bytes) ≡ Ok (front, bytes) =
      rw k (ap (λ (items : List A). Ok (items, bytes)) (append-nil front)) in
      sym so_far ∙ one

-- ---- items that are written one after the other

pub item_fits : {A : Type 0} (test : A → Bool) (items : List A) (i : ℕ) (d : A) → i < length items
    → IsTrue (list_all test items) → IsTrue (test (get_or items i d))
item_fits test [] i d lt fits = absurd (omega arith)
item_fits test (a ∷ items) zero d lt fits = (and_parts (test a) (list_all test items) fits).0
item_fits test (a ∷ items) (suc i) d lt fits =
    item_fits test items i d (omega arith) (and_parts (test a) (list_all test items) fits).1

pub one_more_written : {A : Type 0} (spell : A → List ℕ) (items : List A) (i : ℕ) (a : A) → i < length items
    → a ≡ get_or items i a
    → flat_map spell (take (i + 1) items) ≡ flat_map spell (take i items) ++ spell a
one_more_written spell items i a lt at =
    ap (flat_map spell) (take_more items i a lt)
    ∙ flat_map-append spell (take i items) (get_or items i a ∷ [])
    ∙ ap (λ (t : List ℕ). flat_map spell (take i items) ++ t)
    (append-nil (spell (get_or items i a)) ∙ ap spell (sym at))

-- ---- attempts

-- an attempt that has a spelling is a byte
pub attempt_is_byte : (n : ℕ) → IsTrue (is_some (attempt_of_byte n)) → n < 256
attempt_is_byte n fits = byte_if (is_attempt n) refl fits
  where
    byte_if : (test : Bool) → is_attempt n ≡ test → IsTrue (is_some (cond test (Some n) None)) → n < 256
    byte_if true here h =
        omega (arith, leb-true n ATTEMPTS_LIMIT (and_parts (nat_le 1 n) (nat_le n ATTEMPTS_LIMIT) here).1)
    byte_if false here h = absurd cc
