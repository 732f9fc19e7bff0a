-- What makes a codec lawful, and the laws of those that are put together of others.
use Rattle.std.proofs.Common.{◌≡◌, ℕ, ◌+◌, ◌≤◌, ◌&&◌, Bool, cond, IsTrue, is_some, List, [], ◌∷◌, ◌++◌, length, Option, Some, None, Result, refl, sym, ap, subst, ◌∙◌, inl, inr, ◌⊎◌, append_assoc, arith}
use Rattle.std.proofs.lemmas.Bool.{and_parts, and_from}
use Rattle.sm_record.specs.Codec.{IsBytes, Codec, then_read, both, chained, mapped, only, read_byte, coded_as, coded, nothing}
use Rattle.sm_record.proofs.Bytes.{bytes_behind, no_longer, gives, stops, ok_is, err_is, ok_no_err, err_no_ok, bind_ok, bind_err, guard_ok, guard_err}

-- the bytes begin with the spelling of a thing that has one
pub record Begins {A : Type 0} (c : Codec A) (bytes : List ℕ) (a : A) (rest : List ℕ) : Type 0 where
  pub parts : bytes ≡ c.spell a ++ rest
  pub fits : IsTrue (c.fits a)

-- What is read is spelled so and has a spelling; what has a spelling is read again, whatever follows; and the place of
-- what is not read is among the bytes.
pub record Lawful {A : Type 0} (c : Codec A) : Type 0 where
  pub takes : (bytes : List ℕ) (a : A) (rest : List ℕ) → IsBytes bytes → c.read bytes ≡ gives (a, rest)
      → Begins c bytes a rest
  pub again : (a : A) (rest : List ℕ) → IsTrue (c.fits a) → c.read (c.spell a ++ rest) ≡ gives (a, rest)
  pub within : (bytes : List ℕ) (left : ℕ) → IsBytes bytes → c.read bytes ≡ stops left → left ≤ length bytes

-- ---- one thing behind another

module _ {A B : Type 0} (c : Codec A) (d : A → Codec B) (l : Lawful c) (m : (a : A) → Lawful (d a)) where
  chained_takes : (bytes : List ℕ) (x : A × B) (rest : List ℕ) → IsBytes bytes
      → then_read (c.read bytes) (λ a behind. then_read ((d a).read behind) (λ b after. gives ((a, b), after)))
      ≡ gives (x, rest) → Begins (chained c d) bytes x rest
  chained_takes bytes x rest fits e =
      let one = bind_ok (c.read bytes)
      (λ a behind. then_read ((d a).read behind) (λ b after. gives ((a, b), after))) (x, rest) e in
      let two = bind_ok ((d one.0.0).read one.0.1) (λ b after. gives ((one.0.0, b), after)) (x, rest) one.2 in
      let first : Begins c bytes one.0.0 one.0.1 = l.takes bytes one.0.0 one.0.1 fits one.1 in
      let behind : IsBytes one.0.1 = bytes_behind bytes (c.spell one.0.0) one.0.1 fits first.parts in
      let second : Begins (d one.0.0) one.0.1 two.0.0 two.0.1 =
      (m one.0.0).takes one.0.1 two.0.0 two.0.1 behind two.1 in
      let whole : Begins (chained c d) bytes (one.0.0, two.0.0) two.0.1 = record {
        parts = first.parts ∙ ap (λ (t : List ℕ). c.spell one.0.0 ++ t) second.parts
            ∙ sym (append_assoc (c.spell one.0.0) ((d one.0.0).spell two.0.0) two.0.1);
        fits = and_from (c.fits one.0.0) ((d one.0.0).fits two.0.0) first.fits second.fits;
      } in
      subst (λ (y : (A × B) × List ℕ). Begins (chained c d) bytes y.0 y.1)
      (ok_is ((one.0.0, two.0.0), two.0.1) (x, rest) two.2) whole

  chained_again : (x : A × B) (rest : List ℕ) → IsTrue (c.fits x.0 && (d x.0).fits x.1)
      → (chained c d).read ((c.spell x.0 ++ (d x.0).spell x.1) ++ rest) ≡ gives (x, rest)
  chained_again x rest fits =
      let h = and_parts (c.fits x.0) ((d x.0).fits x.1) fits in
      ap (chained c d).read (append_assoc (c.spell x.0) ((d x.0).spell x.1) rest)
      ∙ ap (λ (r : Result (A × List ℕ) ℕ). then_read r
      (λ a behind. then_read ((d a).read behind) (λ b after. gives ((a, b), after))))
      (l.again x.0 ((d x.0).spell x.1 ++ rest) h.0)
      ∙ ap (λ (r : Result (B × List ℕ) ℕ). then_read r (λ b after. gives ((x.0, b), after)))
      ((m x.0).again x.1 rest h.1)

  chained_within : (bytes : List ℕ) (left : ℕ) → IsBytes bytes → (chained c d).read bytes ≡ stops {A = A × B} left
      → left ≤ length bytes
  chained_within bytes left fits e =
      elim (bind_err {B = A × B} (c.read bytes)
      (λ a behind. then_read ((d a).read behind) (λ b after. gives {A = A × B} ((a, b), after))) left e) [
        | inl first ↦ l.within bytes left fits first
        | inr one ↦ second_within bytes left fits one.0 one.1
            (bind_err {B = A × B} ((d one.0.0).read one.0.1) (λ b after. gives {A = A × B} ((one.0.0, b), after)) left
            one.2)
      ]
    where
      second_within : (bytes : List ℕ) (left : ℕ) → IsBytes bytes → (x : A × List ℕ) → c.read bytes ≡ gives x
          → ((d x.0).read x.1 ≡ stops left) ⊎ ((y : B × List ℕ) × ((d x.0).read x.1 ≡ gives y)
          × (gives {A = A × B} ((x.0, y.0), y.1) ≡ stops left)) → left ≤ length bytes
      second_within bytes left fits x first (inl second) =
          let p : Begins c bytes x.0 x.1 = l.takes bytes x.0 x.1 fits first in
          let behind : IsBytes x.1 = bytes_behind bytes (c.spell x.0) x.1 fits p.parts in
          omega (arith, (m x.0).within x.1 left behind second, no_longer bytes (c.spell x.0) x.1 p.parts)
      second_within bytes left fits x first (inr two) =
          absurd (ok_no_err {A = A × B} ((x.0, two.0.0), two.0.1) left two.2)

  pub chained_lawful : Lawful (chained c d)
  chained_lawful = record {
    takes = λ bytes x rest fits e. chained_takes bytes x rest fits e;
    again = λ x rest fits. chained_again x rest fits;
    within = λ bytes left fits e. chained_within bytes left fits e;
  }

pub both_lawful : {A B : Type 0} {c : Codec A} {d : Codec B} → Lawful c → Lawful d → Lawful (both c d)
both_lawful {A} {B} {c} {d} l m = chained_lawful c (λ _. d) l (λ _. m)

-- ---- another thing by other names, where something may be asked of what is renamed

module _ {A B : Type 0} (c : Codec A) (l : Lawful c) (into : A → B) (out : B → A) where
  pub mapped_lawful : ((a : A) → out (into a) ≡ a) → ((b : B) → into (out b) ≡ b) → Lawful (mapped c into out)
  mapped_lawful back there = record {
    takes = λ bytes b rest fits e.
        let one = bind_ok (c.read bytes) (λ a behind. gives (into a, behind)) (b, rest) e in
        let p : Begins c bytes one.0.0 one.0.1 = l.takes bytes one.0.0 one.0.1 fits one.1 in
        let whole : Begins (mapped c into out) bytes (into one.0.0) one.0.1 = record {
          parts = p.parts ∙ ap (λ (a : A). c.spell a ++ one.0.1) (sym (back one.0.0));
          fits = ap c.fits (back one.0.0) ∙ p.fits;
        } in
        subst (λ (y : B × List ℕ). Begins (mapped c into out) bytes y.0 y.1)
        (ok_is (into one.0.0, one.0.1) (b, rest) one.2) whole;
    again = λ b rest fits.
        ap (λ (r : Result (A × List ℕ) ℕ). then_read r (λ a behind. gives (into a, behind))) (l.again (out b) rest fits)
        ∙ ap (λ (y : B). gives (y, rest)) (there b);
    within = λ bytes left fits e.
        elim (bind_err (c.read bytes) (λ a behind. gives (into a, behind)) left e) [
          | inl first ↦ l.within bytes left fits first
          | inr one ↦ absurd (ok_no_err (into one.0.0, one.0.1) left one.2)
        ];
  }

-- ---- the things that pass a test

module _ {A : Type 0} (test : A → Bool) (c : Codec A) (l : Lawful c) where
  pub only_lawful : Lawful (only test c)
  only_lawful = record {
    takes = λ bytes a rest fits e.
        let one = bind_ok (c.read bytes) (λ x behind. cond (test x) (gives (x, behind)) (stops (length bytes)))
        (a, rest) e in
        let g = guard_ok (test one.0.0) one.0 (a, rest) (length bytes) one.2 in
        let p : Begins c bytes one.0.0 one.0.1 = l.takes bytes one.0.0 one.0.1 fits one.1 in
        let whole : Begins (only test c) bytes one.0.0 one.0.1 = record {
          parts = p.parts;
          fits = and_from (test one.0.0) (c.fits one.0.0) g.0 p.fits;
        } in
        subst (λ (y : A × List ℕ). Begins (only test c) bytes y.0 y.1) g.1 whole;
    again = λ a rest fits.
        let h = and_parts (test a) (c.fits a) fits in
        ap (λ (r : Result (A × List ℕ) ℕ). then_read r
        (λ x behind. cond (test x) (gives (x, behind)) (stops (length (c.spell a ++ rest))))) (l.again a rest h.1)
        ∙ ap (λ (b : Bool). cond b (gives (a, rest)) (stops (length (c.spell a ++ rest)))) h.0;
    within = λ bytes left fits e.
        elim (bind_err (c.read bytes) (λ x behind. cond (test x) (gives (x, behind)) (stops (length bytes))) left e) [
          | inl first ↦ l.within bytes left fits first
          | inr one ↦ omega (arith, guard_err (test one.0.0) one.0 (length bytes) left one.2)
        ];
  }

-- ---- a thing that is one byte

coded_ok : {A : Type 0} (o : Option A) (rest : List ℕ) (y : A × List ℕ) → coded_as o rest ≡ gives y
    → (o ≡ Some y.0) × (rest ≡ y.1)
coded_ok None rest y e = absurd (err_no_ok y (length rest + 1) e)
coded_ok (Some a) rest y e =
    let same : (a, rest) ≡ y = ok_is (a, rest) y e in
    (ap (λ x. Some x.0) same, ap (λ x. x.1) same)

coded_err : {A : Type 0} (o : Option A) (rest : List ℕ) (left : ℕ) → coded_as o rest ≡ stops left
    → length rest + 1 ≡ left
coded_err {A} None rest left e = err_is {A = A} (length rest + 1) left e
coded_err (Some a) rest left e = absurd (ok_no_err (a, rest) left e)

module _ {A : Type 0} (byte_of : A → ℕ) (thing_of : ℕ → Option A)
    (inverse : (byte : ℕ) (a : A) → thing_of byte ≡ Some a → byte_of a ≡ byte)
    (same : (a : A) → IsTrue (is_some (thing_of (byte_of a))) → thing_of (byte_of a) ≡ Some a) where
  coded_takes : (bytes : List ℕ) (a : A) (rest : List ℕ)
      → then_read (read_byte bytes) (λ byte behind. coded_as (thing_of byte) behind) ≡ gives (a, rest)
      → Begins (coded byte_of thing_of) bytes a rest
  coded_takes [] a rest e = absurd (err_no_ok (a, rest) 0 e)
  coded_takes (byte ∷ bytes) a rest e =
      let h = coded_ok (thing_of byte) bytes (a, rest) e in
      let of_it : byte_of a ≡ byte = inverse byte a h.0 in
      record {
        parts = ap (λ (b : ℕ). b ∷ bytes) (sym of_it) ∙ ap (λ (t : List ℕ). byte_of a ∷ t) h.1;
        fits = ap (λ (b : ℕ). is_some (thing_of b)) of_it ∙ ap is_some h.0;
      }

  coded_within : (bytes : List ℕ) (left : ℕ)
      → then_read (read_byte bytes) (λ byte behind. coded_as (thing_of byte) behind) ≡ stops left
      → left ≤ length bytes
  coded_within [] left e = omega (arith, err_is {A = A} 0 left e)
  coded_within (byte ∷ bytes) left e = omega (arith, coded_err (thing_of byte) bytes left e)

  pub coded_lawful : Lawful (coded byte_of thing_of)
  coded_lawful = record {
    takes = λ bytes a rest fits e. coded_takes bytes a rest e;
    again = λ a rest fits. ap (λ (o : Option A). coded_as o rest) (same a fits);
    within = λ bytes left fits e. coded_within bytes left e;
  }

pub nothing_lawful : Lawful nothing
nothing_lawful = record {
  takes = λ bytes x rest fits e. record {
    parts = ap (λ (y : Unit {0} × List ℕ). y.1) (ok_is (tt, bytes) (x, rest) e);
    fits = refl;
  };
  again = λ x rest fits. refl;
  within = λ bytes left fits e. absurd (ok_no_err {A = Unit {0}} (tt, bytes) left e);
}
