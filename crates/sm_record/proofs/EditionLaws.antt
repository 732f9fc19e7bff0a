-- The laws of what differs between the formats, and of the tag byte of what prunes.
use Rattle.std.proofs.Common.{◌≡◌, ℕ, zero, suc, ◌-◌, ◌<◌, ◌≤◌, ◌==◌, Bool, true, false, cond, IsTrue, nat_le, List, [], ◌∷◌, ◌++◌, length, get_or, drop, Option, Some, None, Result, refl, sym, ap, subst, ◌∙◌, inl, inr, arith, eqb-true}
use Rattle.std.proofs.lemmas.Bool.{leb-true, false≢true}
use Rattle.std.proofs.lemmas.Bool.Decides.{nat_tests}
use Rattle.std.proofs.lemmas.List.{nil_from_length}
use Rattle.sm_record.specs.Codec.{IsBytes, Codec, then_read, read_byte, flagged_tag, flag_of, tag_of, with_flag, flagged}
use Rattle.sm_record.specs.Editions.{is_empty, is_none, unspelled, since, byte_of_mark, mark_of_byte, mark}
use Rattle.sm_record.specs.declared.edition.Edition.{Edition}
use Rattle.sm_record.specs.declared.edition.Edition.TheVariants.{First, Second}
use Rattle.sm_record.proofs.Bytes.{gives, stops, ok_is, err_is, ok_no_err, err_no_ok, bind_ok, bind_err, chosen}
use Rattle.sm_record.proofs.CodecLaws.{Begins, Lawful, coded_lawful, nothing_lawful}

-- ---- what is spelled since the second format

pub empty_only : {A : Type 0} (items : List A) → IsTrue (is_empty items) → items ≡ []
empty_only items is = nil_from_length items (eqb-true (length items) 0 is)

pub none_only : {A : Type 0} (o : Option A) → IsTrue (is_none o) → o ≡ None
none_only None is = refl
none_only (Some a) is = absurd (false≢true is)

module _ {A : Type 0} (absent : A) (is_absent : A → Bool) (c : Codec A) (is : is_absent absent ≡ true)
    (alone : (a : A) → IsTrue (is_absent a) → a ≡ absent) (l : Lawful c) where
  unspelled_lawful : Lawful (unspelled absent is_absent)
  unspelled_lawful = record {
    takes = λ bytes a rest fits e.
        subst (λ (y : A × List ℕ). Begins (unspelled absent is_absent) bytes y.0 y.1)
        (ok_is (absent, bytes) (a, rest) e) (record { parts = refl; fits = is });
    again = λ a rest fits. ap (λ (x : A). gives (x, rest)) (sym (alone a fits));
    within = λ bytes left fits e. absurd (ok_no_err (absent, bytes) left e);
  }

  pub since_lawful : (e : Edition) → Lawful (since absent is_absent c e)
  since_lawful First = unspelled_lawful
  since_lawful Second = l

-- ---- the byte of the second format

no_some : {A : Type 0} (a : A) → None ≡ Some a → ⊥
no_some a e = cc

mark_inverse : (byte : ℕ) (u : Unit {0}) → mark_of_byte byte ≡ Some u → byte_of_mark u ≡ byte
mark_inverse byte u e =
    elim (chosen (byte == 2) (Some tt) None (Some u) e) [
      | inl is ↦ sym (eqb-true byte 2 is.0)
      | inr other ↦ absurd (no_some u other.1)
    ]

pub mark_lawful : (e : Edition) → Lawful (mark e)
unfolding mark
mark_lawful First = nothing_lawful
mark_lawful Second = coded_lawful byte_of_mark mark_of_byte mark_inverse (λ u fits. refl)

-- ---- a truth value in the tag byte

-- the spelling begins with a tag
pub record IsTagged (bytes : List ℕ) : Type 0 where
  pub tag : ℕ
  pub fields : List ℕ
  pub split : bytes ≡ tag ∷ fields
  pub low : tag < 128

flag_again : (flag : Bool) (tag : ℕ) → tag < 128 → flag_of (flagged_tag flag tag) ≡ flag
flag_again true tag low = grind (arith, nat_tests)
flag_again false tag low = grind (arith, nat_tests)

tag_again : (flag : Bool) (tag : ℕ) → tag < 128 → tag_of (flagged_tag flag tag) ≡ tag
tag_again true tag low = rw (flag_again true tag low) (omega arith)
tag_again false tag low = rw (flag_again false tag low) refl

byte_again : (byte : ℕ) → flagged_tag (flag_of byte) (tag_of byte) ≡ byte
byte_again byte = by (nat_le 128 byte) refl
  where
    by : (flag : Bool) → nat_le 128 byte ≡ flag → flagged_tag flag (cond flag (byte - 128) byte) ≡ byte
    by true is = omega (arith, leb-true 128 byte is)
    by false is = refl

tag_is_byte : (byte : ℕ) → byte < 256 → tag_of byte < 256
tag_is_byte byte lt = by (nat_le 128 byte)
  where
    by : (flag : Bool) → cond flag (byte - 128) byte < 256
    by true = omega arith
    by false = lt

module _ {A : Type 0} (c : Codec A) (l : Lawful c) (tags : (a : A) → IsTrue (c.fits a) → IsTagged (c.spell a)) where
  -- what is read behind a tag byte
  abbrev flagged_read : ℕ → List ℕ → Result ((Bool × A) × List ℕ) ℕ
  flagged_read byte bytes = then_read (c.read (tag_of byte ∷ bytes)) (λ a after. gives ((flag_of byte, a), after))

  tag_bytes : (byte : ℕ) (bytes : List ℕ) → IsBytes (byte ∷ bytes) → IsBytes (tag_of byte ∷ bytes)
  tag_bytes byte bytes fits zero = tag_is_byte byte (fits 0)
  tag_bytes byte bytes fits (suc i) = fits (suc i)

  flagged_parts : (byte : ℕ) (bytes : List ℕ) (a : A) (rest : List ℕ) → IsTrue (c.fits a)
      → tag_of byte ∷ bytes ≡ c.spell a ++ rest → byte ∷ bytes ≡ with_flag (flag_of byte) (c.spell a) ++ rest
  flagged_parts byte bytes a rest fits parts =
      let t = tags a fits in
      let same : tag_of byte ∷ bytes ≡ t.tag ∷ (t.fields ++ rest) =
      parts ∙ ap (λ (s : List ℕ). s ++ rest) t.split in
      let tag_is : tag_of byte ≡ t.tag = ap (λ (s : List ℕ). get_or s 0 0) same in
      let rest_is : bytes ≡ t.fields ++ rest = ap (λ (s : List ℕ). drop 1 s) same in
      let byte_is : byte ≡ flagged_tag (flag_of byte) t.tag =
      sym (byte_again byte) ∙ ap (flagged_tag (flag_of byte)) tag_is in
      ap (λ (b : ℕ). b ∷ bytes) byte_is ∙ ap (λ (s : List ℕ). flagged_tag (flag_of byte) t.tag ∷ s) rest_is
      ∙ ap (λ (s : List ℕ). with_flag (flag_of byte) s ++ rest) (sym t.split)

  flagged_takes : (bytes : List ℕ) (x : Bool × A) (rest : List ℕ) → IsBytes bytes
      → then_read (read_byte bytes) flagged_read ≡ gives (x, rest) → Begins (flagged c) bytes x rest
  flagged_takes [] x rest fits e = absurd (err_no_ok (x, rest) 0 e)
  flagged_takes (byte ∷ bytes) x rest fits e =
      let one = bind_ok (c.read (tag_of byte ∷ bytes)) (λ a after. gives ((flag_of byte, a), after)) (x, rest) e in
      let p : Begins c (tag_of byte ∷ bytes) one.0.0 one.0.1 =
      l.takes (tag_of byte ∷ bytes) one.0.0 one.0.1 (tag_bytes byte bytes fits) one.1 in
      let whole : Begins (flagged c) (byte ∷ bytes) (flag_of byte, one.0.0) one.0.1 = record {
        parts = flagged_parts byte bytes one.0.0 one.0.1 p.fits p.parts;
        fits = p.fits;
      } in
      subst (λ (y : (Bool × A) × List ℕ). Begins (flagged c) (byte ∷ bytes) y.0 y.1)
      (ok_is ((flag_of byte, one.0.0), one.0.1) (x, rest) one.2) whole

  flagged_again : (x : Bool × A) (rest : List ℕ) → IsTrue (c.fits x.1)
      → then_read (read_byte (with_flag x.0 (c.spell x.1) ++ rest)) flagged_read ≡ gives (x, rest)
  flagged_again x rest fits =
      let t = tags x.1 fits in
      let byte : ℕ = flagged_tag x.0 t.tag in
      let spelled : with_flag x.0 (c.spell x.1) ++ rest ≡ byte ∷ (t.fields ++ rest) =
      ap (λ (s : List ℕ). with_flag x.0 s ++ rest) t.split in
      let tagged_is : tag_of byte ∷ (t.fields ++ rest) ≡ c.spell x.1 ++ rest =
      ap (λ (b : ℕ). b ∷ (t.fields ++ rest)) (tag_again x.0 t.tag t.low)
      ∙ ap (λ (s : List ℕ). s ++ rest) (sym t.split) in
      ap (λ (s : List ℕ). then_read (read_byte s) flagged_read) spelled
      ∙ ap (λ (s : List ℕ). then_read (c.read s) (λ a after. gives ((flag_of byte, a), after))) tagged_is
      ∙ ap (λ (r : Result (A × List ℕ) ℕ). then_read r (λ a after. gives ((flag_of byte, a), after)))
      (l.again x.1 rest fits)
      ∙ ap (λ (f : Bool). gives ((f, x.1), rest)) (flag_again x.0 t.tag t.low)

  flagged_within : (bytes : List ℕ) (left : ℕ) → IsBytes bytes
      → then_read (read_byte bytes) flagged_read ≡ stops left → left ≤ length bytes
  flagged_within [] left fits e = omega (arith, err_is {A = Bool × A} 0 left e)
  flagged_within (byte ∷ bytes) left fits e =
      elim (bind_err (c.read (tag_of byte ∷ bytes)) (λ a after. gives ((flag_of byte, a), after)) left e) [
        | inl first ↦ omega (arith, l.within (tag_of byte ∷ bytes) left (tag_bytes byte bytes fits) first)
        | inr one ↦ absurd (ok_no_err ((flag_of byte, one.0.0), one.0.1) left one.2)
      ]

  pub flagged_lawful : Lawful (flagged c)
  flagged_lawful = record {
    takes = λ bytes x rest fits e. flagged_takes bytes x rest fits e;
    again = λ x rest fits. flagged_again x rest fits;
    within = λ bytes left fits e. flagged_within bytes left fits e;
  }
