-- The laws of fields.
use Rattle.std.proofs.Common.{◌≡◌, ℕ, suc, ◌-◌, ◌^◌, ◌<◌, ◌≤◌, ◌==◌, Bool, true, false, cond, IsTrue, is_some, ltb, nat_le, List, ◌++◌, length, take, drop, flat_map, ℤ, pos, negsuc, Some, None, Result, refl, sym, ap, subst, ◌∙◌, inl, inr, append_assoc, arith, length-append, length-take, take-append-drop, take_at, drop_at, get_or-take}
use Rattle.std.specs.List.{list_all}
use Rattle.std.specs.Int.{Width, w32, w64, byte_len, from_be_bytes, to_be_bytes, cast_signed, cast_unsigned}
use Rattle.std.specs.Str.{is_utf8}
use Rattle.std.proofs.lemmas.Bool.{and_parts, and_from, ltb-true, ltb-false, le-ltb, lt-ltb, cases_lt, eqb-true}
use Rattle.std.proofs.lemmas.List.{get_or_past}
use Rattle.std.proofs.lemmas.Nat.{be_bytes_4, be_bytes_8, from_be_bytes-to_be_bytes_4, from_be_bytes-to_be_bytes_8}
use Rattle.std.proofs.lemmas.Int.{of_z-to_z}
use Rattle.sm_base.specs.Spelling.{is_arn, is_token}
use Rattle.sm_base.specs.declared.moment.TheConstants.{LAST_READING}
use Rattle.sm_model.specs.Bounds.{is_attempt}
use Rattle.sm_model.specs.declared.rows.Stage.{Stage}
use Rattle.sm_model.specs.declared.rows.Stage.TheVariants as stages
use Rattle.sm_model.specs.declared.value.Value.{Value}
use Rattle.sm_model.specs.declared.value.Value.TheVariants as values
use Rattle.sm_record.specs.Codec.{IsBytes, Codec, then_read, read_byte, both, only, arm, no_arm, optional, read_items}
use Rattle.sm_record.specs.Editions.{is_none}
use Rattle.sm_record.specs.declared.edition.Edition.{Edition}
use Rattle.sm_record.specs.Fields.{number, count, long, is_i64, signed, moment, octets, text, arn, token, listed, byte_of_truth, truth_of_byte, truth, byte_of_stage, stage_of_byte, stage, attempt_of_byte, attempt, spell_value, fits_value, value, tag, schedule, rotation_rules}
use Rattle.sm_record.proofs.Bytes.{bytes_behind, no_longer, gives, stops, ok_is, ok_no_err, bind_ok, bind_err, chosen, unless_ok, unless_err}
use Rattle.sm_record.proofs.CodecLaws.{Begins, Lawful, both_lawful, mapped_lawful, only_lawful, coded_lawful}
use Rattle.sm_record.proofs.ArmLaws.{Arms, no_arms, arm_laws, tagged_lawful, optional_lawful}
use Rattle.sm_record.proofs.EditionLaws.{since_lawful, none_only}
use Rattle.sm_record.proofs.ListLaws.{BeginsWithItems, items_take, items_again, items_within}

-- ---- numbers

bytes_taken : (n : ℕ) (bytes : List ℕ) → IsBytes bytes → IsBytes (take n bytes)
bytes_taken n bytes h i =
    elim (cases_lt i n) [
      | inl lt ↦ rw (get_or-take n bytes i 0 lt) (h i)
      | inr le ↦ rw (get_or_past (take n bytes) i 0 (omega (arith, length-take n bytes))) (omega arith)
    ]

-- a width holds the numbers below a limit
record IsWide (width : Width) (limit : ℕ) : Type 0 where
  len : (n : ℕ) → length (to_be_bytes width n) ≡ byte_len width
  back : (bytes : List ℕ) → length bytes ≡ byte_len width → IsBytes bytes
      → to_be_bytes width (from_be_bytes width bytes) ≡ bytes
  again : (n : ℕ) → n < limit → from_be_bytes width (to_be_bytes width n) ≡ n
  below : (bytes : List ℕ) → IsBytes bytes → from_be_bytes width bytes < limit

wide32 : IsWide w32 (2 ^ 32)
wide32 = record {
  len = λ n. refl;
  back = λ bytes len fits. be_bytes_4 bytes _ len fits refl;
  again = λ n lt. from_be_bytes-to_be_bytes_4 n lt;
  below = λ bytes fits. omega (arith, fits 0, fits 1, fits 2, fits 3);
}

wide64 : IsWide w64 (2 ^ 64)
wide64 = record {
  len = λ n. refl;
  back = λ bytes len fits. be_bytes_8 bytes _ len fits refl;
  again = λ n lt. from_be_bytes-to_be_bytes_8 n lt;
  below = λ bytes fits. omega (arith, fits 0, fits 1, fits 2, fits 3, fits 4, fits 5, fits 6, fits 7);
}

module _ (width : Width) (limit : ℕ) (wide : IsWide width limit) where
  number_takes : (bytes : List ℕ) (n : ℕ) (rest : List ℕ) → IsBytes bytes
      → cond (ltb (length bytes) (byte_len width)) (stops (length bytes))
      (gives (from_be_bytes width (take (byte_len width) bytes), drop (byte_len width) bytes)) ≡ gives (n, rest)
      → Begins (number width limit) bytes n rest
  number_takes bytes n rest fits e =
      let g = unless_ok (ltb (length bytes) (byte_len width))
      (from_be_bytes width (take (byte_len width) bytes), drop (byte_len width) bytes) (n, rest) (length bytes) e in
      let long_enough : byte_len width ≤ length bytes = ltb-false (length bytes) (byte_len width) g.0 in
      let front_fits : IsBytes (take (byte_len width) bytes) = bytes_taken (byte_len width) bytes fits in
      let front_length : length (take (byte_len width) bytes) ≡ byte_len width =
      omega (arith, length-take (byte_len width) bytes) in
      let whole : Begins (number width limit) bytes (from_be_bytes width (take (byte_len width) bytes))
      (drop (byte_len width) bytes) = record {
        parts = sym (take-append-drop (byte_len width) bytes)
            ∙ ap (λ (t : List ℕ). t ++ drop (byte_len width) bytes)
            (sym (wide.back (take (byte_len width) bytes) front_length front_fits));
        fits = lt-ltb (from_be_bytes width (take (byte_len width) bytes)) limit
            (wide.below (take (byte_len width) bytes) front_fits);
      } in
      subst (λ (y : ℕ × List ℕ). Begins (number width limit) bytes y.0 y.1) g.1 whole

  number_again : (n : ℕ) (rest : List ℕ) → IsTrue (ltb n limit)
      → (number width limit).read (to_be_bytes width n ++ rest) ≡ gives (n, rest)
  number_again n rest fits =
      let len = wide.len n in
      let long_enough : ltb (length (to_be_bytes width n ++ rest)) (byte_len width) ≡ false =
      le-ltb _ _ (omega (arith, len, length-append (to_be_bytes width n) rest)) in
      rw (
        long_enough,
        take_at (to_be_bytes width n) rest (byte_len width) len,
        drop_at (to_be_bytes width n) rest (byte_len width) len,
        wide.again n (ltb-true n limit fits),
      ) refl

  number_within : (bytes : List ℕ) (left : ℕ)
      → cond (ltb (length bytes) (byte_len width)) (stops (length bytes))
      (gives (from_be_bytes width (take (byte_len width) bytes), drop (byte_len width) bytes)) ≡ stops left
      → left ≤ length bytes
  number_within bytes left e =
      omega (
        arith,
        unless_err (ltb (length bytes) (byte_len width))
            (from_be_bytes width (take (byte_len width) bytes), drop (byte_len width) bytes) (length bytes) left e,
      )

  number_lawful : Lawful (number width limit)
  number_lawful = record {
    takes = λ bytes n rest fits e. number_takes bytes n rest fits e;
    again = λ n rest fits. number_again n rest fits;
    within = λ bytes left fits e. number_within bytes left e;
  }

pub count_lawful : Lawful count
unfolding count
count_lawful = number_lawful w32 (2 ^ 32) wide32

pub long_lawful : Lawful long
unfolding long
long_lawful = number_lawful w64 (2 ^ 64) wide64

pub long_below : (n : ℕ) → IsTrue (long.fits n) → n < 2 ^ 64
unfolding long
long_below n fits = ltb-true n (2 ^ 64) fits

long_above : (n : ℕ) → n < 2 ^ 64 → IsTrue (long.fits n)
unfolding long
long_above n lt = lt-ltb n (2 ^ 64) lt

-- ---- signed numbers

-- half of the numbers of 64 bits stand for themselves, and the others for those below 0
halves : (n : ℕ) → n < 2 ^ 64 → IsTrue (is_i64 (cast_signed w64 n))
halves n lt =
    elim (cases_lt n (2 ^ 63)) [
      | inl low ↦ rw (lt-ltb n (2 ^ 63) low) (lt-ltb n (2 ^ 63) low)
      | inr high ↦ rw (le-ltb n (2 ^ 63) high) (lt-ltb (2 ^ 64 - suc n) (2 ^ 63) (omega arith))
    ]

spelled_below : (z : ℤ) → IsTrue (is_i64 z) → cast_unsigned w64 z < 2 ^ 64
spelled_below (pos n) fits = omega (arith, ltb-true n (2 ^ 63) fits)
spelled_below (negsuc n) fits = omega arith

cast_again : (z : ℤ) → IsTrue (is_i64 z) → cast_signed w64 (cast_unsigned w64 z) ≡ z
cast_again (pos n) fits = rw (lt-ltb n (2 ^ 63) (ltb-true n (2 ^ 63) fits)) refl
cast_again (negsuc n) fits =
    let lt : n < 2 ^ 63 = ltb-true n (2 ^ 63) fits in
    let high : 2 ^ 63 ≤ 2 ^ 64 - suc n = omega arith in
    let same : 2 ^ 64 - suc (2 ^ 64 - suc n) ≡ n = omega arith in
    rw (le-ltb (2 ^ 64 - suc n) (2 ^ 63) high) (ap negsuc same)

pub signed_lawful : Lawful signed
unfolding signed
signed_lawful = record {
  takes = λ bytes z rest fits e.
      let one = bind_ok (long.read bytes) (λ n behind. gives (cast_signed w64 n, behind)) (z, rest) e in
      let p : Begins long bytes one.0.0 one.0.1 = long_lawful.takes bytes one.0.0 one.0.1 fits one.1 in
      let lt : one.0.0 < 2 ^ 64 = long_below one.0.0 p.fits in
      let whole : Begins signed bytes (cast_signed w64 one.0.0) one.0.1 = record {
        parts = p.parts ∙ ap (λ (n : ℕ). long.spell n ++ one.0.1) (sym (of_z-to_z w64 one.0.0 lt));
        fits = halves one.0.0 lt;
      } in
      subst (λ (y : ℤ × List ℕ). Begins signed bytes y.0 y.1)
      (ok_is (cast_signed w64 one.0.0, one.0.1) (z, rest) one.2) whole;
  again = λ z rest fits.
      ap (λ (r : Result (ℕ × List ℕ) ℕ). then_read r (λ n behind. gives (cast_signed w64 n, behind)))
      (long_lawful.again (cast_unsigned w64 z) rest (long_above (cast_unsigned w64 z) (spelled_below z fits)))
      ∙ ap (λ (y : ℤ). gives (y, rest)) (cast_again z fits);
  within = λ bytes left fits e.
      elim (bind_err (long.read bytes) (λ n behind. gives (cast_signed w64 n, behind)) left e) [
        | inl first ↦ long_lawful.within bytes left fits first
        | inr one ↦ absurd (ok_no_err (cast_signed w64 one.0.0, one.0.1) left one.2)
      ];
}

pub moment_lawful : Lawful moment
unfolding moment
moment_lawful = mapped_lawful (only (λ n. nat_le n LAST_READING) long)
    (only_lawful (λ n. nat_le n LAST_READING) long long_lawful) (λ n. record { 0 = n }) (λ m. m.0)
    (λ _. refl) (λ _. refl)

-- ---- bytes and texts

octets_take : (bytes : List ℕ) (item : List ℕ) (rest : List ℕ) → IsBytes bytes
    → then_read (count.read bytes) (λ n behind.
    cond (ltb (length behind) n) (stops (length bytes)) (gives (take n behind, drop n behind)))
    ≡ gives (item, rest) → Begins octets bytes item rest
unfolding octets
octets_take bytes item rest fits e =
    let one = bind_ok (count.read bytes) (λ n behind.
    cond (ltb (length behind) n) (stops (length bytes)) (gives (take n behind, drop n behind))) (item, rest) e in
    let g = unless_ok (ltb (length one.0.1) one.0.0) (take one.0.0 one.0.1, drop one.0.0 one.0.1) (item, rest)
    (length bytes) one.2 in
    let p : Begins count bytes one.0.0 one.0.1 = count_lawful.takes bytes one.0.0 one.0.1 fits one.1 in
    let enough : one.0.0 ≤ length one.0.1 = ltb-false (length one.0.1) one.0.0 g.0 in
    let len : length (take one.0.0 one.0.1) ≡ one.0.0 = omega (arith, length-take one.0.0 one.0.1) in
    let whole : Begins octets bytes (take one.0.0 one.0.1) (drop one.0.0 one.0.1) = record {
      parts = p.parts
          ∙ ap (λ (t : List ℕ). count.spell one.0.0 ++ t) (sym (take-append-drop one.0.0 one.0.1))
          ∙ sym (append_assoc (count.spell one.0.0) (take one.0.0 one.0.1) (drop one.0.0 one.0.1))
          ∙ ap (λ (k : ℕ). (count.spell k ++ take one.0.0 one.0.1) ++ drop one.0.0 one.0.1) (sym len);
      fits = ap count.fits len ∙ p.fits;
    } in
    subst (λ (y : List ℕ × List ℕ). Begins octets bytes y.0 y.1) g.1 whole

pub octets_lawful : Lawful octets
unfolding octets
octets_lawful = record {
  takes = λ bytes item rest fits e. octets_take bytes item rest fits e;
  again = λ item rest fits.
      let enough : ltb (length (item ++ rest)) (length item) ≡ false =
      le-ltb _ _ (omega (arith, length-append item rest)) in
      ap octets.read (append_assoc (count.spell (length item)) item rest)
      ∙ ap (λ (r : Result (ℕ × List ℕ) ℕ). then_read r (λ n behind.
      cond (ltb (length behind) n) (stops (length (count.spell (length item) ++ (item ++ rest))))
      (gives (take n behind, drop n behind)))) (count_lawful.again (length item) (item ++ rest) fits)
      ∙ rw (enough, take_at item rest (length item) refl, drop_at item rest (length item) refl) refl;
  within = λ bytes left fits e.
      elim (bind_err (count.read bytes) (λ n behind.
      cond (ltb (length behind) n) (stops (length bytes)) (gives (take n behind, drop n behind))) left e) [
        | inl first ↦ count_lawful.within bytes left fits first
        | inr one ↦ omega (
          arith,
          unless_err (ltb (length one.0.1) one.0.0)
              (take one.0.0 one.0.1, drop one.0.0 one.0.1) (length bytes) left one.2,
        )
      ];
}

pub text_lawful : Lawful text
unfolding text
text_lawful = only_lawful is_utf8 octets octets_lawful

pub arn_lawful : Lawful arn
unfolding arn
arn_lawful = only_lawful is_arn octets octets_lawful

pub token_lawful : Lawful token
unfolding token
token_lawful = only_lawful is_token octets octets_lawful

-- ---- lists

module _ {A : Type 0} (c : Codec A) (l : Lawful c) where
  listed_takes : (bytes : List ℕ) (items : List A) (rest : List ℕ) → IsBytes bytes
      → then_read (count.read bytes) (λ n behind. read_items c n behind) ≡ gives (items, rest)
      → Begins (listed c) bytes items rest
  unfolding listed
  listed_takes bytes items rest fits e =
      let one = bind_ok (count.read bytes) (λ n behind. read_items c n behind) (items, rest) e in
      let p : Begins count bytes one.0.0 one.0.1 = count_lawful.takes bytes one.0.0 one.0.1 fits one.1 in
      let behind : IsBytes one.0.1 = bytes_behind bytes (count.spell one.0.0) one.0.1 fits p.parts in
      let q : BeginsWithItems c one.0.0 one.0.1 items rest =
      items_take c l one.0.0 one.0.1 items rest behind one.2 in
      record {
        parts = p.parts ∙ ap (λ (t : List ℕ). count.spell one.0.0 ++ t) q.parts
            ∙ sym (append_assoc (count.spell one.0.0) (flat_map c.spell items) rest)
            ∙ ap (λ (k : ℕ). (count.spell k ++ flat_map c.spell items) ++ rest) (sym q.count);
        fits = and_from (count.fits (length items)) (list_all c.fits items) (ap count.fits q.count ∙ p.fits) q.fits;
      }

  pub listed_lawful : Lawful (listed c)
  unfolding listed
  listed_lawful = record {
    takes = λ bytes items rest fits e. listed_takes bytes items rest fits e;
    again = λ items rest fits.
        let h = and_parts (count.fits (length items)) (list_all c.fits items) fits in
        ap (λ (bytes : List ℕ). then_read (count.read bytes) (λ n behind. read_items c n behind))
        (append_assoc (count.spell (length items)) (flat_map c.spell items) rest)
        ∙ ap (λ (r : Result (ℕ × List ℕ) ℕ). then_read r (λ n behind. read_items c n behind))
        (count_lawful.again (length items) (flat_map c.spell items ++ rest) h.0)
        ∙ items_again c l items rest h.1;
    within = λ bytes left fits e.
        elim (bind_err (count.read bytes) (λ n behind. read_items c n behind) left e) [
          | inl first ↦ count_lawful.within bytes left fits first
          | inr one ↦
              let p : Begins count bytes one.0.0 one.0.1 = count_lawful.takes bytes one.0.0 one.0.1 fits one.1 in
              let behind : IsBytes one.0.1 = bytes_behind bytes (count.spell one.0.0) one.0.1 fits p.parts in
              omega (
                arith,
                items_within c l one.0.0 one.0.1 left behind one.2,
                no_longer bytes (count.spell one.0.0) one.0.1 p.parts,
              )
        ];
  }

-- ---- single bytes

-- a choice of nothing
no_some : {A : Type 0} (a : A) → None ≡ Some a → ⊥
no_some a e = cc

some_is : {A : Type 0} (a b : A) → Some a ≡ Some b → a ≡ b
some_is a b e = cc

truth_inverse : (byte : ℕ) (t : Bool) → truth_of_byte byte ≡ Some t → byte_of_truth t ≡ byte
truth_inverse byte t e =
    elim (chosen (byte == 0) (Some false) (cond (byte == 1) (Some true) None) (Some t) e) [
      | inl zero_is ↦ ap byte_of_truth (sym (some_is false t zero_is.1)) ∙ sym (eqb-true byte 0 zero_is.0)
      | inr more ↦ elim (chosen (byte == 1) (Some true) None (Some t) more.1) [
        | inl one_is ↦ ap byte_of_truth (sym (some_is true t one_is.1)) ∙ sym (eqb-true byte 1 one_is.0)
        | inr other ↦ absurd (no_some t other.1)
      ]
    ]

truth_same : (t : Bool) → IsTrue (is_some (truth_of_byte (byte_of_truth t))) → truth_of_byte (byte_of_truth t) ≡ Some t
truth_same true fits = refl
truth_same false fits = refl

pub truth_lawful : Lawful truth
unfolding truth
truth_lawful = coded_lawful byte_of_truth truth_of_byte truth_inverse truth_same

stage_inverse : (byte : ℕ) (s : Stage) → stage_of_byte byte ≡ Some s → byte_of_stage s ≡ byte
stage_inverse byte s e =
    elim (chosen (byte == 1) (Some stages.Create) (cond (byte == 2) (Some stages.Set)
    (cond (byte == 3) (Some stages.Test) (cond (byte == 4) (Some stages.Finish) None))) (Some s) e) [
      | inl a ↦ ap byte_of_stage (sym (some_is stages.Create s a.1)) ∙ sym (eqb-true byte 1 a.0)
      | inr b ↦ elim (chosen (byte == 2) (Some stages.Set)
          (cond (byte == 3) (Some stages.Test) (cond (byte == 4) (Some stages.Finish) None)) (Some s) b.1) [
            | inl a ↦ ap byte_of_stage (sym (some_is stages.Set s a.1)) ∙ sym (eqb-true byte 2 a.0)
            | inr c ↦ elim (chosen (byte == 3) (Some stages.Test) (cond (byte == 4) (Some stages.Finish) None)
                (Some s) c.1) [
                  | inl a ↦ ap byte_of_stage (sym (some_is stages.Test s a.1)) ∙ sym (eqb-true byte 3 a.0)
                  | inr d ↦ elim (chosen (byte == 4) (Some stages.Finish) None (Some s) d.1) [
                    | inl a ↦ ap byte_of_stage (sym (some_is stages.Finish s a.1)) ∙ sym (eqb-true byte 4 a.0)
                    | inr other ↦ absurd (no_some s other.1)
                  ]
                ]
          ]
    ]

stage_same : (s : Stage) → IsTrue (is_some (stage_of_byte (byte_of_stage s))) → stage_of_byte (byte_of_stage s) ≡ Some s
stage_same stages.Create fits = refl
stage_same stages.Set fits = refl
stage_same stages.Test fits = refl
stage_same stages.Finish fits = refl

pub stage_lawful : Lawful stage
unfolding stage
stage_lawful = coded_lawful byte_of_stage stage_of_byte stage_inverse stage_same

attempt_inverse : (byte n : ℕ) → attempt_of_byte byte ≡ Some n → n ≡ byte
attempt_inverse byte n e =
    elim (chosen (is_attempt byte) (Some byte) None (Some n) e) [
      | inl a ↦ sym (some_is byte n a.1)
      | inr other ↦ absurd (no_some n other.1)
    ]

kept_or_none : (test : Bool) (n : ℕ) → IsTrue (is_some (cond test (Some n) None)) → cond test (Some n) None ≡ Some n
kept_or_none true n fits = refl
kept_or_none false n fits = absurd cc

pub attempt_lawful : Lawful attempt
unfolding attempt
attempt_lawful = coded_lawful (λ n. n) attempt_of_byte attempt_inverse (λ n fits. kept_or_none (is_attempt n) n fits)

-- ---- values, tags and rules

value_arms : Arms spell_value fits_value (arm 1 text values.Text (arm 2 octets values.Bytes no_arm))
value_arms =
    arm_laws spell_value fits_value 1 text text_lawful values.Text (arm 2 octets values.Bytes no_arm)
    (arm_laws spell_value fits_value 2 octets octets_lawful values.Bytes no_arm (no_arms spell_value fits_value)
    (λ _. refl) (λ _. refl))
    (λ _. refl) (λ _. refl)

value_again : (v : Value) (rest : List ℕ) → IsTrue (fits_value v)
    → then_read (read_byte (spell_value v ++ rest)) (arm 1 text values.Text (arm 2 octets values.Bytes no_arm))
    ≡ gives (v, rest)
value_again (values.Text bytes) rest fits =
    ap (λ (r : Result (List ℕ × List ℕ) ℕ). then_read r (λ x behind. gives (values.Text x, behind)))
    (text_lawful.again bytes rest fits)
value_again (values.Bytes bytes) rest fits =
    ap (λ (r : Result (List ℕ × List ℕ) ℕ). then_read r (λ x behind. gives (values.Bytes x, behind)))
    (octets_lawful.again bytes rest fits)

pub value_lawful : Lawful value
unfolding value
value_lawful = tagged_lawful spell_value fits_value (arm 1 text values.Text (arm 2 octets values.Bytes no_arm))
    value_arms value_again

pub tag_lawful : Lawful tag
unfolding tag
tag_lawful = mapped_lawful (both text text) (both_lawful text_lawful text_lawful)
    (λ x. record { key = x.0; value = x.1 }) (λ t. (t.key, t.value)) (λ _. refl) (λ _. refl)

pub schedule_lawful : (e : Edition) → Lawful (schedule e)
schedule_lawful e = since_lawful None is_none (optional text) refl none_only (optional_lawful text text_lawful) e

pub rotation_rules_lawful : (e : Edition) → Lawful (rotation_rules e)
unfolding rotation_rules
rotation_rules_lawful e = mapped_lawful (both (optional signed) (schedule e))
    (both_lawful (optional_lawful signed signed_lawful) (schedule_lawful e))
    (λ x. record { days = x.0; schedule = x.1 }) (λ r. (r.days, r.schedule)) (λ _. refl) (λ _. refl)
