-- The laws of things of several kinds.
use Rattle.std.proofs.Common.{◌≡◌, ℕ, ◌+◌, ◌≤◌, ◌==◌, Bool, true, false, ◌&&◌, cond, IsTrue, List, [], ◌∷◌, ◌++◌, length, Option, Some, None, Result, refl, sym, ap, subst, ◌∙◌, inl, inr, ◌⊎◌, arith, eqb-true}
use Rattle.std.proofs.lemmas.Bool.{and_from, false≢true}
use Rattle.sm_record.specs.Codec.{IsBytes, Codec, then_read, read_byte, nothing, arm_if, arm, no_arm, tagged, spell_optional, fits_optional, optional}
use Rattle.sm_record.proofs.Bytes.{bytes_after, gives, stops, ok_is, err_is, ok_no_err, err_no_ok, bind_ok, bind_err, chosen}
use Rattle.sm_record.proofs.CodecLaws.{Begins, Lawful, nothing_lawful}

-- What stands behind a tag is what the tag and a thing's spelling say.
pub record Arms {B : Type 0} (spelling : B → List ℕ) (has_spelling : B → Bool)
    (arms : ℕ → List ℕ → Result (B × List ℕ) ℕ) : Type 0 where
  pub takes : (given : ℕ) (bytes : List ℕ) (b : B) (rest : List ℕ) → IsBytes bytes → arms given bytes ≡ gives (b, rest)
      → (given ∷ bytes ≡ spelling b ++ rest) × IsTrue (has_spelling b)
  pub within : (given : ℕ) (bytes : List ℕ) (left : ℕ) → IsBytes bytes → arms given bytes ≡ stops left
      → left ≤ length bytes + 1

pub no_arms : {B : Type 0} (spelling : B → List ℕ) (has_spelling : B → Bool) → Arms spelling has_spelling no_arm
no_arms {B} spelling has_spelling = record {
  takes = λ given bytes b rest fits e. absurd (err_no_ok (b, rest) (length bytes + 1) e);
  within = λ given bytes left fits e. omega (arith, err_is {A = B} (length bytes + 1) left e);
}

module _ {A B : Type 0} (spelling : B → List ℕ) (has_spelling : B → Bool) (may : Bool) (tag : ℕ) (c : Codec A)
    (l : Lawful c) (into : A → B) (others : ℕ → List ℕ → Result (B × List ℕ) ℕ)
    (rest_laws : Arms spelling has_spelling others)
    (spelled : (a : A) → spelling (into a) ≡ tag ∷ c.spell a)
    (fitting : (a : A) → has_spelling (into a) ≡ (may && c.fits a)) where
  -- what the arm of the tag reads
  abbrev here_read : List ℕ → Result (B × List ℕ) ℕ
  here_read bytes = then_read (c.read bytes) (λ a behind. gives (into a, behind))

  abbrev arm_read : ℕ → List ℕ → Result (B × List ℕ) ℕ
  arm_read given bytes =
      cond (given == tag) (cond may (here_read bytes) (stops (length bytes + 1))) (others given bytes)

  here_takes : (given : ℕ) (bytes : List ℕ) (b : B) (rest : List ℕ) → IsBytes bytes → given ≡ tag → may ≡ true
      → here_read bytes ≡ gives (b, rest) → (given ∷ bytes ≡ spelling b ++ rest) × IsTrue (has_spelling b)
  here_takes given bytes b rest fits tag_is lets e =
      let one = bind_ok (c.read bytes) (λ a behind. gives (into a, behind)) (b, rest) e in
      let p : Begins c bytes one.0.0 one.0.1 = l.takes bytes one.0.0 one.0.1 fits one.1 in
      let whole : given ∷ bytes ≡ spelling (into one.0.0) ++ one.0.1 =
      ap (λ (g : ℕ). g ∷ bytes) tag_is ∙ ap (λ (t : List ℕ). tag ∷ t) p.parts
      ∙ ap (λ (t : List ℕ). t ++ one.0.1) (sym (spelled one.0.0)) in
      let fitted : IsTrue (has_spelling (into one.0.0)) =
      fitting one.0.0 ∙ and_from may (c.fits one.0.0) lets p.fits in
      subst (λ (y : B × List ℕ). (given ∷ bytes ≡ spelling y.0 ++ y.1) × IsTrue (has_spelling y.0))
      (ok_is (into one.0.0, one.0.1) (b, rest) one.2) (whole, fitted)

  arm_takes : (given : ℕ) (bytes : List ℕ) (b : B) (rest : List ℕ) → IsBytes bytes
      → arm_read given bytes ≡ gives (b, rest) → (given ∷ bytes ≡ spelling b ++ rest) × IsTrue (has_spelling b)
  arm_takes given bytes b rest fits e =
      elim (chosen (given == tag) (cond may (here_read bytes) (stops (length bytes + 1))) (others given bytes)
      (gives (b, rest)) e) [
        | inl here ↦ elim (chosen may (here_read bytes) (stops (length bytes + 1)) (gives (b, rest)) here.1) [
          | inl lets ↦ here_takes given bytes b rest fits (eqb-true given tag here.0) lets.0 lets.1
          | inr not ↦ absurd (err_no_ok (b, rest) (length bytes + 1) not.1)
        ]
        | inr there ↦ rest_laws.takes given bytes b rest fits there.1
      ]

  here_within : (bytes : List ℕ) (left : ℕ) → IsBytes bytes → here_read bytes ≡ stops left → left ≤ length bytes + 1
  here_within bytes left fits e = in_arm (bind_err (c.read bytes) (λ a behind. gives (into a, behind)) left e)
    where
      in_arm : (c.read bytes ≡ stops left)
          ⊎ ((x : A × List ℕ) × (c.read bytes ≡ gives x) × (gives (into x.0, x.1) ≡ stops left))
          → left ≤ length bytes + 1
      in_arm (inl first) = omega (arith, l.within bytes left fits first)
      in_arm (inr one) = absurd (ok_no_err (into one.0.0, one.0.1) left one.2)

  arm_within : (given : ℕ) (bytes : List ℕ) (left : ℕ) → IsBytes bytes → arm_read given bytes ≡ stops left
      → left ≤ length bytes + 1
  arm_within given bytes left fits e =
      elim (chosen (given == tag) (cond may (here_read bytes) (stops (length bytes + 1))) (others given bytes)
      (stops left) e) [
        | inl here ↦ elim (chosen may (here_read bytes) (stops (length bytes + 1)) (stops left) here.1) [
          | inl lets ↦ here_within bytes left fits lets.1
          | inr not ↦ omega (arith, err_is {A = B} (length bytes + 1) left not.1)
        ]
        | inr there ↦ rest_laws.within given bytes left fits there.1
      ]

  pub arm_if_laws : Arms spelling has_spelling (arm_if may tag c into others)
  arm_if_laws = record {
    takes = λ given bytes b rest fits e. arm_takes given bytes b rest fits e;
    within = λ given bytes left fits e. arm_within given bytes left fits e;
  }

module _ {A B : Type 0} (spelling : B → List ℕ) (has_spelling : B → Bool) (tag : ℕ) (c : Codec A)
    (l : Lawful c) (into : A → B) (others : ℕ → List ℕ → Result (B × List ℕ) ℕ)
    (rest_laws : Arms spelling has_spelling others)
    (spelled : (a : A) → spelling (into a) ≡ tag ∷ c.spell a)
    (fitting : (a : A) → has_spelling (into a) ≡ c.fits a) where
  pub arm_laws : Arms spelling has_spelling (arm tag c into others)
  arm_laws = arm_if_laws spelling has_spelling true tag c l into others rest_laws spelled fitting

-- what stands behind a tag, where an arm takes it
pub within_arm : {A B : Type 0} (c : Codec A) → Lawful c → (into : A → B) (a : A) (rest : List ℕ) → IsTrue (c.fits a)
    → then_read (c.read (c.spell a ++ rest)) (λ x behind. gives (into x, behind)) ≡ gives (into a, rest)
within_arm {A} c l into a rest fits =
    ap (λ (r : Result (A × List ℕ) ℕ). then_read r (λ x behind. gives (into x, behind))) (l.again a rest fits)

-- the same behind a tag that may stand there
pub within_arm_if : {A B : Type 0} (may : Bool) (c : Codec A) → Lawful c → (into : A → B) (a : A) (rest : List ℕ)
    → IsTrue (may && c.fits a)
    → cond may (then_read (c.read (c.spell a ++ rest)) (λ x behind. gives (into x, behind)))
    (stops (length (c.spell a ++ rest) + 1)) ≡ gives (into a, rest)
within_arm_if true c l into a rest fits = within_arm c l into a rest fits
within_arm_if false c l into a rest fits = absurd (false≢true fits)

module _ {B : Type 0} (spelling : B → List ℕ) (has_spelling : B → Bool) (arms : ℕ → List ℕ → Result (B × List ℕ) ℕ)
    (laws : Arms spelling has_spelling arms)
    (again : (b : B) (rest : List ℕ) → IsTrue (has_spelling b)
    → then_read (read_byte (spelling b ++ rest)) arms ≡ gives (b, rest)) where
  tagged_takes : (bytes : List ℕ) (b : B) (rest : List ℕ) → IsBytes bytes
      → then_read (read_byte bytes) arms ≡ gives (b, rest) → Begins (tagged spelling has_spelling arms) bytes b rest
  tagged_takes [] b rest fits e = absurd (err_no_ok (b, rest) 0 e)
  tagged_takes (given ∷ bytes) b rest fits e =
      let p = laws.takes given bytes b rest (bytes_after given bytes fits) e in record { parts = p.0; fits = p.1 }

  tagged_within : (bytes : List ℕ) (left : ℕ) → IsBytes bytes → then_read (read_byte bytes) arms ≡ stops left
      → left ≤ length bytes
  tagged_within [] left fits e = omega (arith, err_is {A = B} 0 left e)
  tagged_within (given ∷ bytes) left fits e =
      omega (arith, laws.within given bytes left (bytes_after given bytes fits) e)

  pub tagged_lawful : Lawful (tagged spelling has_spelling arms)
  tagged_lawful = record {
    takes = λ bytes b rest fits e. tagged_takes bytes b rest fits e;
    again = λ b rest fits. again b rest fits;
    within = λ bytes left fits e. tagged_within bytes left fits e;
  }

-- ---- options

module _ {A : Type 0} (c : Codec A) (l : Lawful c) where
  optional_arms : Arms (spell_optional c) (fits_optional c) (arm 0 nothing (λ _. None) (arm 1 c Some no_arm))
  optional_arms =
      arm_laws (spell_optional c) (fits_optional c) 0 nothing nothing_lawful (λ _. None) (arm 1 c Some no_arm)
      (arm_laws (spell_optional c) (fits_optional c) 1 c l Some no_arm
      (no_arms (spell_optional c) (fits_optional c)) (λ _. refl) (λ _. refl))
      (λ _. refl) (λ _. refl)

  optional_again : (o : Option A) (rest : List ℕ) → IsTrue (fits_optional c o)
      → then_read (read_byte (spell_optional c o ++ rest)) (arm 0 nothing (λ _. None) (arm 1 c Some no_arm))
      ≡ gives (o, rest)
  optional_again None rest fits = refl
  optional_again (Some a) rest fits =
      ap (λ (r : Result (A × List ℕ) ℕ). then_read r (λ x behind. gives (Some x, behind))) (l.again a rest fits)

  pub optional_lawful : Lawful (optional c)
  unfolding optional
  optional_lawful =
      tagged_lawful (spell_optional c) (fits_optional c) (arm 0 nothing (λ _. None) (arm 1 c Some no_arm))
      optional_arms optional_again
