-- The laws of things that are spelled as several bodies.
use Rattle.std.proofs.Common.{◌≡◌, ℕ, zero, suc, ◌+◌, ◌≤◌, ◌==◌, ◌&&◌, Bool, true, false, cond, IsTrue, List, [], ◌∷◌, ◌++◌, length, flat_map, Result, Ok, Err, refl, sym, ap, subst, ◌∙◌, inl, inr, ◌⊎◌, append_assoc, append-nil, length-append, arith, eqb-true}
use Rattle.std.specs.List.{list_all}
use Rattle.std.proofs.lemmas.Bool.{and_parts, and_from, eq-eqb}
use Rattle.std.proofs.lemmas.List.{nil_from_length}
use Rattle.sm_record.specs.Codec.{IsBytes, Codec}
use Rattle.sm_record.specs.Series.{total, AreBytes, Series, then_bodies, whole_body, read_body, one, read_times, then_times, renamed}
use Rattle.sm_record.proofs.Bytes.{chosen}
use Rattle.sm_record.proofs.CodecLaws.{Begins, Lawful}

-- what was read, and what was not
abbrev pub brings : {A : Type 0} → A × List (List ℕ) → Result (A × List (List ℕ)) ℕ
brings x = Ok x

abbrev pub halts : {A : Type 0} → ℕ → Result (A × List (List ℕ)) ℕ
halts left = Err left

pub brought : {A : Type 0} (x y : A × List (List ℕ)) → brings x ≡ brings y → x ≡ y
brought x y e = cc

pub halted : {A : Type 0} (m n : ℕ) → halts {A = A} m ≡ halts {A = A} n → m ≡ n
halted m n e = cc

pub brings_no_halt : {A : Type 0} (x : A × List (List ℕ)) (n : ℕ) → brings x ≡ halts n → ⊥
brings_no_halt x n e = cc

pub halts_no_bring : {A : Type 0} (x : A × List (List ℕ)) (n : ℕ) → halts n ≡ brings x → ⊥
halts_no_bring x n e = cc

pub both_bring : {A B : Type 0} (r : Result (A × List (List ℕ)) ℕ)
    (next : A → List (List ℕ) → Result (B × List (List ℕ)) ℕ) (y : B × List (List ℕ)) → then_bodies r next ≡ brings y
    → (x : A × List (List ℕ)) × (r ≡ brings x) × (next x.0 x.1 ≡ brings y)
both_bring (Ok x) next y e = (x, refl, e)
both_bring (Err left) next y e = absurd (halts_no_bring y left e)

pub one_halts : {A B : Type 0} (r : Result (A × List (List ℕ)) ℕ)
    (next : A → List (List ℕ) → Result (B × List (List ℕ)) ℕ) (left : ℕ) → then_bodies r next ≡ halts left
    → (r ≡ halts left) ⊎ ((x : A × List (List ℕ)) × (r ≡ brings x) × (next x.0 x.1 ≡ halts left))
one_halts (Ok x) next left e = inr (x, refl, e)
one_halts {A} {B} (Err n) next left e = inl (ap (halts {A = A}) (halted {A = B} n left e))

-- the bodies begin with those of a thing that has a spelling
pub record BeginsWith {A : Type 0} (s : Series A) (bodies : List (List ℕ)) (a : A) (rest : List (List ℕ)) : Type 0 where
  pub parts : bodies ≡ s.spell a ++ rest
  pub fits : IsTrue (s.fits a)

-- What is read is spelled so and has a spelling; what has a spelling is read again, whatever follows; and the place of
-- what is not read is among the bytes.
pub record Orderly {A : Type 0} (s : Series A) : Type 0 where
  pub takes : (bodies : List (List ℕ)) (a : A) (rest : List (List ℕ)) → AreBytes bodies → s.read bodies ≡ brings
      (a, rest)
      → BeginsWith s bodies a rest
  pub again : (a : A) (rest : List (List ℕ)) → IsTrue (s.fits a) → s.read (s.spell a ++ rest) ≡ brings (a, rest)
  pub within : (bodies : List (List ℕ)) (left : ℕ) → AreBytes bodies → s.read bodies ≡ halts left → left ≤ total bodies

pub bodies_behind : (bodies front rest : List (List ℕ)) → AreBytes bodies → bodies ≡ front ++ rest → AreBytes rest
bodies_behind bodies [] rest bytes is = subst AreBytes is bytes
bodies_behind bodies (body ∷ front) rest bytes is =
    bodies_behind (front ++ rest) front rest (subst AreBytes is bytes).1 refl

total-append : (front rest : List (List ℕ)) → total (front ++ rest) ≡ total front + total rest
total-append [] rest = omega arith
total-append (body ∷ front) rest = omega (arith, total-append front rest)

pub no_more : (bodies front rest : List (List ℕ)) → bodies ≡ front ++ rest → total rest ≤ total bodies
no_more bodies front rest is = omega (arith, ap total is, total-append front rest)

-- ---- a thing that is one body

module _ {A : Type 0} (c : Codec A) (l : Lawful c) where
  whole_ok : (x : A × List ℕ) (bodies : List (List ℕ)) (y : A × List (List ℕ)) → whole_body (Ok x) bodies ≡ brings y
      → (x.1 ≡ []) × ((x.0, bodies) ≡ y)
  whole_ok x bodies y e =
      elim (chosen (length x.1 == 0) (brings (x.0, bodies)) (halts (length x.1 + total bodies)) (brings y) e) [
        | inl all ↦ (nil_from_length x.1 (eqb-true (length x.1) 0 all.0), brought (x.0, bodies) y all.1)
        | inr more ↦ absurd (halts_no_bring y (length x.1 + total bodies) more.1)
      ]

  body_ok : (r : Result (A × List ℕ) ℕ) (bodies : List (List ℕ)) (y : A × List (List ℕ)) → whole_body r bodies ≡
      brings y
      → (r ≡ Ok (y.0, [])) × (y.1 ≡ bodies)
  body_ok (Ok x) bodies y e =
      let all = whole_ok x bodies y e in (
        ap (λ (rest : List ℕ). Ok (x.0, rest)) all.0 ∙ ap (λ (z : A × List (List ℕ)). Ok (z.0, [])) all.1,
        ap (λ (z : A × List (List ℕ)). z.1) (sym all.1),
      )
  body_ok (Err left) bodies y e = absurd (halts_no_bring y (left + total bodies) e)

  body_err : (r : Result (A × List ℕ) ℕ) (body : List ℕ) (bodies : List (List ℕ)) (left : ℕ)
      → ((x : A × List ℕ) → r ≡ Ok x → length x.1 ≤ length body) → ((n : ℕ) → r ≡ Err n → n ≤ length body)
      → whole_body r bodies ≡ halts left → left ≤ length body + total bodies
  body_err (Ok x) body bodies left read unread e =
      elim (chosen (length x.1 == 0) (brings (x.0, bodies)) (halts (length x.1 + total bodies)) (halts left) e) [
        | inl all ↦ absurd (brings_no_halt (x.0, bodies) left all.1)
        | inr more ↦ omega (arith, halted {A = A} (length x.1 + total bodies) left more.1, read x refl)
      ]
  body_err (Err n) body bodies left read unread e =
      omega (arith, halted {A = A} (n + total bodies) left e, unread n refl)

  one_takes : (bodies : List (List ℕ)) (a : A) (rest : List (List ℕ)) → AreBytes bodies
      → read_body c bodies ≡ brings (a, rest) → BeginsWith (one c) bodies a rest
  one_takes [] a rest bytes e = absurd (halts_no_bring (a, rest) 0 e)
  one_takes (body ∷ bodies) a rest bytes e =
      let found = body_ok (c.read body) bodies (a, rest) e in
      let p : Begins c body a [] = l.takes body a [] bytes.0 found.0 in
      record {
        parts = ap (λ (b : List ℕ). b ∷ bodies) (p.parts ∙ append-nil (c.spell a))
            ∙ ap (λ (bs : List (List ℕ)). c.spell a ∷ bs) (sym found.1);
        fits = p.fits;
      }

  one_again : (a : A) (rest : List (List ℕ)) → IsTrue (c.fits a) → read_body c (c.spell a ∷ rest) ≡ brings (a, rest)
  one_again a rest fits =
      ap (λ (r : Result (A × List ℕ) ℕ). whole_body r rest)
      (ap c.read (sym (append-nil (c.spell a))) ∙ l.again a [] fits)

  one_within : (bodies : List (List ℕ)) (left : ℕ) → AreBytes bodies → read_body c bodies ≡ halts left
      → left ≤ total bodies
  one_within [] left bytes e = omega (arith, halted {A = A} 0 left e)
  one_within (body ∷ bodies) left bytes e =
      body_err (c.read body) body bodies left
      (λ x is. let p : Begins c body x.0 x.1 = l.takes body x.0 x.1 bytes.0 is in
      omega (arith, shorter body (c.spell x.0) x.1 p.parts))
      (λ n is. l.within body n bytes.0 is) e
    where
      shorter : (body front rest : List ℕ) → body ≡ front ++ rest → length rest ≤ length body
      shorter body front rest is = omega (arith, ap length is, length-append front rest)

  pub one_orderly : Orderly (one c)
  one_orderly = record {
    takes = λ bodies a rest bytes e. one_takes bodies a rest bytes e;
    again = λ a rest fits. one_again a rest fits;
    within = λ bodies left bytes e. one_within bodies left bytes e;
  }

-- ---- as many things as a number says

-- the bodies begin with those of the things, which are so many and have spellings
record BeginsWithAll {A : Type 0} (s : Series A) (n : ℕ) (bodies : List (List ℕ)) (items : List A)
    (rest : List (List ℕ)) : Type 0 where
  parts : bodies ≡ flat_map s.spell items ++ rest
  count : length items ≡ n
  fits : IsTrue (list_all s.fits items)

module _ {A : Type 0} (s : Series A) (o : Orderly s) where
  times_take : (n : ℕ) (bodies : List (List ℕ)) (items : List A) (rest : List (List ℕ)) → AreBytes bodies
      → read_times s n bodies ≡ brings (items, rest) → BeginsWithAll s n bodies items rest
  unfolding read_times
  times_take zero bodies items rest bytes e =
      let none : BeginsWithAll s zero bodies [] bodies = record { parts = refl; count = refl; fits = refl } in
      subst (λ (y : List A × List (List ℕ)). BeginsWithAll s zero bodies y.0 y.1) (brought ([], bodies) (items, rest) e)
      none
  times_take (suc n) bodies items rest bytes e =
      let first = both_bring (s.read bodies)
      (λ a behind. then_bodies (read_times s n behind) (λ more after. brings (a ∷ more, after))) (items, rest) e in
      let second = both_bring (read_times s n first.0.1) (λ more after. brings (first.0.0 ∷ more, after)) (items, rest)
      first.2 in
      let p : BeginsWith s bodies first.0.0 first.0.1 = o.takes bodies first.0.0 first.0.1 bytes first.1 in
      let behind : AreBytes first.0.1 = bodies_behind bodies (s.spell first.0.0) first.0.1 bytes p.parts in
      let q : BeginsWithAll s n first.0.1 second.0.0 second.0.1 =
      times_take n first.0.1 second.0.0 second.0.1 behind second.1 in
      let whole : BeginsWithAll s (suc n) bodies (first.0.0 ∷ second.0.0) second.0.1 = record {
        parts = p.parts ∙ ap (λ (t : List (List ℕ)). s.spell first.0.0 ++ t) q.parts
            ∙ sym (append_assoc (s.spell first.0.0) (flat_map s.spell second.0.0) second.0.1);
        count = ap suc q.count;
        fits = and_from (s.fits first.0.0) (list_all s.fits second.0.0) p.fits q.fits;
      } in
      subst (λ (y : List A × List (List ℕ)). BeginsWithAll s (suc n) bodies y.0 y.1)
      (brought (first.0.0 ∷ second.0.0, second.0.1) (items, rest) second.2) whole

  times_again : (items : List A) (rest : List (List ℕ)) → IsTrue (list_all s.fits items)
      → read_times s (length items) (flat_map s.spell items ++ rest) ≡ brings (items, rest)
  unfolding read_times
  times_again [] rest fits = refl
  times_again (a ∷ items) rest fits =
      let h = and_parts (s.fits a) (list_all s.fits items) fits in
      ap (λ (bodies : List (List ℕ)). then_bodies (s.read bodies)
      (λ x behind. then_bodies (read_times s (length items) behind) (λ more after. brings (x ∷ more, after))))
      (append_assoc (s.spell a) (flat_map s.spell items) rest)
      ∙ ap (λ (r : Result (A × List (List ℕ)) ℕ). then_bodies r
      (λ x behind. then_bodies (read_times s (length items) behind) (λ more after. brings (x ∷ more, after))))
      (o.again a (flat_map s.spell items ++ rest) h.0)
      ∙ ap (λ (r : Result (List A × List (List ℕ)) ℕ). then_bodies r (λ more after. brings (a ∷ more, after)))
      (times_again items rest h.1)

  times_within : (n : ℕ) (bodies : List (List ℕ)) (left : ℕ) → AreBytes bodies → read_times s n bodies ≡ halts left
      → left ≤ total bodies
  unfolding read_times
  times_within zero bodies left bytes e = absurd (brings_no_halt ([], bodies) left e)
  times_within (suc n) bodies left bytes e =
      elim (one_halts (s.read bodies)
      (λ a behind. then_bodies (read_times s n behind) (λ more after. brings (a ∷ more, after))) left e) [
        | inl first ↦ o.within bodies left bytes first
        | inr one ↦
            let p : BeginsWith s bodies one.0.0 one.0.1 = o.takes bodies one.0.0 one.0.1 bytes one.1 in
            let behind : AreBytes one.0.1 = bodies_behind bodies (s.spell one.0.0) one.0.1 bytes p.parts in
            elim (one_halts (read_times s n one.0.1) (λ more after. brings (one.0.0 ∷ more, after)) left one.2) [
              | inl second ↦
                  omega (
                    arith,
                    times_within n one.0.1 left behind second,
                    no_more bodies (s.spell one.0.0) one.0.1 p.parts,
                  )
              | inr two ↦ absurd (brings_no_halt (one.0.0 ∷ two.0.0, two.0.1) left two.2)
            ]
      ]

-- ---- a thing, and as many others behind it as it says

module _ {A B : Type 0} (count : A → ℕ) (s : Series A) (t : Series B) (o : Orderly s) (p : Orderly t) where
  then_takes : (bodies : List (List ℕ)) (x : A × List B) (rest : List (List ℕ)) → AreBytes bodies
      → (then_times count s t).read bodies ≡ brings (x, rest) → BeginsWith (then_times count s t) bodies x rest
  then_takes bodies x rest bytes e =
      let first = both_bring (s.read bodies)
      (λ a behind. then_bodies (read_times t (count a) behind) (λ items after. brings ((a, items), after))) (x, rest)
      e in
      let second = both_bring (read_times t (count first.0.0) first.0.1)
      (λ items after. brings ((first.0.0, items), after)) (x, rest) first.2 in
      let f : BeginsWith s bodies first.0.0 first.0.1 = o.takes bodies first.0.0 first.0.1 bytes first.1 in
      let behind : AreBytes first.0.1 = bodies_behind bodies (s.spell first.0.0) first.0.1 bytes f.parts in
      let g : BeginsWithAll t (count first.0.0) first.0.1 second.0.0 second.0.1 =
      times_take t p (count first.0.0) first.0.1 second.0.0 second.0.1 behind second.1 in
      let whole : BeginsWith (then_times count s t) bodies (first.0.0, second.0.0) second.0.1 = record {
        parts = f.parts ∙ ap (λ (u : List (List ℕ)). s.spell first.0.0 ++ u) g.parts
            ∙ sym (append_assoc (s.spell first.0.0) (flat_map t.spell second.0.0) second.0.1);
        fits = and_from (s.fits first.0.0) (count first.0.0 == length second.0.0 && list_all t.fits second.0.0) f.fits
            (and_from (count first.0.0 == length second.0.0) (list_all t.fits second.0.0)
            (eq-eqb (count first.0.0) (length second.0.0) (sym g.count)) g.fits);
      } in
      subst (λ (y : (A × List B) × List (List ℕ)). BeginsWith (then_times count s t) bodies y.0 y.1)
      (brought ((first.0.0, second.0.0), second.0.1) (x, rest) second.2) whole

  then_again : (x : A × List B) (rest : List (List ℕ)) → IsTrue ((then_times count s t).fits x)
      → (then_times count s t).read ((s.spell x.0 ++ flat_map t.spell x.1) ++ rest) ≡ brings (x, rest)
  then_again x rest fits =
      let h = and_parts (s.fits x.0) (count x.0 == length x.1 && list_all t.fits x.1) fits in
      let k = and_parts (count x.0 == length x.1) (list_all t.fits x.1) h.1 in
      ap (then_times count s t).read (append_assoc (s.spell x.0) (flat_map t.spell x.1) rest)
      ∙ ap (λ (r : Result (A × List (List ℕ)) ℕ). then_bodies r
      (λ a behind. then_bodies (read_times t (count a) behind) (λ items after. brings ((a, items), after))))
      (o.again x.0 (flat_map t.spell x.1 ++ rest) h.0)
      ∙ ap (λ (n : ℕ). then_bodies (read_times t n (flat_map t.spell x.1 ++ rest))
      (λ items after. brings ((x.0, items), after))) (eqb-true (count x.0) (length x.1) k.0)
      ∙ ap (λ (r : Result (List B × List (List ℕ)) ℕ). then_bodies r (λ items after. brings ((x.0, items), after)))
      (times_again t p x.1 rest k.1)

  then_within : (bodies : List (List ℕ)) (left : ℕ) → AreBytes bodies
      → (then_times count s t).read bodies ≡ halts {A = A × List B} left → left ≤ total bodies
  then_within bodies left bytes e =
      elim (one_halts {B = A × List B} (s.read bodies)
      (λ a behind. then_bodies (read_times t (count a) behind) (λ items after. brings ((a, items), after))) left e) [
        | inl first ↦ o.within bodies left bytes first
        | inr one ↦
            let f : BeginsWith s bodies one.0.0 one.0.1 = o.takes bodies one.0.0 one.0.1 bytes one.1 in
            let behind : AreBytes one.0.1 = bodies_behind bodies (s.spell one.0.0) one.0.1 bytes f.parts in
            elim (one_halts {B = A × List B} (read_times t (count one.0.0) one.0.1)
            (λ items after. brings ((one.0.0, items), after)) left one.2) [
              | inl second ↦
                  omega (
                    arith,
                    times_within t p (count one.0.0) one.0.1 left behind second,
                    no_more bodies (s.spell one.0.0) one.0.1 f.parts,
                  )
              | inr two ↦ absurd (brings_no_halt {A = A × List B} ((one.0.0, two.0.0), two.0.1) left two.2)
            ]
      ]

  pub then_orderly : Orderly (then_times count s t)
  then_orderly = record {
    takes = λ bodies x rest bytes e. then_takes bodies x rest bytes e;
    again = λ x rest fits. then_again x rest fits;
    within = λ bodies left bytes e. then_within bodies left bytes e;
  }

-- ---- a thing that is another one by other names, where it has a spelling

module _ {A B : Type 0} (s : Series A) (o : Orderly s) (into : A → B) (out : B → A) where
  pub renamed_orderly : ((a : A) → IsTrue (s.fits a) → out (into a) ≡ a) → ((b : B) → into (out b) ≡ b)
      → Orderly (renamed s into out)
  renamed_orderly back there = record {
    takes = λ bodies b rest bytes e.
        let first = both_bring (s.read bodies) (λ a behind. brings (into a, behind)) (b, rest) e in
        let p : BeginsWith s bodies first.0.0 first.0.1 = o.takes bodies first.0.0 first.0.1 bytes first.1 in
        let same : out (into first.0.0) ≡ first.0.0 = back first.0.0 p.fits in
        let whole : BeginsWith (renamed s into out) bodies (into first.0.0) first.0.1 = record {
          parts = p.parts ∙ ap (λ (a : A). s.spell a ++ first.0.1) (sym same);
          fits = ap s.fits same ∙ p.fits;
        } in
        subst (λ (y : B × List (List ℕ)). BeginsWith (renamed s into out) bodies y.0 y.1)
        (brought (into first.0.0, first.0.1) (b, rest) first.2) whole;
    again = λ b rest fits.
        ap (λ (r : Result (A × List (List ℕ)) ℕ). then_bodies r (λ a behind. brings (into a, behind)))
        (o.again (out b) rest fits)
        ∙ ap (λ (y : B). brings (y, rest)) (there b);
    within = λ bodies left bytes e.
        elim (one_halts (s.read bodies) (λ a behind. brings (into a, behind)) left e) [
          | inl first ↦ o.within bodies left bytes first
          | inr one ↦ absurd (brings_no_halt (into one.0.0, one.0.1) left one.2)
        ];
  }
