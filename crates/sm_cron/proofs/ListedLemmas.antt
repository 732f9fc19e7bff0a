-- Lists of texts of a language.
use Rattle.std.proofs.Common.{◌≡◌, ℕ, Bool, true, false, ◌&&◌, ◌==◌, List, [], ◌∷◌, ◌++◌, Option, Some, None, refl, sym, ◌∙◌, ap, subst, inl, inr}
use Rattle.std.proofs.lemmas.Bool.{cases_Bool, and_parts, and_from, eqb-true, false≢true}
use Rattle.std.proofs.lemmas.List.{append-nil, append_assoc}
use Rattle.std.proofs.lemmas.Option.{none-some}
use Rattle.std.specs.Option.{is_some, option_map, option_and_then}
use Rattle.sm_cron.specs.Languages.{Language, IsRight, listed, listed_values, can_go_on, meaning, parted, reading, reading_of}
use Rattle.sm_cron.specs.declared.reading.Reading.{Reading}
use Rattle.sm_cron.specs.declared.reading.Reading.TheVariants.{Text, Front, Fault}
use Rattle.sm_cron.proofs.ReadingLemmas.{with_meaning}
use Rattle.sm_cron.proofs.LanguageLemmas.{some_of, text_begins, shorter, Avoids}
use Rattle.sm_cron.proofs.PartedLemmas.{parted_none, parted_here, parted_on, unparted_behind, unparted_on, unparted_append}

some_parts : (a b : List ℕ × List ℕ) → Some a ≡ Some b → (a.0 ≡ b.0) × (a.1 ≡ b.1)
some_parts a b e = (let same : a ≡ b = cc in (ap (λ p. p.0) same, ap (λ p. p.1) same))

-- the parts of a text that a byte begins
cons_parts : (byte : ℕ) (o : Option (List ℕ × List ℕ)) (before behind : List ℕ)
    → option_map {U = List ℕ × List ℕ} (λ parts. (byte ∷ parts.0, parts.1)) o ≡ Some (before, behind)
    → (inner : List ℕ) × (o ≡ Some (inner, behind)) × (byte ∷ inner ≡ before)
cons_parts byte None before behind e = absurd (none-some (before, behind) e)
cons_parts byte (Some parts) before behind e =
    let same = some_parts (byte ∷ parts.0, parts.1) (before, behind) e in
    (parts.0, ap (λ t. pair parts.0 t) same.1, same.0)
  where
    pair : List ℕ → List ℕ → Option (List ℕ × List ℕ)
    pair one other = Some (one, other)

module _ {V : Type 0} (mark : ℕ) (A : Language V) where
  abbrev alone : Option V → Option (List V)
  alone o = option_map (λ says. says ∷ []) o

  abbrev with_more : Option V → Option (List V) → Option (List V)
  with_more o more = option_and_then (λ says. option_map (λ others. says ∷ others) more) o

  pub values_end : (begun : List ℕ) → listed_values mark A begun [] ≡ alone (A.value begun)
  unfolding listed_values
  values_end begun = refl

  pub values_mark : (begun : List ℕ) (byte : ℕ) (rest : List ℕ) → (byte == mark) ≡ true
      → listed_values mark A begun (byte ∷ rest) ≡ with_more (A.value begun) (listed_values mark A [] rest)
  unfolding listed_values
  values_mark begun byte rest is = rw is refl

  pub values_on : (begun : List ℕ) (byte : ℕ) (rest : List ℕ) → (byte == mark) ≡ false
      → listed_values mark A begun (byte ∷ rest) ≡ listed_values mark A (begun ++ byte ∷ []) rest
  unfolding listed_values
  values_on begun byte rest other = rw other refl

  pub begin_end : (begun : List ℕ) → can_go_on mark A begun [] ≡ A.can_begin begun
  unfolding can_go_on
  begin_end begun = refl

  pub begin_mark : (begun : List ℕ) (byte : ℕ) (rest : List ℕ) → (byte == mark) ≡ true
      → can_go_on mark A begun (byte ∷ rest) ≡ (is_some (A.value begun) && can_go_on mark A [] rest)
  unfolding can_go_on
  begin_mark begun byte rest is = rw is refl

  pub begin_on : (begun : List ℕ) (byte : ℕ) (rest : List ℕ) → (byte == mark) ≡ false
      → can_go_on mark A begun (byte ∷ rest) ≡ can_go_on mark A (begun ++ byte ∷ []) rest
  unfolding can_go_on
  begin_on begun byte rest other = rw other refl

  some_more : (o : Option V) (more : Option (List V)) → is_some o ≡ true → is_some more ≡ true
      → is_some (with_more o more) ≡ true
  some_more None more one other = one
  some_more (Some v) None one other = other
  some_more (Some v) (Some vs) one other = refl

  more_some : (o : Option V) (more : Option (List V)) → is_some (with_more o more) ≡ true
      → (is_some o ≡ true) × (is_some more ≡ true)
  more_some None more e = absurd (false≢true e)
  more_some (Some v) None e = absurd (false≢true e)
  more_some (Some v) (Some vs) e = (refl, refl)

  -- a list of one item
  one_item : (begun rest : List ℕ) (v : V) → A.value (begun ++ rest) ≡ Some v → parted mark rest ≡ None
      → is_some (listed_values mark A begun rest) ≡ true
  one_item begun [] v is unmarked = ap is_some (values_end begun)
      ∙ ap (λ o. is_some (alone o)) (ap A.value (sym (append-nil begun)) ∙ is)
  one_item begun (byte ∷ rest) v is unmarked = elim (cases_Bool (byte == mark)) [
    | inl here ↦ absurd (none-some ([], rest) (sym unmarked ∙ parted_here mark byte rest here))
    | inr other ↦
        ap is_some (values_on begun byte rest other)
        ∙ one_item (begun ++ byte ∷ []) rest v (ap A.value (append_assoc begun (byte ∷ []) rest) ∙ is)
        (unparted_behind mark (byte ∷ []) rest unmarked)
  ]

  listed_more : (begun front : List ℕ) → IsRight A → Avoids mark A → can_go_on mark A begun front ≡ true
      → (rest : List ℕ) × (is_some (listed_values mark A begun (front ++ rest)) ≡ true)
  listed_more begun [] right avoids can =
      let more = right.begins begun (sym (begin_end begun) ∙ can) in
      let one = some_of (A.value (begun ++ more.0)) more.1 in (
        more.0,
        one_item begun more.0 one.0 one.1
            (unparted_behind mark begun more.0 (avoids.unmarked (begun ++ more.0) one.0 one.1)),
      )
  listed_more begun (byte ∷ front) right avoids can = elim (cases_Bool (byte == mark)) [
    | inl here ↦
        let parts = and_parts _ _ (sym (begin_mark begun byte front here) ∙ can) in
        let more = listed_more [] front right avoids parts.1 in (
          more.0,
          ap is_some (values_mark begun byte (front ++ more.0) here)
              ∙ some_more (A.value begun) (listed_values mark A [] (front ++ more.0)) parts.0 more.1,
        )
    | inr other ↦
        let more = listed_more (begun ++ byte ∷ []) front right avoids (sym (begin_on begun byte front other) ∙ can) in
        (more.0, ap is_some (values_on begun byte (front ++ more.0) other) ∙ more.1)
  ]

  some_alone : (o : Option V) → is_some (alone o) ≡ true → is_some o ≡ true
  some_alone None e = e
  some_alone (Some v) e = refl

  value_begins : (begun : List ℕ) → IsRight A → is_some (A.value begun) ≡ true → A.can_begin begun ≡ true
  value_begins begun right some =
      (let one = some_of (A.value begun) some in text_begins A begun one.0 right one.1)

  begun_only : (begun rest : List ℕ) → IsRight A → is_some (listed_values mark A begun rest) ≡ true
      → A.can_begin begun ≡ true
  begun_only begun [] right some =
      value_begins begun right (some_alone (A.value begun) (ap is_some (sym (values_end begun)) ∙ some))
  begun_only begun (byte ∷ rest) right some = elim (cases_Bool (byte == mark)) [
    | inl here ↦ value_begins begun right
        (more_some (A.value begun) (listed_values mark A [] rest)
        (ap is_some (sym (values_mark begun byte rest here)) ∙ some)).0
    | inr other ↦ shorter A begun (byte ∷ []) right
        (begun_only (begun ++ byte ∷ []) rest right (ap is_some (sym (values_on begun byte rest other)) ∙ some))
  ]

  listed_only : (begun front rest : List ℕ) → IsRight A
      → is_some (listed_values mark A begun (front ++ rest)) ≡ true → can_go_on mark A begun front ≡ true
  listed_only begun [] rest right some = begin_end begun ∙ begun_only begun rest right some
  listed_only begun (byte ∷ front) rest right some = elim (cases_Bool (byte == mark)) [
    | inl here ↦
        let parts = more_some (A.value begun) (listed_values mark A [] (front ++ rest))
        (ap is_some (sym (values_mark begun byte (front ++ rest) here)) ∙ some) in
        begin_mark begun byte front here ∙ and_from _ _ parts.0 (listed_only [] front rest right parts.1)
    | inr other ↦
        begin_on begun byte front other
        ∙ listed_only (begun ++ byte ∷ []) front rest right
        (ap is_some (sym (values_on begun byte (front ++ rest) other)) ∙ some)
  ]

  pub right-listed : IsRight A → Avoids mark A → IsRight (listed mark A)
  unfolding listed
  right-listed right avoids = record {
    begins = λ front can. listed_more [] front right avoids can;
    only = λ front rest some. listed_only [] front rest right some;
  }

  pub lively-listed : A.can_begin [] ≡ true → (listed mark A).can_begin [] ≡ true
  unfolding listed
  lively-listed can = begin_end [] ∙ can

  from_alone : (o : Option V) (vs : List V) → alone o ≡ Some vs → (v : V) × (o ≡ Some v)
  from_alone None vs e = absurd (none-some vs e)
  from_alone (Some v) vs e = (v, refl)

  from_more : (o : Option V) (more : Option (List V)) (vs : List V) → with_more o more ≡ Some vs
      → ((v : V) × (o ≡ Some v)) × ((others : List V) × (more ≡ Some others))
  from_more None more vs e = absurd (none-some vs e)
  from_more (Some v) None vs e = absurd (none-some vs e)
  from_more (Some v) (Some others) vs e = ((v, refl), (others, refl))

  values_unmarked : (other : ℕ) (begun text : List ℕ) (vs : List V) → (mark == other) ≡ false → Avoids other A
      → listed_values mark A begun text ≡ Some vs → parted other (begun ++ text) ≡ None
  values_unmarked other begun [] vs apart avoids is =
      let one = from_alone (A.value begun) vs (sym (values_end begun) ∙ is) in
      ap (parted other) (append-nil begun) ∙ avoids.unmarked begun one.0 one.1
  values_unmarked other begun (byte ∷ rest) vs apart avoids is = elim (cases_Bool (byte == mark)) [
    | inl here ↦
        let from = from_more (A.value begun) (listed_values mark A [] rest) vs
        (sym (values_mark begun byte rest here) ∙ is) in
        unparted_append other begun (byte ∷ rest) (avoids.unmarked begun from.0.0 from.0.1)
        (unparted_on other byte rest (subst (λ b. (b == other) ≡ false) (sym (eqb-true byte mark here)) apart)
        (values_unmarked other [] rest from.1.0 apart avoids from.1.1))
    | inr within ↦
        ap (parted other) (sym (append_assoc begun (byte ∷ []) rest))
        ∙ values_unmarked other (begun ++ byte ∷ []) rest vs apart avoids (sym (values_on begun byte rest within) ∙ is)
  ]

  pub avoids-listed : (other : ℕ) → (mark == other) ≡ false → Avoids other A → Avoids other (listed mark A)
  unfolding listed
  avoids-listed other apart avoids = record {
    unmarked = λ text vs is. values_unmarked other [] text vs apart avoids is;
  }

  -- ---- the first item and the others

  values_parted : (begun rest before behind : List ℕ) → parted mark rest ≡ Some (before, behind)
      → listed_values mark A begun rest ≡ with_more (A.value (begun ++ before)) (listed_values mark A [] behind)
  values_parted begun [] before behind is = absurd (none-some (before, behind) (sym (parted_none mark) ∙ is))
  values_parted begun (byte ∷ rest) before behind is = elim (cases_Bool (byte == mark)) [
    | inl here ↦
        let parts = some_parts ([], rest) (before, behind) (sym (parted_here mark byte rest here) ∙ is) in
        values_mark begun byte rest here
        ∙ ap (λ t. with_more (A.value t) (listed_values mark A [] rest))
        (sym (append-nil begun) ∙ ap (λ t. begun ++ t) parts.0)
        ∙ ap (λ t. with_more (A.value (begun ++ before)) (listed_values mark A [] t)) parts.1
    | inr other ↦
        let inner = cons_parts byte (parted mark rest) before behind (sym (parted_on mark byte rest other) ∙ is) in
        values_on begun byte rest other
        ∙ values_parted (begun ++ byte ∷ []) rest inner.0 behind inner.1
        ∙ ap (λ t. with_more (A.value t) (listed_values mark A [] behind))
        (append_assoc begun (byte ∷ []) inner.0 ∙ ap (λ t. begun ++ t) inner.2)
  ]

  begin_parted : (begun rest before behind : List ℕ) → parted mark rest ≡ Some (before, behind)
      → can_go_on mark A begun rest ≡ (is_some (A.value (begun ++ before)) && can_go_on mark A [] behind)
  begin_parted begun [] before behind is = absurd (none-some (before, behind) (sym (parted_none mark) ∙ is))
  begin_parted begun (byte ∷ rest) before behind is = elim (cases_Bool (byte == mark)) [
    | inl here ↦
        let parts = some_parts ([], rest) (before, behind) (sym (parted_here mark byte rest here) ∙ is) in
        begin_mark begun byte rest here
        ∙ ap (λ t. is_some (A.value t) && can_go_on mark A [] rest)
        (sym (append-nil begun) ∙ ap (λ t. begun ++ t) parts.0)
        ∙ ap (λ t. is_some (A.value (begun ++ before)) && can_go_on mark A [] t) parts.1
    | inr other ↦
        let inner = cons_parts byte (parted mark rest) before behind (sym (parted_on mark byte rest other) ∙ is) in
        begin_on begun byte rest other
        ∙ begin_parted (begun ++ byte ∷ []) rest inner.0 behind inner.1
        ∙ ap (λ t. is_some (A.value t) && can_go_on mark A [] behind)
        (append_assoc begun (byte ∷ []) inner.0 ∙ ap (λ t. begun ++ t) inner.2)
  ]

  values_alone : (begun rest : List ℕ) → parted mark rest ≡ None
      → listed_values mark A begun rest ≡ alone (A.value (begun ++ rest))
  values_alone begun [] none = values_end begun ∙ ap (λ t. alone (A.value t)) (sym (append-nil begun))
  values_alone begun (byte ∷ rest) none = elim (cases_Bool (byte == mark)) [
    | inl here ↦ absurd (none-some ([], rest) (sym none ∙ parted_here mark byte rest here))
    | inr other ↦
        values_on begun byte rest other
        ∙ values_alone (begun ++ byte ∷ []) rest (unparted_behind mark (byte ∷ []) rest none)
        ∙ ap (λ t. alone (A.value t)) (append_assoc begun (byte ∷ []) rest)
  ]

  begin_alone : (begun rest : List ℕ) → parted mark rest ≡ None
      → can_go_on mark A begun rest ≡ A.can_begin (begun ++ rest)
  begin_alone begun [] none = begin_end begun ∙ ap A.can_begin (sym (append-nil begun))
  begin_alone begun (byte ∷ rest) none = elim (cases_Bool (byte == mark)) [
    | inl here ↦ absurd (none-some ([], rest) (sym none ∙ parted_here mark byte rest here))
    | inr other ↦
        begin_on begun byte rest other
        ∙ begin_alone (begun ++ byte ∷ []) rest (unparted_behind mark (byte ∷ []) rest none)
        ∙ ap A.can_begin (append_assoc begun (byte ∷ []) rest)
  ]

-- ---- a list whose items are gathered one after the other

abbrev some_value : {V : Type 0} → V → Option V
some_value v = Some v

abbrev text_of : ℕ → Reading ℕ
text_of n = Text n

module _ {V : Type 0} (mark : ℕ) (A : Language V) {S : Type 0} (says : S → List V → ℕ) where
  -- the first item goes to what is gathered
  pub gathered_more : (so_far next : S) (rest before behind : List ℕ) (v : V)
      → ((more : List V) → says next more ≡ says so_far (v ∷ more))
      → Some (before, behind) ≡ parted mark rest → Text v ≡ reading_of A before
      → reading_of (meaning (says next) (listed mark A)) behind ≡ reading_of (meaning (says so_far)
      (listed mark A)) rest
  unfolding meaning listed reading_of
  gathered_more so_far next rest before behind v same split is =
      let there = value_of_text (A.value before) (A.can_begin before) is in
      rw (
        values_parted mark A [] rest before behind (sym split),
        begin_parted mark A [] rest before behind
            (sym split),
        there,
      )
      (by (listed_values mark A [] behind) (can_go_on mark A [] behind))
    where
      value_of_text : (o : Option V) (b : Bool) → Text v ≡ reading o b → o ≡ Some v
      value_of_text (Some u) b e = (let f : u ≡ v = cc in ap (λ x. some_value x) f)
      value_of_text None true e = absurd (let f : Text v ≡ Front = e in cc)
      value_of_text None false e = absurd (let f : Text v ≡ Fault = e in cc)

      by : (o : Option (List V)) (b : Bool)
          → reading (option_map (says next) o) b
          ≡ reading (option_map (says so_far) (option_map (λ others. v ∷ others) o)) b
      by None b = refl
      by (Some more) b = ap (λ n. text_of n) (same more)

  -- a list is broken where its first item is none
  pub gathered_broken : (so_far : S) (rest before behind : List ℕ) → Some (before, behind) ≡ parted mark rest
      → ((v : V) → Text v ≡ reading_of A before → ⊥)
      → Fault ≡ reading_of (meaning (says so_far) (listed mark A)) rest
  unfolding meaning listed reading_of
  gathered_broken so_far rest before behind split broken =
      rw (values_parted mark A [] rest before behind (sym split), begin_parted mark A [] rest before behind (sym split))
      (by (A.value before) (A.can_begin before) broken)
    where
      by : (o : Option V) (b : Bool) → ((v : V) → Text v ≡ reading o b → ⊥)
          → Fault ≡ reading (option_map (says so_far)
          (option_and_then (λ v. option_map (λ others. v ∷ others) (listed_values mark A [] behind)) o))
          (is_some o && can_go_on mark A [] behind)
      by None b not = refl
      by (Some u) b not = absurd (not u refl)

  -- the last item
  pub gathered_last : (so_far : S) (rest : List ℕ) (r : Reading V) → None ≡ parted mark rest → r ≡ reading_of A rest
      → with_meaning (λ v. says so_far (v ∷ [])) r ≡ reading_of (meaning (says so_far) (listed mark A)) rest
  unfolding meaning listed reading_of
  gathered_last so_far rest r none is =
      rw (values_alone mark A [] rest (sym none), begin_alone mark A [] rest (sym none), is)
      (by (A.value rest) (A.can_begin rest))
    where
      by : (o : Option V) (b : Bool)
          → with_meaning (λ v. says so_far (v ∷ [])) (reading o b)
          ≡ reading (option_map (says so_far) (option_map (λ v. v ∷ []) o)) b
      by (Some v) b = refl
      by None true = refl
      by None false = refl
