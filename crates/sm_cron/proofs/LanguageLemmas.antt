-- Small languages, and that each is right about what can begin a text of it.
use Rattle.std.proofs.Common.{◌≡◌, ℕ, ◌+◌, ◌≤◌, Bool, true, false, ◌⊎◌, nat_eq, nat_le, List, [], ◌∷◌, ◌++◌, length, drop, Option, Some, None, refl, sym, ◌∙◌, ap, subst, inl, inr, arith}
use Rattle.std.proofs.lemmas.Bool.{cases_Bool, or_cases, or_left, or_right, leb-true, false≢true}
use Rattle.std.proofs.lemmas.Bool.Decides.{Decides-eqb}
use Rattle.std.proofs.lemmas.List.{append-nil, append_assoc}
use Rattle.std.proofs.lemmas.Option.{none-some}
use Rattle.std.proofs.lemmas.Slice.Eq.{slice_eq-Decides, starts_is}
use Rattle.std.specs.Cmp.Lexicographic.{pointwise}
use Rattle.std.specs.List.{starts_with}
use Rattle.std.specs.Option.{is_some, option_map}
use Rattle.sm_cron.specs.Languages.{Language, IsRight, nothing, word, either, or_else, where_true, meaning, words_of, parted}

pub some_of : {V : Type 0} (o : Option V) → is_some o ≡ true → (v : V) × (o ≡ Some v)
some_of None e = absurd (false≢true e)
some_of (Some v) e = (v, refl)

module _ {V : Type 0} where
  -- a text that a language has can begin one
  pub text_begins : (L : Language V) (text : List ℕ) (v : V) → IsRight L → L.value text ≡ Some v
      → L.can_begin text ≡ true
  text_begins L text v right is = right.only text [] (ap is_some (ap L.value (append-nil text) ∙ is))

  -- and so can each front of what can
  pub shorter : (L : Language V) (front more : List ℕ) → IsRight L → L.can_begin (front ++ more) ≡ true
      → L.can_begin front ≡ true
  shorter L front more right can =
      let further = right.begins (front ++ more) can in
      right.only front (more ++ further.0)
      (ap (λ t. is_some (L.value t)) (sym (append_assoc front more further.0)) ∙ further.1)

  -- no text of the language has the mark
  pub record Avoids (mark : ℕ) (L : Language V) : Type 0 where
    pub unmarked : (text : List ℕ) (v : V) → L.value text ≡ Some v → parted mark text ≡ None

  -- what its texts say is so
  pub record Says (P : V → Type 0) (L : Language V) : Type 0 where
    pub says : (text : List ℕ) (v : V) → L.value text ≡ Some v → P v

  -- ---- no text

  pub right-nothing : IsRight (nothing {V = V})
  unfolding nothing
  right-nothing = record {
    begins = λ front can. absurd (false≢true can);
    only = λ front rest some. absurd (false≢true some);
  }

  pub avoids-nothing : (mark : ℕ) → Avoids mark (nothing {V = V})
  unfolding nothing
  avoids-nothing mark = record { unmarked = λ text v is. absurd (none-some v is) }

  pub says-nothing : (P : V → Type 0) → Says P (nothing {V = V})
  unfolding nothing
  says-nothing P = record { says = λ text v is. absurd (none-some v is) }

  -- ---- one word

  word_is : (bytes : List ℕ) (says : V) (text : List ℕ) → is_some ((word bytes says).value text) ≡ true → text ≡ bytes
  unfolding word
  word_is bytes says text some = elim (cases_Bool (pointwise nat_eq text bytes)) [
    | inl same ↦ (slice_eq-Decides Decides-eqb text bytes (pointwise nat_eq text bytes) refl).0 same
    | inr other ↦ absurd (false≢true (rw other at some))
  ]

  is_word : (bytes : List ℕ) (says : V) (text : List ℕ) → text ≡ bytes → (word bytes says).value text ≡ Some says
  unfolding word
  is_word bytes says text same =
      rw ((slice_eq-Decides Decides-eqb text bytes (pointwise nat_eq text bytes) refl).1 same) refl

  pub right-word : (bytes : List ℕ) (says : V) → IsRight (word bytes says)
  unfolding word
  right-word bytes says = record {
    begins = λ front can.
        let is = (starts_is Decides-eqb bytes front (starts_with nat_eq bytes front) refl).0 can in
        (drop (length front) bytes, ap is_some (is_word bytes says (front ++ drop (length front) bytes) (sym is)));
    only = λ front rest some.
        (starts_is Decides-eqb bytes front (starts_with nat_eq bytes front) refl).1 rest
        (sym (word_is bytes says (front ++ rest) some));
  }

  pub avoids-word : (mark : ℕ) (bytes : List ℕ) (says : V) → parted mark bytes ≡ None → Avoids mark (word bytes says)
  avoids-word mark bytes says none = record {
    unmarked = λ text v is. ap (parted mark) (word_is bytes says text (ap is_some is)) ∙ none;
  }

  pub says-word : (P : V → Type 0) (bytes : List ℕ) (says : V) → P says → Says P (word bytes says)
  says-word P bytes says holds = record {
    says = λ text v is.
        let same : Some says ≡ Some v = sym (is_word bytes says text (word_is bytes says text (ap is_some is))) ∙ is in
        let e : says ≡ v = cc in subst P e holds;
  }

  -- ---- the one or the other

  else_cases : (o p : Option V) (v : V) → or_else o p ≡ Some v → ((o ≡ Some v) ⊎ (p ≡ Some v))
  else_cases None p v is = inr is
  else_cases (Some u) p v is = inl is

  else_first : (o p : Option V) → is_some o ≡ true → is_some (or_else o p) ≡ true
  else_first None p some = absurd (false≢true some)
  else_first (Some u) p some = refl

  else_second : (o p : Option V) → is_some p ≡ true → is_some (or_else o p) ≡ true
  else_second None p some = some
  else_second (Some u) p some = refl

  some_cases : (o p : Option V) → is_some (or_else o p) ≡ true → ((is_some o ≡ true) ⊎ (is_some p ≡ true))
  some_cases None p some = inr some
  some_cases (Some u) p some = inl refl

  pub right-either : (A B : Language V) → IsRight A → IsRight B → IsRight (either A B)
  unfolding either
  right-either A B a b = record {
    begins = λ front can. elim (or_cases (A.can_begin front) (B.can_begin front) can) [
      | inl one ↦ (let r = a.begins front one in (
        r.0,
        else_first (A.value (front ++ r.0)) (B.value
            (front ++ r.0)) r.1,
      ))
      | inr one ↦ (let r = b.begins front one in (
        r.0,
        else_second (A.value (front ++ r.0)) (B.value
            (front ++ r.0)) r.1,
      ))
    ];
    only = λ front rest some. elim (some_cases (A.value (front ++ rest)) (B.value (front ++ rest)) some) [
      | inl one ↦ or_left (A.can_begin front) (B.can_begin front) (a.only front rest one)
      | inr one ↦ or_right (A.can_begin front) (B.can_begin front) (b.only front rest one)
    ];
  }

  pub avoids-either : (mark : ℕ) (A B : Language V) → Avoids mark A → Avoids mark B → Avoids mark (either A B)
  unfolding either
  avoids-either mark A B a b = record {
    unmarked = λ text v is. elim (else_cases (A.value text) (B.value text) v is) [
      | inl one ↦ a.unmarked text v one
      | inr one ↦ b.unmarked text v one
    ];
  }

  pub says-either : (P : V → Type 0) (A B : Language V) → Says P A → Says P B → Says P (either A B)
  unfolding either
  says-either P A B a b = record {
    says = λ text v is. elim (else_cases (A.value text) (B.value text) v is) [
      | inl one ↦ a.says text v one
      | inr one ↦ b.says text v one
    ];
  }

  pub lively_one : (A B : Language V) → A.can_begin [] ≡ true → (either A B).can_begin [] ≡ true
  unfolding either
  lively_one A B one = or_left (A.can_begin []) (B.can_begin []) one

  pub lively_other : (A B : Language V) → B.can_begin [] ≡ true → (either A B).can_begin [] ≡ true
  unfolding either
  lively_other A B one = or_right (A.can_begin []) (B.can_begin []) one

  -- ---- where a test holds

  pub right-where_true : (test : Bool) (L : Language V) → IsRight L → IsRight (where_true test L)
  unfolding where_true
  right-where_true true L right = right
  right-where_true false L right = right-nothing

  pub avoids-where_true : (mark : ℕ) (test : Bool) (L : Language V) → Avoids mark L → Avoids mark (where_true test L)
  unfolding where_true
  avoids-where_true mark true L avoids = avoids
  avoids-where_true mark false L avoids = avoids-nothing mark

  pub says-where_true : (P : V → Type 0) (test : Bool) (L : Language V) → (test ≡ true → Says P L)
      → Says P (where_true test L)
  unfolding where_true
  says-where_true P true L says = says refl
  says-where_true P false L says = says-nothing P

  pub lively-where_true : (test : Bool) (L : Language V) → test ≡ true → L.can_begin [] ≡ true
      → (where_true test L).can_begin [] ≡ true
  unfolding where_true
  lively-where_true test L holds can = rw holds can

module _ {V W : Type 0} (f : V → W) (L : Language V) where
  mapped_some : (o : Option V) → is_some (option_map f o) ≡ is_some o
  mapped_some None = refl
  mapped_some (Some v) = refl

  mapped_from : (o : Option V) (w : W) → option_map f o ≡ Some w → (v : V) × (o ≡ Some v) × (f v ≡ w)
  mapped_from None w is = absurd (none-some w is)
  mapped_from (Some v) w is = (v, refl, (let e : f v ≡ w = cc in e))

  pub right-meaning : IsRight L → IsRight (meaning f L)
  unfolding meaning
  right-meaning right = record {
    begins = λ front can. (let r = right.begins front can in (r.0, mapped_some (L.value (front ++ r.0)) ∙ r.1));
    only = λ front rest some. right.only front rest (sym (mapped_some (L.value (front ++ rest))) ∙ some);
  }

  pub avoids-meaning : (mark : ℕ) → Avoids mark L → Avoids mark (meaning f L)
  unfolding meaning
  avoids-meaning mark avoids = record {
    unmarked = λ text w is. (let from = mapped_from (L.value text) w is in avoids.unmarked text from.0 from.1);
  }

  pub says-meaning : (P : W → Type 0) → Says (λ v. P (f v)) L → Says P (meaning f L)
  unfolding meaning
  says-meaning P says = record {
    says = λ text w is. (let from = mapped_from (L.value text) w is in subst P from.2 (says.says text from.0 from.1));
  }

-- ---- words that stand for numbers

pub right-words_of : (low number : ℕ) (names : List (List ℕ)) → IsRight (words_of low number names)
unfolding words_of
right-words_of low number [] = right-nothing
right-words_of low number (name ∷ names) =
    right-either _ _ (right-where_true (nat_le low number) _ (right-word name number))
    (right-words_of low (number + 1) names)

-- none of the words has the mark
abbrev pub AreUnmarked : ℕ → List (List ℕ) → Type 0
AreUnmarked mark [] = Unit {0}
AreUnmarked mark (name ∷ names) = (parted mark name ≡ None) × AreUnmarked mark names

pub avoids-words_of : (mark low number : ℕ) (names : List (List ℕ)) → AreUnmarked mark names
    → Avoids mark (words_of low number names)
unfolding words_of
avoids-words_of mark low number [] none = avoids-nothing mark
avoids-words_of mark low number (name ∷ names) none =
    avoids-either mark _ _ (avoids-where_true mark (nat_le low number) _ (avoids-word mark name number none.0))
    (avoids-words_of mark low (number + 1) names none.1)

pub says-words_of : (low number greatest : ℕ) (names : List (List ℕ)) → number + length names ≤ greatest + 1
    → Says (λ n. (low ≤ n) × (n ≤ greatest)) (words_of low number names)
unfolding words_of
says-words_of low number greatest [] within = says-nothing _
says-words_of low number greatest (name ∷ names) within =
    says-either _ _ _
    (says-where_true _ (nat_le low number) _
    (λ holds. says-word _ name number (leb-true low number holds, omega arith)))
    (says-words_of low (number + 1) greatest names (omega arith))

pub lively-meaning : {V W : Type 0} (f : V → W) (L : Language V) → L.can_begin [] ≡ true
    → (meaning f L).can_begin [] ≡ true
unfolding meaning
lively-meaning f L can = can

pub lively-word : {V : Type 0} (bytes : List ℕ) (says : V) → (word bytes says).can_begin [] ≡ true
unfolding word
lively-word bytes says = refl
