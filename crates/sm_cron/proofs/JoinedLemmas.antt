-- Texts of two languages with a mark between.
use Rattle.std.proofs.Common.{◌≡◌, ℕ, Bool, true, false, ◌==◌, List, [], ◌∷◌, ◌++◌, Option, Some, None, refl, sym, ◌∙◌, ap}
use Rattle.std.proofs.lemmas.Bool.{false≢true}
use Rattle.std.proofs.lemmas.List.{append_assoc}
use Rattle.std.proofs.lemmas.Option.{none-some}
use Rattle.std.specs.Option.{is_some, option_map_or, option_and_then}
use Rattle.sm_cron.specs.Languages.{Language, IsRight, joined, parted, reading, reading_of, unfinished}
use Rattle.sm_cron.specs.declared.reading.Reading.{Reading}
use Rattle.sm_cron.specs.declared.reading.Reading.TheVariants.{Text, Front, Fault}
use Rattle.sm_cron.proofs.LanguageLemmas.{some_of, text_begins, Avoids, Says}
use Rattle.sm_cron.proofs.PartedLemmas.{parted_joined, parted_more, parted_with, parted_is, unparted_append, unparted_on}

abbrev Parts : Type 0
Parts = List ℕ × List ℕ

module _ {V W : Type 0} (mark : ℕ) (A : Language V) (B : V → Language W) where
  -- what a text says by its parts
  abbrev second_value : List ℕ → Option V → Option W
  second_value behind o = option_and_then (λ says. (B says).value behind) o

  abbrev parts_value : Option Parts → Option W
  parts_value o = option_and_then (λ parts. second_value parts.1 (A.value parts.0)) o

  abbrev second_begins : List ℕ → Option V → Bool
  second_begins behind o = option_map_or (λ says. (B says).can_begin behind) o false

  abbrev parts_begin : List ℕ → Option Parts → Bool
  parts_begin front o = option_map_or (λ parts. second_begins parts.1 (A.value parts.0)) o (A.can_begin front)

  -- the second language can be told from the first, and has a text
  pub record GoesOn : Type 0 where
    pub first : IsRight A
    pub apart : Avoids mark A
    pub second : (text : List ℕ) (v : V) → A.value text ≡ Some v → IsRight (B v)
    pub lively : (text : List ℕ) (v : V) → A.value text ≡ Some v → (B v).can_begin [] ≡ true

  second_more : (o : Option V) (front before behind : List ℕ) → GoesOn → A.value before ≡ o
      → second_begins behind o ≡ true → (rest : List ℕ) × (is_some (second_value (behind ++ rest) o) ≡ true)
  second_more None front before behind on is can = absurd (false≢true can)
  second_more (Some v) front before behind on is can = (on.second before v is).begins behind can

  second_only : (o : Option V) (before behind rest : List ℕ) → GoesOn → A.value before ≡ o
      → is_some (second_value (behind ++ rest) o) ≡ true → second_begins behind o ≡ true
  second_only None before behind rest on is some = absurd (false≢true some)
  second_only (Some v) before behind rest on is some = (on.second before v is).only behind rest some

  joined_text : (front rest behind : List ℕ) (v : V) → GoesOn → A.value (front ++ rest) ≡ Some v
      → is_some ((B v).value behind) ≡ true
      → is_some (parts_value (parted mark (front ++ (rest ++ mark ∷ behind)))) ≡ true
  joined_text front rest behind v on is some =
      let split : parted mark (front ++ (rest ++ mark ∷ behind)) ≡ Some (front ++ rest, behind) =
      ap (parted mark) (sym (append_assoc front rest (mark ∷ behind)))
      ∙ parted_joined mark (front ++ rest) behind (on.apart.unmarked (front ++ rest) v is) in
      rw (split, is) some

  parts_more : (front : List ℕ) (o : Option Parts) → GoesOn → parted mark front ≡ o → parts_begin front o ≡ true
      → (rest : List ℕ) × (is_some (parts_value (parted mark (front ++ rest))) ≡ true)
  parts_more front None on none can =
      let first = on.first.begins front can in
      let one = some_of (A.value (front ++ first.0)) first.1 in
      let second = (on.second (front ++ first.0) one.0 one.1).begins [] (on.lively (front ++ first.0) one.0 one.1) in
      (first.0 ++ mark ∷ second.0, joined_text front first.0 second.0 one.0 on one.1 second.1)
  parts_more front (Some parts) on found can =
      let second = second_more (A.value parts.0) front parts.0 parts.1 on refl can in
      let split : parted mark (front ++ second.0) ≡ Some (parts.0, parts.1 ++ second.0) =
      parted_more mark front second.0 ∙ ap (parted_with mark front second.0) found in
      (second.0, rw split second.1)

  parts_only : (front rest : List ℕ) (o p : Option Parts) → GoesOn → parted mark front ≡ o → parted mark rest ≡ p
      → is_some (parts_value (parted mark (front ++ rest))) ≡ true → parts_begin front o ≡ true
  parts_only front rest None None on none none_of some =
      let split : parted mark (front ++ rest) ≡ None = unparted_append mark front rest none none_of in
      absurd (false≢true (rw split at some))
  parts_only front rest None (Some parts) on none found some =
      let split : parted mark (front ++ rest) ≡ Some (front ++ parts.0, parts.1) =
      parted_more mark front rest ∙ rw (none, found) refl in
      let there : is_some (second_value parts.1 (A.value (front ++ parts.0))) ≡ true =
      ap (λ o. is_some (parts_value o)) (sym split) ∙ some in
      on.first.only front parts.0 (first_there (A.value (front ++ parts.0)) parts.1 there)
    where
      first_there : (o : Option V) (behind : List ℕ) → is_some (second_value behind o) ≡ true → is_some o ≡ true
      first_there None behind e = e
      first_there (Some v) behind e = refl
  parts_only front rest (Some parts) p on found is some =
      let split : parted mark (front ++ rest) ≡ Some (parts.0, parts.1 ++ rest) =
      parted_more mark front rest ∙ ap (parted_with mark front rest) found in
      second_only (A.value parts.0) parts.0 parts.1 rest on refl (ap (λ o. is_some (parts_value o)) (sym split) ∙ some)

  pub right-joined : GoesOn → IsRight (joined mark A B)
  unfolding joined
  right-joined on = record {
    begins = λ front can. parts_more front (parted mark front) on refl can;
    only = λ front rest some. parts_only front rest (parted mark front) (parted mark rest) on refl refl some;
  }

  parts_from : (o : Option Parts) (w : W) → parts_value o ≡ Some w
      → (parts : Parts) × (o ≡ Some parts) × ((v : V) × (A.value parts.0 ≡ Some v) × ((B v).value parts.1 ≡ Some w))
  parts_from None w is = absurd (none-some w is)
  parts_from (Some parts) w is = (let from = second_from (A.value parts.0) is in (parts, refl, from))
    where
      second_from : (o : Option V) → second_value parts.1 o ≡ Some w
          → (v : V) × (o ≡ Some v) × ((B v).value parts.1 ≡ Some w)
      second_from None e = absurd (none-some w e)
      second_from (Some v) e = (v, refl, e)

  pub avoids-joined : (other : ℕ) → (mark == other) ≡ false → Avoids other A
      → ((text : List ℕ) (v : V) → A.value text ≡ Some v → Avoids other (B v)) → Avoids other (joined mark A B)
  unfolding joined
  avoids-joined other apart a b = record {
    unmarked = λ text w is.
        let from = parts_from (parted mark text) w is in
        let parts = from.0 in
        let inner = from.2 in
        ap (parted other) (parted_is mark text parts.0 parts.1 from.1)
        ∙ unparted_append other parts.0 (mark ∷ parts.1) (a.unmarked parts.0 inner.0 inner.1)
        (unparted_on other mark parts.1 apart ((b parts.0 inner.0 inner.1).unmarked parts.1 w inner.2));
  }

  pub says-joined : (P : W → Type 0) → ((text : List ℕ) (v : V) → A.value text ≡ Some v → Says P (B v))
      → Says P (joined mark A B)
  unfolding joined
  says-joined P says = record {
    says = λ text w is.
        let from = parts_from (parted mark text) w is in
        let inner = from.2 in
        (says from.0.0 inner.0 inner.1).says from.0.1 w inner.2;
  }

  pub lively-joined : A.can_begin [] ≡ true → (joined mark A B).can_begin [] ≡ true
  unfolding joined parted
  lively-joined can = can

  -- ---- what a text is to them

  -- before the mark
  reading_apart : (text : List ℕ) → GoesOn → None ≡ parted mark text
      → unfinished (reading_of A text) ≡ reading_of (joined mark A B) text
  unfolding joined reading_of
  reading_apart text on none = rw (sym none) (by (A.value text) refl (A.can_begin text) refl)
    where
      by : (o : Option V) → A.value text ≡ o → (b : Bool) → A.can_begin text ≡ b
          → unfinished (reading o b) ≡ reading {V = W} None b
      by None is true can = refl
      by None is false can = refl
      by (Some v) is b can = rw (sym can ∙ text_begins A text v on.first is) refl

  reading_second : (text before behind : List ℕ) (v : V) → Some (before, behind) ≡ parted mark text
      → Text v ≡ reading_of A before → reading_of (B v) behind ≡ reading_of (joined mark A B) text
  unfolding joined reading_of
  reading_second text before behind v split is = rw (sym split) (by (A.value before) (A.can_begin before) is)
    where
      by : (o : Option V) (b : Bool) → Text v ≡ reading o b
          → reading ((B v).value behind) ((B v).can_begin behind)
          ≡ reading (second_value behind o) (second_begins behind o)
      by None true e = absurd (let f : Text v ≡ Front = e in cc)
      by None false e = absurd (let f : Text v ≡ Fault = e in cc)
      by (Some u) b e = (let same : v ≡ u = cc in rw same refl)

  reading_broken : (text before behind : List ℕ) → Some (before, behind) ≡ parted mark text
      → ((v : V) → reading_of A before ≡ Text v → ⊥) → Fault ≡ reading_of (joined mark A B) text
  unfolding joined reading_of
  reading_broken text before behind split broken =
      rw (sym split) (by (A.value before) (A.can_begin before) broken)
    where
      by : (o : Option V) (b : Bool) → ((v : V) → reading o b ≡ Text v → ⊥)
          → Fault ≡ reading (second_value behind o) (second_begins behind o)
      by None b not = refl
      by (Some u) b not = absurd (not u refl)

  pub unparted_of : GoesOn → (text : List ℕ) (r : Reading V) (u : Reading W) → u ≡ unfinished r
      → None ≡ parted mark text → r ≡ reading_of A text
      → u ≡ reading_of (joined mark A B) text
  unparted_of on text r u ends none is = ends ∙ ap (λ x. unfinished x) is ∙ reading_apart text on none

  -- behind it
  pub second_of : GoesOn → (text before behind : List ℕ) (v : V) (r : Reading W)
      → Some (before, behind) ≡ parted mark text
      → Text v ≡ reading_of A before → r ≡ reading_of (B v) behind → r ≡ reading_of (joined mark A B) text
  second_of on text before behind v r split first is = is ∙ reading_second text before behind v split first

  pub front_broken : GoesOn → (text before behind : List ℕ) → Some (before, behind) ≡ parted mark text
      → Front ≡ reading_of A before → Fault ≡ reading_of (joined mark A B) text
  front_broken on text before behind split is =
      reading_broken text before behind split (λ v e. (let f : Front ≡ Text v = is ∙ e in cc))

  pub fault_broken : GoesOn → (text before behind : List ℕ) → Some (before, behind) ≡ parted mark text
      → Fault ≡ reading_of A before → Fault ≡ reading_of (joined mark A B) text
  fault_broken on text before behind split is =
      reading_broken text before behind split (λ v e. (let f : Fault ≡ Text v = is ∙ e in cc))
