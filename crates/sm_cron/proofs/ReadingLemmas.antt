-- What a text is to languages that are put together.
use Rattle.std.proofs.Common.{◌≡◌, ℕ, ◌+◌, ◌<◌, ◌≤◌, Bool, true, false, ◌||◌, nat_le, List, [], ◌∷◌, length, map, drop, get_or, Option, Some, None, Bor, refl, sym, ◌∙◌, ap}
use Rattle.std.proofs.lemmas.List.{drop_more, drop_all}
use Rattle.std.specs.Option.{option_map}
use Rattle.sm_cron.specs.Languages.{Language, nothing, word, either, or_else, where_true, meaning, words_of, reading, reading_of, or_reading}
use Rattle.sm_cron.specs.declared.reading.Reading.{Reading}
use Rattle.sm_cron.specs.declared.reading.Reading.TheVariants.{Text, Front, Fault}
use Rattle.sm_cron.proofs.LanguageLemmas.{Says}

module _ {V : Type 0} where
  pub reading_either : (A B : Language V) (text : List ℕ)
      → or_reading (reading_of A text) (reading_of B text) ≡ reading_of (either A B) text
  unfolding either reading_of
  reading_either A B text = by (A.value text) (B.value text) (A.can_begin text) (B.can_begin text)
    where
      by : (o p : Option V) (a b : Bool)
          → or_reading (reading o a) (reading p b) ≡ reading (or_else o p) (a || b)
      by (Some v) p a b = refl
      by None (Some w) true b = refl
      by None (Some w) false b = refl
      by None None true true = refl
      by None None true false = refl
      by None None false true = refl
      by None None false false = refl

  pub reading_nothing : (text : List ℕ) → Fault ≡ reading_of (nothing {V = V}) text
  unfolding nothing reading_of
  reading_nothing text = refl

  pub reading_where : (test : Bool) (L : Language V) (text : List ℕ) → test ≡ true
      → reading_of L text ≡ reading_of (where_true test L) text
  unfolding where_true
  reading_where test L text is = rw is refl

  pub reading_nowhere : (test : Bool) (L : Language V) (text : List ℕ) → test ≡ false
      → Fault ≡ reading_of (where_true test L) text
  unfolding where_true
  reading_nowhere test L text is = rw is (reading_nothing text)

  pub or_fault : (reading : Reading V) → or_reading reading Fault ≡ reading
  or_fault (Text v) = refl
  or_fault Front = refl
  or_fault Fault = refl

  pub or_assoc : (one other third : Reading V)
      → or_reading (or_reading one other) third ≡ or_reading one (or_reading other third)
  or_assoc (Text v) other third = refl
  or_assoc Front (Text v) third = refl
  or_assoc Front Front (Text v) = refl
  or_assoc Front Front Front = refl
  or_assoc Front Front Fault = refl
  or_assoc Front Fault third = refl
  or_assoc Fault other third = refl

  -- what is read is said
  pub said_of : (P : V → Type 0) (L : Language V) (text : List ℕ) (v : V) → Says P L → Text v ≡ reading_of L text → P v
  unfolding reading_of
  said_of P L text v says is = by (L.value text) (L.can_begin text) refl is
    where
      by : (o : Option V) (b : Bool) → L.value text ≡ o → Text v ≡ reading o b → P v
      by (Some w) b said e = (let same : v ≡ w = cc in says.says text v (said ∙ ap Some (sym same)))
      by None true said e = absurd (let f : Text v ≡ Front = e in cc)
      by None false said e = absurd (let f : Text v ≡ Fault = e in cc)

abbrev pub with_meaning : {V W : Type 0} → (V → W) → Reading V → Reading W
with_meaning f (Text v) = Text (f v)
with_meaning f Front = Front
with_meaning f Fault = Fault

pub reading_meaning : {V W : Type 0} (f : V → W) (L : Language V) (text : List ℕ)
    → with_meaning f (reading_of L text) ≡ reading_of (meaning f L) text
unfolding meaning reading_of
reading_meaning {V} {W} f L text = by (L.value text) (L.can_begin text)
  where
    by : (o : Option V) (b : Bool) → with_meaning f (reading o b) ≡ reading (option_map f o) b
    by (Some v) b = refl
    by None true = refl
    by None false = refl

-- meanings that say the same
pub meaning_same : {V W : Type 0} (f g : V → W) (L : Language V) (text : List ℕ) → ((v : V) → f v ≡ g v)
    → reading_of (meaning f L) text ≡ reading_of (meaning g L) text
unfolding meaning reading_of
meaning_same {V} {W} f g L text same = by (L.value text) (L.can_begin text)
  where
    said : W → Reading W
    said w = Text w

    by : (o : Option V) (b : Bool) → reading (option_map f o) b ≡ reading (option_map g o) b
    by (Some v) b = ap said (same v)
    by None b = refl

pub meaning_of : {V W : Type 0} (f : V → W) (L : Language V) (text : List ℕ) (r : Reading V) → r ≡ reading_of L text
    → with_meaning f r ≡ reading_of (meaning f L) text
meaning_of f L text r is = ap (with_meaning f) is ∙ reading_meaning f L text

pub either_of : {V : Type 0} (A B : Language V) (text : List ℕ) (r s : Reading V) → r ≡ reading_of A text
    → s ≡ reading_of B text → or_reading r s ≡ reading_of (either A B) text
either_of A B text r s one other = ap (λ x. or_reading x s) one ∙ ap (or_reading (reading_of A text)) other
    ∙ reading_either A B text

-- ---- words that stand for numbers

words_here : (low number : ℕ) (name : List ℕ) (names : List (List ℕ)) (text : List ℕ)
    → reading_of (words_of low number (name ∷ names)) text
    ≡ or_reading (reading_of (where_true (nat_le low number) (word name number)) text)
    (reading_of (words_of low (number + 1) names) text)
unfolding words_of
words_here low number name names text = sym (reading_either _ _ text)

words_ended : (low number : ℕ) (text : List ℕ) → Fault ≡ reading_of (words_of low number []) text
unfolding words_of
words_ended low number text = reading_nothing text

-- a step of a loop over the words
pub words_step : (low : ℕ) (all : List (Bor (List ℕ))) (place : ℕ) (so_far : Reading ℕ) (text : List ℕ)
    (d : Bor (List ℕ)) → place < length all
    → or_reading so_far (reading_of (words_of low (place + 1) (map (λ n. n.now) (drop place all))) text)
    ≡ reading_of (words_of low 1 (map (λ n. n.now) all)) text
    → (one : Reading ℕ) → one ≡ reading_of (where_true (nat_le low (place + 1)) (word (get_or all place d).now
    (place + 1))) text
    → or_reading (or_reading so_far one)
    (reading_of (words_of low (place + 1 + 1) (map (λ n. n.now) (drop (place + 1) all))) text)
    ≡ reading_of (words_of low 1 (map (λ n. n.now) all)) text
words_step low all place so_far text d within whole one said =
    let further : List (List ℕ) = map (λ n. n.now) (drop (place + 1) all) in
    let first : Bor (List ℕ) = get_or all place d in
    let rest : drop place all ≡ first ∷ drop (place + 1) all = drop_more all place d within in
    let here : or_reading one (reading_of (words_of low (place + 1 + 1) further) text)
    ≡ reading_of (words_of low (place + 1) (map (λ n. n.now) (drop place all))) text =
    ap (λ r. or_reading r (reading_of (words_of low (place + 1 + 1) further) text)) said
    ∙ sym (words_here low (place + 1) first.now further text)
    ∙ ap (λ names. reading_of (words_of low (place + 1) (map (λ n. n.now) names)) text) (sym rest) in
    or_assoc so_far one (reading_of (words_of low (place + 1 + 1) further) text)
    ∙ ap (or_reading so_far) here ∙ whole

-- and its end
pub words_all : (low : ℕ) (all : List (Bor (List ℕ))) (place : ℕ) (so_far : Reading ℕ) (text : List ℕ)
    → length all ≤ place
    → or_reading so_far (reading_of (words_of low (place + 1) (map (λ n. n.now) (drop place all))) text)
    ≡ reading_of (words_of low 1 (map (λ n. n.now) all)) text
    → so_far ≡ reading_of (words_of low 1 (map (λ n. n.now) all)) text
words_all low all place so_far text past whole =
    sym (or_fault so_far) ∙ ap (or_reading so_far) (words_ended low (place + 1) text)
    ∙ ap (λ names. or_reading so_far (reading_of (words_of low (place + 1) (map (λ n. n.now) names)) text))
    (sym (drop_all place all past))
    ∙ whole
