-- What is so of each password: its length, its characters, and one of each class.
use Rattle.std.proofs.Common.{◌≡◌, ℕ, ◌%◌, ◌<◌, ◌≤◌, true, false, ltb, ◌==◌, List, [], ◌∷◌, length, refl, get_or, sym, ap, subst, ◌∙◌, arith}
use Rattle.std.specs.List.{All, concat}
use Rattle.std.specs.Str.{is_utf8}
use Rattle.std.proofs.lemmas.Bool.{cond_both, ltb-true, lt-ltb}
use Rattle.std.proofs.lemmas.Bool.Decides.{nat_tests}
use Rattle.std.proofs.lemmas.Str.{IsUtf8-from_ascii, is_utf8-from_IsUtf8}
use Rattle.std.proofs.lemmas.Str.Ascii.{IsAscii-from_all}
use Rattle.std.proofs.lemmas.List.{get_or_default, length-append}
use Rattle.std.proofs.lemmas.List.Elements.{All-nil, All-append, All-head, All-tail, All-get_or, All-weaker}
use Rattle.sm_password.specs.declared.ask.PasswordAsk.{PasswordAsk}
use Rattle.sm_password.specs.declared.class.Class.{Class}
use Rattle.sm_password.specs.Classes.{classes, kept, is_asked, is_in_class, is_left, is_asked_in, may_have}
use Rattle.sm_password.specs.Passwords.{word, character_at, required, choices, draft_character, inserted, place, password_text, HasAskedAlone, HasEach}
use Rattle.sm_password.proofs.ClassLemmas.{All-kept, kept_has, may_have_in, may_have_ascii, All-classes, Contains-classes}
use Rattle.sm_password.proofs.InsertedLemmas.{length_inserted, All-inserted, Contains-inserted}

All-concat : (P : ℕ → Type 0) (lists : List (List ℕ)) → All (All P) lists → All P (concat lists)
All-concat P [] holds = All-nil P
All-concat P (xs ∷ lists) holds =
    All-append P xs (concat lists) (All-head (All P) xs lists holds)
    (All-concat P lists (All-tail (All P) xs lists holds))

All-character_at : (P : ℕ → Type 0) (class : List ℕ) (number : ℕ) → 0 < length class → All P class →
    P (character_at class number)
All-character_at P class number some holds =
    let below : number % length class < length class = omega arith in
    All-get_or P class (number % length class) 0 below holds

-- no more classes are required than there are
pub required_within : (ask : PasswordAsk) → required ask ≤ length (classes ask)
required_within ask = cond_both ask.each (length (classes ask)) 0 (λ n. n ≤ length (classes ask))
    (λ _. omega arith) (λ _. omega arith)

-- each of the classes has a character
pub classes_filled : (ask : PasswordAsk) → All (λ class. 0 < length class) (classes ask)
classes_filled ask = All-classes (λ class. 0 < length class) ask (λ class asked some. some)

-- each character of the classes is one that a password may have
classes_asked : (ask : PasswordAsk) → All (All (λ c. may_have ask c ≡ true)) (classes ask)
classes_asked ask =
    All-classes (All (λ c. may_have ask c ≡ true)) ask
    (λ class asked some. All-weaker (λ c. is_asked_in ask c class ≡ true) (λ c. may_have ask c ≡ true)
    (λ c. may_have_in ask c class) (kept ask.exclude class) (All-kept ask class asked))

draft_asked : (ask : PasswordAsk) (drawn : List ℕ) → 0 < length (concat (classes ask)) → (k : ℕ) →
    may_have ask (draft_character (classes ask) (required ask) drawn k) ≡ true
draft_asked ask drawn some k =
    cond_both (ltb k (required ask)) (get_or (classes ask) k []) (concat (classes ask))
    (λ choices. may_have ask (character_at choices (word drawn k)) ≡ true)
    (λ e.
    let below : k < required ask = ltb-true k (required ask) e in
    let within : k < length (classes ask) = omega (arith, required_within ask) in
    All-character_at (λ c. may_have ask c ≡ true) (get_or (classes ask) k []) (word drawn k)
    (classes_filled ask k [] within) (classes_asked ask k [] within))
    (λ e. All-character_at (λ c. may_have ask c ≡ true) (concat (classes ask)) (word drawn k) some
    (All-concat (λ c. may_have ask c ≡ true) (classes ask) (classes_asked ask)))

-- the password has the length that is asked
pub length_password : (ask : PasswordAsk) (drawn : List ℕ) → length (password_text ask drawn) ≡ ask.length
length_password ask drawn = length_inserted _ _ ask.length

-- its characters are of the classes that are asked for, and not excluded
pub password_asked : (ask : PasswordAsk) (drawn : List ℕ) → 0 < length (concat (classes ask)) →
    HasAskedAlone ask (password_text ask drawn)
password_asked ask drawn some =
    All-inserted (λ c. may_have ask c ≡ true) (draft_character (classes ask) (required ask) drawn)
    (place ask.length drawn) ask.length (λ k below. draft_asked ask drawn some k)

-- it is text
pub password_utf8 : (ask : PasswordAsk) (drawn : List ℕ) → 0 < length (concat (classes ask)) →
    is_utf8 (password_text ask drawn) ≡ true
password_utf8 ask drawn some =
    is_utf8-from_IsUtf8 (password_text ask drawn) (IsUtf8-from_ascii (password_text ask drawn)
    (IsAscii-from_all (password_text ask drawn)
    (All-weaker (λ c. may_have ask c ≡ true) (λ c. c < 128) (may_have_ascii ask) (password_text ask drawn)
    (password_asked ask drawn some))))

-- the draft has a character of each class that is required
draft_has : (ask : PasswordAsk) (drawn : List ℕ) (class : Class) (k : ℕ) → is_asked ask class ≡ true →
    k < required ask → get_or (classes ask) k [] ≡ kept ask.exclude class → 0 < length (kept ask.exclude class) →
    is_asked_in ask (draft_character (classes ask) (required ask) drawn k) class ≡ true
draft_has ask drawn class k asked below at some =
    let chosen : choices (classes ask) (required ask) k ≡ kept ask.exclude class = rw (lt-ltb k
    (required ask) below) at in
    subst (λ (cs : List ℕ). is_asked_in ask (character_at cs (word drawn k)) class ≡ true) (sym chosen)
    (All-character_at (λ c. is_asked_in ask c class ≡ true) (kept ask.exclude class) (word drawn k) some
    (All-kept ask class asked))

-- where each class is required, it has a character of each
pub password_each : (ask : PasswordAsk) (drawn : List ℕ) → required ask ≤ ask.length → ask.each ≡ true →
    HasEach ask (password_text ask drawn)
password_each ask drawn enough each class c inside =
    let asked : is_asked ask class ≡ true = grind arith in
    let member : is_in_class class c ≡ true = grind arith in
    let left : is_left ask.exclude c ≡ true = grind arith in
    let some = kept_has ask.exclude class c member left in
    let there = Contains-classes ask class asked some in
    let all : required ask ≡ length (classes ask) = rw each in
    let draft = draft_character (classes ask) (required ask) drawn in
    let same : get_or (classes ask) there.0 [] ≡ kept ask.exclude class = rw (get_or_default
    (classes ask) there.0 [] (kept ask.exclude class) there.1) there.2 in
    let has = draft_has ask drawn class there.0 asked (omega arith) same some in
    let at = Contains-inserted draft (place ask.length drawn) ask.length there.0 (omega arith) in
    (at.0, draft there.0, at.1, at.2, has)

-- the text that a call makes of an alphabet is the password
pub text_is_password : (ask : PasswordAsk) (drawn text : List ℕ) (lists : List (List ℕ)) (least : ℕ) →
    lists ≡ classes ask → least ≡ required ask →
    text ≡ inserted (draft_character lists least drawn) (place ask.length drawn) ask.length →
    text ≡ password_text ask drawn
text_is_password ask drawn text lists least same enough made =
    made ∙ ap (λ (cs : List (List ℕ)). inserted (draft_character cs least drawn)
    (place ask.length drawn) ask.length) same
    ∙ ap (λ (n : ℕ). inserted (draft_character (classes ask) n drawn) (place ask.length drawn) ask.length) enough

-- an alphabet that is not empty has a character
pub some_character : (ask : PasswordAsk) (lists : List (List ℕ)) → lists ≡ classes ask →
    (length (concat lists) == 0) ≡ false → 0 < length (concat (classes ask))
some_character ask lists same filled = rw (← same) (grind (arith, nat_tests, filled))

first_filled : (lists : List (List ℕ)) → All (λ class. 0 < length class) lists →
    (length (concat lists) == 0) ≡ (length lists == 0)
first_filled [] filled = refl
first_filled (xs ∷ lists) filled =
    let some = All-head (λ class. 0 < length class) xs lists filled in
    grind (arith, nat_tests, some, length-append xs (concat lists))

-- no character is left exactly where no class is
pub none_left : (ask : PasswordAsk) → (length (concat (classes ask)) == 0) ≡ (length (classes ask) == 0)
none_left ask = first_filled (classes ask) (classes_filled ask)
