-- The classes: which characters they have, and what is so of each class that is asked for.
use Rattle.std.proofs.Common.{◌≡◌, ℕ, ◌+◌, ◌<◌, Bool, true, false, cond, ◌&&◌, ◌==◌, List, [], ◌∷◌, ◌++◌, length, get_or, take, refl, sym, ap, ◌∙◌, arith, inl, inr}
use Rattle.std.specs.List.{All, Contains, concat, filter, list_all, list_any}
use Rattle.std.proofs.lemmas.Bool.{cases_Bool, or_parts, agree_below, agree_below_at, false≢true}
use Rattle.std.proofs.lemmas.Bool.Decides.{nat_tests, eqb_tells}
use Rattle.std.proofs.lemmas.List.{append-nil, append_assoc, take_more}
use Rattle.std.proofs.lemmas.List.Elements.{All-nil, All-cons, All-append, All-filter, filter_passes, Contains-append_left, Contains-append_right}
use Rattle.std.proofs.lemmas.List.Folds.{Any-from_list_any, list_any_at}
use Rattle.sm_password.specs.declared.ask.PasswordAsk.{PasswordAsk}
use Rattle.sm_password.specs.declared.class.Class.{Class}
use Rattle.sm_password.specs.declared.class.Class.TheVariants.{Lower, Upper, Digits, Punctuation, Space}
use Rattle.sm_password.specs.Classes.{characters_of, is_left, kept, unless_empty, asked_class, classes, is_in_class, is_asked, is_asked_in, every_class, may_have}

-- ---- the characters of a class

-- a class has the characters that are in it in words of their own
is_member_below : (class : Class) → agree_below (is_in_class class) (λ c. list_any (λ e. e == c)
    (characters_of class)) 128 ≡ true
unfolding characters_of
is_member_below Lower = refl
is_member_below Upper = refl
is_member_below Digits = refl
is_member_below Punctuation = refl
is_member_below Space = refl

-- its characters are ASCII
pub in_class_ascii : (class : Class) (c : ℕ) → is_in_class class c ≡ true → c < 128
in_class_ascii Lower c e = grind (arith, nat_tests)
in_class_ascii Upper c e = grind (arith, nat_tests)
in_class_ascii Digits c e = grind (arith, nat_tests)
in_class_ascii Punctuation c e = grind (arith, nat_tests)
in_class_ascii Space c e = grind (arith, nat_tests)

all_in_class : (class : Class) → list_all (is_in_class class) (characters_of class) ≡ true
unfolding characters_of
all_in_class Lower = refl
all_in_class Upper = refl
all_in_class Digits = refl
all_in_class Punctuation = refl
all_in_class Space = refl

All-from_list_all : (p : ℕ → Bool) (xs : List ℕ) → list_all p xs ≡ true → All (λ x. p x ≡ true) xs
All-from_list_all p [] e = All-nil (λ x. p x ≡ true)
All-from_list_all p (x ∷ xs) e =
    All-cons (λ y. p y ≡ true) x xs (grind arith) (All-from_list_all p xs (grind arith))

all_three : (x y z : Bool) → x ≡ true → y ≡ true → z ≡ true → (x && y && z) ≡ true
all_three x y z p q r = rw (p, q, r)

-- what is kept of a class that is asked for may stand in a password
pub All-kept : (ask : PasswordAsk) (class : Class) → is_asked ask class ≡ true →
    All (λ c. is_asked_in ask c class ≡ true) (kept ask.exclude class)
unfolding kept
All-kept ask class asked =
    let inside = All-filter (is_left ask.exclude) (λ c. is_in_class class c ≡ true) (characters_of class)
    (All-from_list_all (is_in_class class) (characters_of class) (all_in_class class)) in
    let left = filter_passes (is_left ask.exclude) (characters_of class) in
    λ k d below. all_three _ _ _ asked (inside k d below) (left k d below)

-- a character of the class that is not excluded is kept
filter_has : (p : ℕ → Bool) (c : ℕ) (xs : List ℕ) → list_any (λ e. e == c) xs ≡ true → p c ≡ true →
    0 < length (filter p xs)
filter_has p c [] any passes = absurd (false≢true any)
filter_has p c (x ∷ xs) any passes =
    elim (eqb_tells x c) [
      | inl same ↦ let here : p x ≡ true = ap p same.1 ∙ passes in rw here (omega arith)
      | inr other ↦
          let further : list_any (λ e. e == c) xs ≡ true = grind (arith, other.0) in
          let rest = filter_has p c xs further passes in
          grind (arith, rest)
    ]

pub kept_has : (exclude : List ℕ) (class : Class) (c : ℕ) → is_in_class class c ≡ true → is_left exclude c ≡ true →
    0 < length (kept exclude class)
unfolding kept
kept_has exclude class c inside left =
    let member = sym (agree_below_at (is_in_class class) (λ e. list_any (λ f. f == e) (characters_of class)) 128 c
    (is_member_below class) (in_class_ascii class c inside)) ∙ inside in
    filter_has (is_left exclude) c (characters_of class) member left

-- what is kept is empty exactly where no character is left
filter_some : (p : ℕ → Bool) (xs : List ℕ) → list_any p xs ≡ true → 0 < length (filter p xs)
filter_some p [] any = absurd (false≢true any)
filter_some p (x ∷ xs) any =
    elim (cases_Bool (p x)) [
      | inl passes ↦ rw passes (omega arith)
      | inr fails ↦
          let further : list_any p xs ≡ true = grind (arith, fails) in
          rw fails (filter_some p xs further)
    ]

filter_none : (p : ℕ → Bool) (xs : List ℕ) → list_any p xs ≡ false → filter p xs ≡ []
filter_none p [] none = refl
filter_none p (x ∷ xs) none =
    let parts = or_parts (p x) (list_any p xs) none in
    rw (parts.0, filter_none p xs parts.1) refl

length_unless_empty : (xs : List ℕ) → 0 < length xs → length (unless_empty xs) ≡ 1
length_unless_empty [] some = absurd (omega arith)
length_unless_empty (x ∷ xs) some = refl

-- a class counts where it is asked for and has a character left
pub asked_count : (exclude : List ℕ) (asked : Bool) (class : Class) →
    length (asked_class exclude asked class)
    ≡ cond (asked && list_any (is_left exclude) (characters_of class)) 1 0
unfolding kept
asked_count exclude true class =
    elim (cases_Bool (list_any (is_left exclude) (characters_of class))) [
      | inl some ↦
          rw some (length_unless_empty (kept exclude class) (filter_some (is_left exclude) (characters_of class) some))
      | inr none ↦
          let empty : kept exclude class ≡ [] = filter_none (is_left exclude) (characters_of class) none in
          rw (none, empty) refl
    ]
asked_count exclude false class = refl

-- a character of one class that is asked for is one that a password may have
pub may_have_in : (ask : PasswordAsk) (c : ℕ) (class : Class) → is_asked_in ask c class ≡ true → may_have ask c ≡ true
may_have_in ask c Lower e = list_any_at (is_asked_in ask c) every_class 0 Lower (omega arith) e
may_have_in ask c Upper e = list_any_at (is_asked_in ask c) every_class 1 Lower (omega arith) e
may_have_in ask c Digits e = list_any_at (is_asked_in ask c) every_class 2 Lower (omega arith) e
may_have_in ask c Punctuation e = list_any_at (is_asked_in ask c) every_class 3 Lower (omega arith) e
may_have_in ask c Space e = list_any_at (is_asked_in ask c) every_class 4 Lower (omega arith) e

in_some_class : (ask : PasswordAsk) (c : ℕ) (class : Class) → is_asked_in ask c class ≡ true → c < 128
in_some_class ask c class e = in_class_ascii class c (grind arith)

-- a character that a password may have is ASCII
pub may_have_ascii : (ask : PasswordAsk) (c : ℕ) → may_have ask c ≡ true → c < 128
may_have_ascii ask c e =
    let some = Any-from_list_any (is_asked_in ask c) every_class e in
    in_some_class ask c some.1 some.4

-- ---- the classes that are asked for

concat_push : (lists : List (List ℕ)) (xs : List ℕ) → concat (lists ++ xs ∷ []) ≡ concat lists ++ xs
concat_push [] xs = append-nil xs
concat_push (ys ∷ lists) xs = simp (concat_push lists xs, append_assoc)

-- one class more
pub concat_more : (lists : List (List ℕ)) (i : ℕ) (d : List ℕ) → i < length lists →
    concat (take (i + 1) lists) ≡ concat (take i lists) ++ get_or lists i d
concat_more lists i d within = rw (take_more lists i d within) (concat_push (take i lists) (get_or lists i d))

All-unless_empty : (Q : List ℕ → Type 0) (xs : List ℕ) → (0 < length xs → Q xs) → All Q (unless_empty xs)
All-unless_empty Q [] holds = All-nil Q
All-unless_empty Q (x ∷ xs) holds = All-cons Q (x ∷ xs) [] (holds (omega arith)) (All-nil Q)

All-asked : (Q : List ℕ → Type 0) (exclude : List ℕ) (asked : Bool) (class : Class) → (asked ≡ true →
    0 < length (kept exclude class) → Q (kept exclude class)) → All Q (asked_class exclude asked class)
All-asked Q exclude true class holds = All-unless_empty Q (kept exclude class) (holds refl)
All-asked Q exclude false class holds = All-nil Q

-- what is so of each class that is asked for and has a character is so of each of the classes
pub All-classes : (Q : List ℕ → Type 0) (ask : PasswordAsk) → ((class : Class) → is_asked ask class ≡ true →
    0 < length (kept ask.exclude class) → Q (kept ask.exclude class)) → All Q (classes ask)
All-classes Q ask holds =
    let of = λ (asked : Bool) (class : Class). asked_class ask.exclude asked class in
    All-append Q (of ask.lower Lower) _ (All-asked Q ask.exclude ask.lower Lower (holds Lower))
    (All-append Q (of ask.upper Upper) _ (All-asked Q ask.exclude ask.upper Upper (holds Upper))
    (All-append Q (of ask.digits Digits) _ (All-asked Q ask.exclude ask.digits Digits (holds Digits))
    (All-append Q (of ask.punctuation Punctuation) _ (All-asked Q ask.exclude ask.punctuation Punctuation
    (holds Punctuation))
    (All-asked Q ask.exclude ask.space Space (holds Space)))))

Contains-unless_empty : (xs : List ℕ) → 0 < length xs → Contains (unless_empty xs) xs
Contains-unless_empty [] some = absurd (omega arith)
Contains-unless_empty (x ∷ xs) some = (0, omega arith, refl)

Contains-asked : (exclude : List ℕ) (asked : Bool) (class : Class) → asked ≡ true →
    0 < length (kept exclude class) → Contains (asked_class exclude asked class) (kept exclude class)
Contains-asked exclude true class e some = Contains-unless_empty (kept exclude class) some
Contains-asked exclude false class e some = absurd (false≢true e)

-- a class that is asked for and has a character is one of the classes
pub Contains-classes : (ask : PasswordAsk) (class : Class) → is_asked ask class ≡ true →
    0 < length (kept ask.exclude class) → Contains (classes ask) (kept ask.exclude class)
Contains-classes ask Lower e some =
    Contains-append_left (asked_class ask.exclude ask.lower Lower) _ _
    (Contains-asked ask.exclude ask.lower Lower e some)
Contains-classes ask Upper e some =
    Contains-append_right (asked_class ask.exclude ask.lower Lower) _ _
    (Contains-append_left (asked_class ask.exclude ask.upper Upper) _ _
    (Contains-asked ask.exclude ask.upper Upper e some))
Contains-classes ask Digits e some =
    Contains-append_right (asked_class ask.exclude ask.lower Lower) _ _
    (Contains-append_right (asked_class ask.exclude ask.upper Upper) _ _
    (Contains-append_left (asked_class ask.exclude ask.digits Digits) _ _
    (Contains-asked ask.exclude ask.digits Digits e some)))
Contains-classes ask Punctuation e some =
    Contains-append_right (asked_class ask.exclude ask.lower Lower) _ _
    (Contains-append_right (asked_class ask.exclude ask.upper Upper) _ _
    (Contains-append_right (asked_class ask.exclude ask.digits Digits) _ _
    (Contains-append_left (asked_class ask.exclude ask.punctuation Punctuation) _ _
    (Contains-asked ask.exclude ask.punctuation Punctuation e some))))
Contains-classes ask Space e some =
    Contains-append_right (asked_class ask.exclude ask.lower Lower) _ _
    (Contains-append_right (asked_class ask.exclude ask.upper Upper) _ _
    (Contains-append_right (asked_class ask.exclude ask.digits Digits) _ _
    (Contains-append_right (asked_class ask.exclude ask.punctuation Punctuation) _ _
    (Contains-asked ask.exclude ask.space Space e some))))
