-- What values are of each part of a policy.
use Rattle.std.proofs.Common.{◌≡◌, ◌≢◌, ℕ, ◌≤◌, ◌++◌, ◌||◌, ◌&&◌, IsTrue, List, [], ◌∷◌, length, drop, nat_le, nat_eq, codes, Bool, true, false, cond, Ordering, Less, Equal, Greater, Option, Some, None, option_map, option_and_then, ◌⊎◌, inl, inr, refl, ap, sym, subst, ◌∙◌, arith, length-drop}
use Rattle.std.proofs.lemmas.Bool.Decides.{nat_tests}
use Rattle.std.proofs.lemmas.Map.Text.{is_eq-slice_cmp}
use Rattle.std.proofs.lemmas.Slice.Eq.{bytes_eq-Decides, starts_is}
use Rattle.std.specs.Char.{is_ascii_digit}
use Rattle.std.specs.Cmp.Lexicographic.{slice_cmp}
use Rattle.std.specs.List.{starts_with}
use Rattle.std.specs.Ordering.{nat_cmp, is_eq, match_ordering}
use Rattle.serde_json.specs.Data as shapes
use Rattle.serde_json.specs.Data.{Data}
use Rattle.serde_json.specs.Find.{get, as_str, as_array, as_object}
use Rattle.sm_base.specs.PersonArn.{is_person_arn}
use Rattle.sm_base.specs.Spelling.{is_run}
use Rattle.sm_base.specs.Texts.{same_text}
use Rattle.sm_policy_text.specs.declared.policy.Block.{Block}
use Rattle.sm_policy_text.specs.declared.policy.Effect.{Effect}
use Rattle.sm_policy_text.specs.declared.policy.Effect.TheVariants.{Allow, Deny}
use Rattle.sm_policy_text.specs.declared.policy.Key.{Key}
use Rattle.sm_policy_text.specs.declared.policy.Key.TheVariants as keys
use Rattle.sm_policy_text.specs.declared.policy.Operator.{Operator}
use Rattle.sm_policy_text.specs.declared.policy.Operator.TheVariants.{StringEquals, StringNotEquals, StringLike}
use Rattle.sm_policy_text.specs.declared.policy.Pattern.{Pattern}
use Rattle.sm_policy_text.specs.declared.policy.Principal.{Principal}
use Rattle.sm_policy_text.specs.declared.policy.Principals.{Principals}
use Rattle.sm_policy_text.specs.declared.policy.Test.{Test}
use Rattle.sm_policy_text.specs.Kinds.{text, effect_named, effect, is_principal, principal, is_pattern, pattern, passing, one_or_more, all_members, members_if, aws_of, wrapped, everybody, principals_of, principals, operator_named, tag_key_named, key_named, test_of, key_test, block_of, block, condition_with, condition}
use Rattle.sm_policy_text.proofs.TextLemmas.{tag_key_is}
use Rattle.sm_policy_laws.specs.Words.{IsText, IsOneOrMore}
use Rattle.sm_policy_laws.specs.Parts.{IsEffect, NamesPrincipal, IsPrincipal, IsPrincipals, IsPattern, IsOperator, IsKey, IsTest, IsBlock, IsCondition}
use Rattle.sm_policy_laws.specs.Laws.{IsReadAs, IsNameOf}
use Rattle.sm_policy_laws.proofs.WordLemmas.{IsNamedReadAs, same_is, same_as, string_of, object_of, mapped, chained, either, or_left, or_right, passing_is, is_passing, not_empty, full, one_or_mores, members_of, members_to}

pub texts : IsReadAs text IsText
unfolding text
texts value t = (λ e. string_of value t e, λ e. ap as_str e)

-- a string is no list
pub no_list : (value : Data) (t : List ℕ) → IsText value t → as_array value ≡ None
no_list value t is = ap as_array is

-- effects
effect_is : (name : List ℕ) (x : Effect) → effect_named name ≡ Some x → IsEffect (shapes.string name) x
unfolding effect_named
effect_is name x e = by (same_text name (codes "Allow")) (same_text name (codes "Deny")) refl refl e
  where
    by : (a b : Bool) → same_text name (codes "Allow") ≡ a → same_text name (codes "Deny") ≡ b
        → cond a (Some Allow) (cond b (Some Deny) None) ≡ Some x → IsEffect (shapes.string name) x
    by true b p q h =
        let f : Allow ≡ x = cc in subst (IsEffect (shapes.string name)) f (ap shapes.string (same_is name _ p))
    by false true p q h =
        let f : Deny ≡ x = cc in subst (IsEffect (shapes.string name)) f (ap shapes.string (same_is name _ q))
    by false false p q h = absurd (let f = h in cc)

is_effect : (value : Data) (x : Effect) → IsEffect value x → effect value ≡ Some x
unfolding effect effect_named same_text
is_effect value Allow is = ap effect is
is_effect value Deny is = ap effect is

pub effects : IsReadAs effect IsEffect
unfolding effect
effects value x = (
  λ e. let c = chained effect_named (as_str value) x e in
      subst (λ (v : Data). IsEffect v x) (sym (string_of value c.0 c.1)) (effect_is c.0 x c.2),
  is_effect value x,
)

-- patterns
pub patterns : IsReadAs pattern IsPattern
unfolding pattern
patterns value x = (
  λ e. let m = mapped (λ (t : List ℕ). let p : Pattern = record { 0 = t } in p) (passing is_pattern value) x e in
      let p = passing_is is_pattern value m.0 m.1 in
      subst (IsPattern value) m.2 (p.0, not_empty m.0 p.1),
  λ (is, some). ap (option_map (λ (t : List ℕ). let p : Pattern = record { 0 = t } in p))
      (is_passing is_pattern value x.0 is (full x.0 some)),
)

-- principals
names_principal : (t : List ℕ) → is_principal t ≡ true → NamesPrincipal t
unfolding is_principal
names_principal t h =
    by (either (same_text t (codes "*") || is_run is_ascii_digit 12 12 t) (is_person_arn t) h)
  where
    first : (same_text t (codes "*") ≡ true) ⊎ IsTrue (is_run is_ascii_digit 12 12 t) → NamesPrincipal t
    first (inl all) = inl (same_is t (codes "*") all)
    first (inr account) = inr (inl account)

    by : (same_text t (codes "*") || is_run is_ascii_digit 12 12 t ≡ true) ⊎ IsTrue (is_person_arn t) → NamesPrincipal t
    by (inl front) = first (either (same_text t (codes "*")) (is_run is_ascii_digit 12 12 t) front)
    by (inr arn) = inr (inr arn)

principal_named : (t : List ℕ) → NamesPrincipal t → is_principal t ≡ true
unfolding is_principal
principal_named t (inl all) =
    or_left (same_text t (codes "*") || is_run is_ascii_digit 12 12 t) (is_person_arn t)
    (or_left (same_text t (codes "*")) (is_run is_ascii_digit 12 12 t) (same_as t (codes "*") all))
principal_named t (inr (inl account)) =
    or_left (same_text t (codes "*") || is_run is_ascii_digit 12 12 t) (is_person_arn t)
    (or_right (same_text t (codes "*")) (is_run is_ascii_digit 12 12 t) account)
principal_named t (inr (inr arn)) =
    or_right (same_text t (codes "*") || is_run is_ascii_digit 12 12 t) (is_person_arn t) arn

each_principal : IsReadAs principal IsPrincipal
unfolding principal
each_principal value x = (
  λ e. let m = mapped (λ (t : List ℕ). let p : Principal = record { 0 = t } in p) (passing is_principal value) x e in
      let p = passing_is is_principal value m.0 m.1 in
      subst (IsPrincipal value) m.2 (p.0, names_principal m.0 p.1),
  λ (is, named). ap (option_map (λ (t : List ℕ). let p : Principal = record { 0 = t } in p))
      (is_passing is_principal value x.0 is (principal_named x.0 named)),
)

-- an object with the one member AWS
level : (o : Ordering) (name : List ℕ) (v aws : Data) → slice_cmp nat_cmp (codes "AWS") name ≡ o
    → match_ordering o None (Some v) None ≡ Some aws → (codes "AWS" ≡ name) × (v ≡ aws)
level Less name v aws is h = absurd (let f = h in cc)
level Equal name v aws is h = (
  (bytes_eq-Decides (codes "AWS") name).0 (sym (is_eq-slice_cmp (codes "AWS") name) ∙ ap is_eq is),
  let f : v ≡ aws = cc in f,
)
level Greater name v aws is h = absurd (let f = h in cc)

aws_is : (value aws : Data) (found : Option shapes.Members) → as_object value ≡ found → aws_of value found ≡ Some aws
    → value ≡ shapes.object (shapes.member (codes "AWS") aws shapes.no_members)
aws_is value aws None is h = absurd (let f = h in cc)
aws_is value aws (Some shapes.no_members) is h = absurd (let f = h in cc)
aws_is value aws (Some (shapes.member name v shapes.no_members)) is h =
    let o = object_of value (shapes.member name v shapes.no_members) is in
    let l = level (slice_cmp nat_cmp (codes "AWS") name) name v aws refl
    (sym (ap (get (codes "AWS")) o) ∙ h) in
    o ∙ ap (λ n. shapes.object (shapes.member n v shapes.no_members)) (sym l.0)
    ∙ ap (λ d. shapes.object (shapes.member (codes "AWS") d shapes.no_members)) l.1
aws_is value aws (Some (shapes.member name v (shapes.member other w found))) is h = absurd (let f = h in cc)

principal_lists : IsReadAs (one_or_more principal) (IsOneOrMore IsPrincipal)
principal_lists = one_or_mores principal IsPrincipal each_principal (λ value x is. no_list value x.0 is.0)

principals_are : (value : Data) (x : Principals) → principals value ≡ Some x → IsPrincipals value x
unfolding principals
principals_are value x e = at_text (as_str value) refl e
  where
    all : (b : Bool) (t : List ℕ) → same_text t (codes "*") ≡ b → as_str value ≡ Some t
        → cond b (Some everybody) None ≡ Some x → IsPrincipals value x
    all true t same is h = inl (
      string_of value t is ∙ ap shapes.string (same_is t (codes "*") same),
      let f : x ≡ everybody = cc in f,
    )
    all false t same is h = absurd (let f = h in cc)

    at_text : (t : Option (List ℕ)) → as_str value ≡ t → principals_of value t ≡ Some x → IsPrincipals value x
    at_text (Some t) is h = all (same_text t (codes "*")) t refl is h
    at_text None is h =
        let m = mapped wrapped (option_and_then (one_or_more principal) (aws_of value (as_object value))) x h in
        let c = chained (one_or_more principal) (aws_of value (as_object value)) m.0 m.1 in
        inr (
          c.0,
          aws_is value c.0 (as_object value) refl c.1,
          subst (λ (p : Principals). IsOneOrMore IsPrincipal c.0 p.0) m.2 ((principal_lists c.0 m.0).0 c.2),
        )

are_principals : (value : Data) (x : Principals) → IsPrincipals value x → principals value ≡ Some x
unfolding principals same_text
are_principals value x (inl (is, all)) = ap principals is ∙ ap Some (sym all)
are_principals value x (inr (aws, is, list)) =
    ap principals is ∙ ap (option_map wrapped) ((principal_lists aws x.0).1 list)

pub all_principals : IsReadAs principals IsPrincipals
all_principals value x = (principals_are value x, are_principals value x)

-- operators
operator_is : (name : List ℕ) (x : Operator) → operator_named name ≡ Some x → IsOperator name x
unfolding operator_named
operator_is name x e = by (same_text name (codes "StringEquals")) (same_text name (codes "StringNotEquals"))
    (same_text name (codes "StringLike")) refl refl refl e
  where
    by : (a b c : Bool) → same_text name (codes "StringEquals") ≡ a → same_text name (codes "StringNotEquals") ≡ b
        → same_text name (codes "StringLike") ≡ c
        → cond a (Some StringEquals) (cond b (Some StringNotEquals) (cond c (Some StringLike) None)) ≡ Some x
        → IsOperator name x
    by true b c p q r h = let f : StringEquals ≡ x = cc in subst (IsOperator name) f (same_is name _ p)
    by false true c p q r h = let f : StringNotEquals ≡ x = cc in subst (IsOperator name) f (same_is name _ q)
    by false false true p q r h = let f : StringLike ≡ x = cc in subst (IsOperator name) f (same_is name _ r)
    by false false false p q r h = absurd (let f = h in cc)

is_operator : (name : List ℕ) (x : Operator) → IsOperator name x → operator_named name ≡ Some x
unfolding operator_named same_text
is_operator name StringEquals is = ap operator_named is
is_operator name StringNotEquals is = ap operator_named is
is_operator name StringLike is = ap operator_named is

pub operators : IsNameOf operator_named IsOperator
operators name x = (operator_is name x, is_operator name x)

-- keys
number_decides : (a b : ℕ) → (nat_eq a b ≡ true → a ≡ b) × (a ≡ b → nat_eq a b ≡ true)
number_decides a b = (λ h. grind (arith, nat_tests), λ h. grind (arith, nat_tests))

some_left : (name : List ℕ) → nat_le 28 (length name) ≡ true → drop 27 name ≢ []
some_left name h e =
    let long : 28 ≤ length name = at_least (length name) h in
    let none : length (drop 27 name) ≡ 0 = ap length e in
    omega (arith, length-drop 27 name)
  where
    at_least : (n : ℕ) → nat_le 28 n ≡ true → 28 ≤ n
    at_least n h = grind (arith, nat_tests)

tag_is : (name : List ℕ) (x : Key) → tag_key_named name ≡ Some x → IsKey name x
tag_is name x e = by (starts_with nat_eq name (codes "secretsmanager:ResourceTag/")) (nat_le 28 (length name))
    refl refl e
  where
    by : (a b : Bool) → starts_with nat_eq name (codes "secretsmanager:ResourceTag/") ≡ a
        → nat_le 28 (length name) ≡ b → cond (a && b) (Some (keys.ResourceTag (drop 27 name))) None ≡ Some x
        → IsKey name x
    by true true p q h =
        let f : keys.ResourceTag (drop 27 name) ≡ x = cc in
        subst (IsKey name) f (
          (starts_is number_decides name (codes "secretsmanager:ResourceTag/")
              (starts_with nat_eq name (codes "secretsmanager:ResourceTag/")) refl).0 p,
          some_left name q,
        )
    by true false p q h = absurd (let f = h in cc)
    by false b p q h = absurd (let f = h in cc)

key_is : (name : List ℕ) (x : Key) → key_named name ≡ Some x → IsKey name x
unfolding key_named
key_is name x e = by (same_text name (codes "secretsmanager:VersionStage"))
    (same_text name (codes "secretsmanager:VersionId")) (same_text name (codes "secretsmanager:Name"))
    (same_text name (codes "secretsmanager:SecretId")) refl refl refl refl e
  where
    by : (a b c d : Bool) → same_text name (codes "secretsmanager:VersionStage") ≡ a
        → same_text name (codes "secretsmanager:VersionId") ≡ b → same_text name (codes "secretsmanager:Name") ≡ c
        → same_text name (codes "secretsmanager:SecretId") ≡ d
        → cond a (Some keys.VersionStage) (cond b (Some keys.VersionId) (cond c (Some keys.Name)
        (cond d (Some keys.SecretId) (tag_key_named name)))) ≡ Some x
        → IsKey name x
    by true b c d p q r s h = let f : keys.VersionStage ≡ x = cc in subst (IsKey name) f (same_is name _ p)
    by false true c d p q r s h = let f : keys.VersionId ≡ x = cc in subst (IsKey name) f (same_is name _ q)
    by false false true d p q r s h = let f : keys.Name ≡ x = cc in subst (IsKey name) f (same_is name _ r)
    by false false false true p q r s h = let f : keys.SecretId ≡ x = cc in subst (IsKey name) f (same_is name _ s)
    by false false false false p q r s h = tag_is name x h

one_more : (t : List ℕ) → t ≢ [] → 1 ≤ length t
one_more [] h = absurd (h refl)
one_more (c ∷ t) h = omega arith

is_key : (name : List ℕ) (x : Key) → IsKey name x → key_named name ≡ Some x
unfolding key_named same_text
is_key name keys.VersionStage is = ap key_named is
is_key name keys.VersionId is = ap key_named is
is_key name keys.Name is = ap key_named is
is_key name keys.SecretId is = ap key_named is
is_key name (keys.ResourceTag tag) (is, some) =
    ap key_named is
    ∙ tag_key_is (codes "secretsmanager:ResourceTag/" ++ tag) tag refl refl (one_more tag some)

pub all_keys : IsNameOf key_named IsKey
all_keys name x = (key_is name x, is_key name x)

-- tests
pub text_lists : IsReadAs (one_or_more text) (IsOneOrMore IsText)
text_lists = one_or_mores text IsText texts no_list

test_is : (name : List ℕ) (value : Data) (x : Test) (key : Option Key) (list : Option (List (List ℕ)))
    → key_named name ≡ key → one_or_more text value ≡ list → test_of key list ≡ Some x → IsTest name value x
test_is name value x None list p q h = absurd (let f = h in cc)
test_is name value x (Some key) None p q h = absurd (let f = h in cc)
test_is name value x (Some key) (Some list) p q h =
    let t : Test = record { key = key; values = list } in
    let f : t ≡ x = cc in
    subst (IsTest name value) f ((all_keys name key).0 p, (text_lists value list).0 q)

pub tests : IsNamedReadAs key_test IsTest
unfolding key_test
tests name value x = (
  test_is name value x (key_named name) (one_or_more text value) refl refl,
  λ (key, list). ap (λ k. test_of k (one_or_more text value)) ((all_keys name x.key).1 key)
      ∙ ap (test_of (Some x.key)) ((text_lists value x.values).1 list),
)

-- blocks
members_are : {A : Type 0} (reads : List ℕ → Data → Option A) (value : Data) (xs : List A)
    → members_if reads (as_object value) ≡ Some xs
    → (found : shapes.Members) × (value ≡ shapes.object found) × (all_members reads found ≡ Some xs)
members_are reads value xs e = by (as_object value) refl e
  where
    by : (o : Option shapes.Members) → as_object value ≡ o → members_if reads o ≡ Some xs
        → (found : shapes.Members) × (value ≡ shapes.object found) × (all_members reads found ≡ Some xs)
    by None is h = absurd (let f = h in cc)
    by (Some found) is h = (found, object_of value found is, h)

block_is : (name : List ℕ) (value : Data) (x : Block) (operator : Option Operator) (list : Option (List Test))
    → operator_named name ≡ operator → members_if key_test (as_object value) ≡ list → block_of operator list ≡ Some x
    → IsBlock name value x
block_is name value x None list p q h = absurd (let f = h in cc)
block_is name value x (Some operator) None p q h = absurd (let f = h in cc)
block_is name value x (Some operator) (Some list) p q h =
    let b : Block = record { operator = operator; tests = list } in
    let f : b ≡ x = cc in
    let m = members_are key_test value list q in
    subst (IsBlock name value) f (
      (operators name operator).0 p,
      (m.0, m.1, members_of key_test IsTest tests m.0 list m.2),
    )

pub blocks : IsNamedReadAs block IsBlock
unfolding block
blocks name value x = (
  block_is name value x (operator_named name) (members_if key_test (as_object value)) refl refl,
  λ (operator, (found, is, list)). ap (λ o. block_of o (members_if key_test (as_object value)))
      ((operators name x.operator).1 operator)
      ∙ ap (block_of (Some x.operator)) (ap (λ v. members_if key_test (as_object v)) is
      ∙ members_to key_test IsTest tests found x.tests list),
)

-- conditions
pub conditions : IsReadAs condition IsCondition
unfolding condition
conditions value x = (
  λ e. let m = mapped condition_with (members_if block (as_object value)) x e in
      let o = members_are block value m.0 m.1 in
      subst (IsCondition value) m.2 (o.0, o.1, members_of block IsBlock blocks o.0 m.0 o.2),
  λ (found, is, list). ap (option_map condition_with) (ap (λ v. members_if block (as_object v)) is
      ∙ members_to block IsBlock blocks found x.0 list),
)

pub pattern_lists : IsReadAs (one_or_more pattern) (IsOneOrMore IsPattern)
pattern_lists = one_or_mores pattern IsPattern patterns (λ value x is. no_list value x.0 is.0)
