-- The statements of a policy, and the first of them that is none.
use Rattle.std.proofs.Common.{◌≡◌, ℕ, suc, zero, ◌+◌, ◌<◌, List, [], ◌∷◌, codes, Option, Some, None, Result, Ok, Err, unwrap_or, option_and_then, inl, inr, refl, ap, sym, subst, ◌∙◌, arith}
use Rattle.serde_json.specs.Data as shapes
use Rattle.serde_json.specs.Data.{Data}
use Rattle.serde_json.specs.Find.{get_item, as_object}
use Rattle.sm_policy_text.specs.declared.member.Member.TheVariants as members
use Rattle.sm_policy_text.specs.declared.policy.Condition.{Condition}
use Rattle.sm_policy_text.specs.declared.policy.Effect.{Effect}
use Rattle.sm_policy_text.specs.declared.policy.Effect.TheVariants.{Deny}
use Rattle.sm_policy_text.specs.declared.policy.Pattern.{Pattern}
use Rattle.sm_policy_text.specs.declared.policy.Principals.{Principals}
use Rattle.sm_policy_text.specs.declared.policy.Statement.{Statement}
use Rattle.sm_policy_text.specs.Documents.{statement_names, statement_fields, statement_fault, statement_in, object_fault, item_fault, counted, Flaw, statement_before, statements_from}
use Rattle.sm_policy_text.specs.Kinds.{effect, principals, pattern, one_or_more, condition, wrapped, condition_with}
use Rattle.sm_policy_text.specs.Members.{member_of, given}
use Rattle.sm_policy_laws.specs.Words.{IsObjectOf, AreEach, IsOneOrMore}
use Rattle.sm_policy_laws.specs.Parts.{IsEffect, IsPrincipals, IsPattern, IsCondition}
use Rattle.sm_policy_laws.specs.Policies.{HasCondition, statement_members, IsStatement}
use Rattle.sm_policy_laws.specs.Faults.{AllHold, IsFaultOfStatement, statement_rules}
use Rattle.sm_policy_laws.proofs.WordLemmas.{object_of}
use Rattle.sm_policy_laws.proofs.PartLemmas.{effects, all_principals, pattern_lists, conditions}
use Rattle.sm_policy_laws.proofs.OrderLemmas.{IsOrdered, AreOrdered}
use Rattle.sm_policy_laws.proofs.RuleLemmas.{statements_tell, no_fault, faultless, fault_is, is_fault, is_given}

-- a statement whose members are in order
made : (json : Data) → IsObjectOf statement_members json → AllHold statement_rules json
    → (s : Statement) × IsStatement json s
made json object (sid, ((e, has_e), ((p, has_p), ((a, has_a), ((r, has_r), ((c, has_c), end)))))) = (
  record { effect = e; principals = p; actions = a; resources = r; condition = c },
  record {
    object = object;
    sid = sid;
    effect = has_e;
    principals = has_p;
    actions = has_a;
    resources = has_r;
    condition = has_c;
  },
)

hold : (json : Data) (s : Statement) → IsStatement json s → AllHold statement_rules json
hold json s is = (
  is.sid,
  (
    (s.effect, is.effect),
    (
      (s.principals, is.principals),
      ((s.actions, is.actions), ((s.resources, is.resources), ((s.condition, is.condition), tt))),
    ),
  ),
)

-- no statement is at fault exactly where it is one
pub statement_of : (json : Data) → item_fault json ≡ None → (s : Statement) × IsStatement json s
statement_of json e = by (as_object json) refl e
  where
    by : (o : Option shapes.Members) → as_object json ≡ o → object_fault o (statement_fault json) ≡ None
        → (s : Statement) × IsStatement json s
    by None is h = absurd (let f = h in cc)
    by (Some found) is h =
        let object = object_of json found is in
        let n = no_fault statement_names statement_fields statement_rules statements_tell json found object h in
        made json (found, object, n.0) n.1

pub fine_statement : (json : Data) (s : Statement) → IsStatement json s → item_fault json ≡ None
fine_statement json s is =
    let (found, object, only) = is.object in
    ap (λ d. object_fault (as_object d) (statement_fault json)) object
    ∙ faultless statement_names statement_fields statement_rules statements_tell json found object only
    (hold json s is)

-- what is read of a statement is what it is
condition_is : (json : Data) (c : Condition) → HasCondition json c
    → unwrap_or (given condition members.Condition json) (condition_with []) ≡ c
unfolding given member_of
condition_is json c (inl (absent, none)) =
    ap (λ o. unwrap_or (given_from o) (condition_with [])) absent ∙ sym none
  where
    given_from : Option Data → Option Condition
    given_from o = option_and_then condition o
condition_is json c (inr has) =
    ap (λ o. unwrap_or o (condition_with [])) (is_given condition IsCondition conditions members.Condition json c has)

pub same_statement : (json : Data) (s : Statement) → IsStatement json s → statement_in json ≡ s
same_statement json s is =
    let of : Effect → Principals → List Pattern → List Pattern → Condition → Statement =
    λ e p a r c. record { effect = e; principals = p; actions = a; resources = r; condition = c } in
    let e : unwrap_or (given effect members.Effect json) Deny ≡ s.effect =
    ap (λ o. unwrap_or o Deny) (is_given effect IsEffect effects members.Effect json s.effect is.effect) in
    let p : unwrap_or (given principals members.Principal json) (wrapped []) ≡ s.principals =
    ap (λ o. unwrap_or o (wrapped [])) (is_given principals IsPrincipals all_principals members.Principal json
    s.principals is.principals) in
    let a : unwrap_or (given (one_or_more pattern) members.Action json) [] ≡ s.actions =
    ap (λ o. unwrap_or o []) (is_given (one_or_more pattern) (IsOneOrMore IsPattern) pattern_lists members.Action json
    s.actions is.actions) in
    let r : unwrap_or (given (one_or_more pattern) members.Resource json) [] ≡ s.resources =
    ap (λ o. unwrap_or o []) (is_given (one_or_more pattern) (IsOneOrMore IsPattern) pattern_lists members.Resource json
    s.resources is.resources) in
    let c = condition_is json s.condition is.condition in
    ap (λ x. of x (statement_in json).principals (statement_in json).actions (statement_in json).resources
    (statement_in json).condition) e
    ∙ ap (λ x. of s.effect x (statement_in json).actions (statement_in json).resources
    (statement_in json).condition) p
    ∙ ap (λ x. of s.effect s.principals x (statement_in json).resources (statement_in json).condition) a
    ∙ ap (λ x. of s.effect s.principals s.actions x (statement_in json).condition) r
    ∙ ap (λ x. of s.effect s.principals s.actions s.resources x) c

-- the fault of a statement
pub statement_fault_is : (json : Data) (name : List ℕ) → IsOrdered json → item_fault json ≡ Some name
    → IsFaultOfStatement json name
statement_fault_is json name ordered e = by (as_object json) refl e
  where
    by : (o : Option shapes.Members) → as_object json ≡ o → object_fault o (statement_fault json) ≡ Some name
        → IsFaultOfStatement json name
    by None is h = inl (
      λ (found, object). (let f = sym is ∙ ap as_object object in cc),
      let f : name ≡ codes "Statement" = cc in f,
    )
    by (Some found) is h = inr (fault_is statement_names statement_fields statement_rules statements_tell json found
        (object_of json found is) name ordered h)

pub is_statement_fault : (json : Data) (name : List ℕ) → IsOrdered json → IsFaultOfStatement json name
    → item_fault json ≡ Some name
is_statement_fault json name ordered (inl (none, same)) = by (as_object json) refl
  where
    by : (o : Option shapes.Members) → as_object json ≡ o → object_fault o (statement_fault json) ≡ Some name
    by None is = ap Some (sym same)
    by (Some found) is = absurd (none (found, object_of json found is))
is_statement_fault json name ordered (inr (found, object, fault)) =
    ap (λ d. object_fault (as_object d) (statement_fault json)) object
    ∙ is_fault statement_names statement_fields statement_rules statements_tell json found object name ordered fault

-- all statements
pub statements_are : (place : ℕ) (items : shapes.Items) (ss : List Statement) → statements_from place items ≡ Ok ss
    → AreEach IsStatement items ss
statements_are place shapes.no_items [] e = tt
statements_are place shapes.no_items (s ∷ ss) e = absurd (let f = e in cc)
statements_are place (shapes.item json items) ss e =
    by (item_fault json) refl (statements_from (place + 1) items) refl
    (λ more f. statements_are (place + 1) items more f) e
  where
    by : (o : Option (List ℕ)) → item_fault json ≡ o → (r : Result (List Statement) Flaw)
        → statements_from (place + 1) items ≡ r
        → ((more : List Statement) → statements_from (place + 1) items ≡ Ok more → AreEach IsStatement items more)
        → statement_before place o (statement_in json) r ≡ Ok ss → AreEach IsStatement (shapes.item json items) ss
    by (Some name) is r rest later h = absurd (let f = h in cc)
    by None is (Err flaw) rest later h = absurd (let f = h in cc)
    by None is (Ok more) rest later h =
        let f : statement_in json ∷ more ≡ ss = cc in
        let s = statement_of json is in
        subst (AreEach IsStatement (shapes.item json items)) f
        (subst (IsStatement json) (sym (same_statement json s.0 s.1)) s.1, later more rest)

pub are_statements : (place : ℕ) (items : shapes.Items) (ss : List Statement) → AreEach IsStatement items ss
    → statements_from place items ≡ Ok ss
are_statements place shapes.no_items [] h = refl
are_statements place shapes.no_items (s ∷ ss) h = absurd h
are_statements place (shapes.item json items) [] h = absurd h
are_statements place (shapes.item json items) (s ∷ ss) (is, more) =
    ap (λ o. statement_before place o (statement_in json) (statements_from (place + 1) items))
    (fine_statement json s is)
    ∙ ap (λ t. statement_before place None t (statements_from (place + 1) items)) (same_statement json s is)
    ∙ ap (statement_before place None s) (are_statements (place + 1) items ss more)

-- a fault that is told, or none
abbrev pub flaw_in : {A : Type 0} → Result A Flaw → Flaw
flaw_in (Ok x) = (0, [])
flaw_in (Err flaw) = flaw

-- the first statement at fault, behind so many others
pub record IsFirstFrom (front : ℕ) (items : shapes.Items) (number : ℕ) (name : List ℕ) : Type 0 where
  pub place : ℕ
  pub json : Data
  pub there : get_item place items ≡ Some json
  pub wrong : IsFaultOfStatement json name
  pub earlier : (before : ℕ) (other : Data) → before < place → get_item before items ≡ Some other
      → (statement : Statement) × IsStatement other statement
  pub numbered : number ≡ counted (front + place)

pub first_from : (front : ℕ) (items : shapes.Items) (number : ℕ) (name : List ℕ) → AreOrdered items
    → statements_from front items ≡ Err (number, name) → IsFirstFrom front items number name
first_from front shapes.no_items number name ordered e = absurd (let f = e in cc)
first_from front (shapes.item json items) number name (one, ordered) e =
    by (item_fault json) refl (statements_from (front + 1) items) refl
    (λ f. first_from (front + 1) items number name ordered f) e
  where
    by : (o : Option (List ℕ)) → item_fault json ≡ o → (r : Result (List Statement) Flaw)
        → statements_from (front + 1) items ≡ r
        → (statements_from (front + 1) items ≡ Err (number, name) → IsFirstFrom (front + 1) items number name)
        → statement_before front o (statement_in json) r ≡ Err (number, name)
        → IsFirstFrom front (shapes.item json items) number name
    by (Some other) is r rest later h =
        let same : other ≡ name = ap (λ (f : Flaw). f.1) (ap flaw_in h) in
        let here : counted front ≡ number = ap (λ (f : Flaw). f.0) (ap flaw_in h) in record {
          place = zero;
          json = json;
          there = refl;
          wrong = statement_fault_is json name one (is ∙ ap Some same);
          earlier = λ before other less. absurd (omega arith);
          numbered = sym here ∙ ap counted (let e : front ≡ front + 0 = omega arith in e);
        }
    by None is (Ok more) rest later h = absurd (let f = h in cc)
    by None is (Err flaw) rest later h =
        let l = later (rest ∙ h) in record {
          place = suc l.place;
          json = l.json;
          there = l.there;
          wrong = l.wrong;
          earlier = before_all l;
          numbered = l.numbered ∙ ap counted (let e : front + 1 + l.place ≡ front + suc l.place = omega arith in e);
        }
      where
        before_all : (l : IsFirstFrom (front + 1) items number name) (before : ℕ) (other : Data)
            → before < suc l.place → get_item before (shapes.item json items) ≡ Some other
            → (statement : Statement) × IsStatement other statement
        before_all l zero other less f =
            let same : json ≡ other = cc in
            subst (λ (d : Data). (statement : Statement) × IsStatement d statement) same (statement_of json is)
        before_all l (suc before) other less f = l.earlier before other (omega arith) f

pub from_first : (front : ℕ) (items : shapes.Items) (place : ℕ) (json : Data) (name : List ℕ) → AreOrdered items
    → get_item place items ≡ Some json → IsFaultOfStatement json name
    → ((before : ℕ) (other : Data) → before < place → get_item before items ≡ Some other
    → (statement : Statement) × IsStatement other statement)
    → statements_from front items ≡ Err (counted (front + place), name)
from_first front shapes.no_items place json name ordered there wrong earlier = absurd (let f = there in cc)
from_first front (shapes.item value items) zero json name (one, ordered) there wrong earlier =
    let same : json ≡ value = cc in
    ap (λ o. statement_before front o (statement_in value) (statements_from (front + 1) items))
    (is_statement_fault value name one (subst (λ (d : Data). IsFaultOfStatement d name) same wrong))
    ∙ ap (λ (n : ℕ). Err (counted n, name)) (let e : front ≡ front + 0 = omega arith in e)
from_first front (shapes.item value items) (suc place) json name (one, ordered) there wrong earlier =
    let s = earlier zero value (omega arith) refl in
    ap (λ o. statement_before front o (statement_in value) (statements_from (front + 1) items))
    (fine_statement value s.0 s.1)
    ∙ ap (statement_before front None (statement_in value))
    (from_first (front + 1) items place json name ordered there wrong
    (λ before other less f. earlier (suc before) other (omega arith) f))
    ∙ ap (λ (n : ℕ). Err (counted n, name)) (let e : front + 1 + place ≡ front + suc place = omega arith in e)
