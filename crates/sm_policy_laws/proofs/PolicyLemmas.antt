-- The policy that a text is, and its first fault.
use Rattle.std.proofs.Common.{◌≡◌, ℕ, ◌+◌, List, [], ◌∷◌, codes, true, Option, Some, None, Result, Ok, Err, ◌⊎◌, inl, inr, refl, ap, sym, subst, ◌∙◌, arith}
use Rattle.serde_json.specs.Data as shapes
use Rattle.serde_json.specs.Data.{Data}
use Rattle.serde_json.specs.Find.{as_object}
use Rattle.sm_policy_text.specs.declared.member.Member.TheVariants as members
use Rattle.sm_policy_text.specs.declared.policy.Policy.{Policy}
use Rattle.sm_policy_text.specs.declared.policy.Statement.{Statement}
use Rattle.sm_policy_text.specs.Documents.{json_of, counted, Flaw, statements_from, items, document_names, document_fields, document_fault, policy_with, policy_of_items, policy_unless, policy_if_object, policy_if, policy_of, is_read_policy, is_policy}
use Rattle.sm_policy_text.specs.Members.{given}
use Rattle.sm_policy_laws.specs.Words.{IsObject, HasName, Has, HasOnly, AreEach, IsOneOrMore}
use Rattle.sm_policy_laws.specs.Policies.{statement_members, policy_members, IsStatement, IsPolicy, IsPolicyText}
use Rattle.sm_policy_laws.specs.Faults.{Before, IsLeastUnknown, IsFirstBroken, AllHold, statement_rules, IsFaultOfStatement, AreStatements, policy_rules, IsNoObjectText, IsFaultOfDocument, IsFaultOfStatements, IsFirstFault}
use Rattle.sm_policy_laws.specs.Laws.{PoliciesAre, PoliciesAreOne, PoliciesAreTested, FirstIsNamed, LeastIsNamed, LeastOfStatementIsNamed}
use Rattle.sm_policy_laws.proofs.WordLemmas.{object_of}
use Rattle.sm_policy_laws.proofs.OrderLemmas.{IsOrdered, AreOrdered, not_both, text_ordered, part_ordered}
use Rattle.sm_policy_laws.proofs.RuleLemmas.{policies_tell, no_fault, faultless, fault_is, is_fault, listings, given_is, is_given}
use Rattle.sm_policy_laws.proofs.StatementLemmas.{statements_are, are_statements, flaw_in, first_from, from_first}

-- statements, one or a list of at least one
each_statement : (value : Data) (ss : List Statement) → IsOneOrMore IsStatement value ss
    → (found : shapes.Items) × AreStatements value found × AreEach IsStatement found ss
each_statement value ss (inl (s, same, is)) =
    let (members, object, only) = is.object in (
      shapes.item value shapes.no_items,
      inl ((members, object), refl),
      subst (AreEach IsStatement (shapes.item value shapes.no_items)) (sym same) (is, tt),
    )
each_statement value ss (inr (found, list, each)) = (found, inr list, each)

statements_each : (value : Data) (found : shapes.Items) (ss : List Statement) → AreStatements value found
    → AreEach IsStatement found ss → IsOneOrMore IsStatement value ss
statements_each value found ss (inl (object, same)) each =
    lone ss (subst (λ (i : shapes.Items). AreEach IsStatement i ss) same each)
  where
    lone : (ss : List Statement) → AreEach IsStatement (shapes.item value shapes.no_items) ss
        → IsOneOrMore IsStatement value ss
    lone [] h = absurd h
    lone (s ∷ []) h = inl (s, refl, h.0)
    lone (s ∷ t ∷ ss) h = absurd h.1
statements_each value found ss (inr list) each = inr (found, list, each)

-- the statements of an ordered document are ordered
statements_ordered : (value : Data) (found : shapes.Items) → IsOrdered value → AreStatements value found
    → AreOrdered found
statements_ordered value found ordered (inl (object, same)) = subst AreOrdered (sym same) (ordered, tt)
statements_ordered value found ordered (inr (one, more, same, is)) = subst IsOrdered is ordered

module _ (json : Data) where
  -- a document in order
  pub document_of : (found : shapes.Members) → json ≡ shapes.object found → document_fault json ≡ None
      → HasOnly policy_members found × AllHold policy_rules json
  document_of found object e =
      no_fault document_names document_fields policy_rules policies_tell json found object e

  pub fine_document : (found : shapes.Members) → json ≡ shapes.object found → HasOnly policy_members found
      → AllHold policy_rules json → document_fault json ≡ None
  fine_document found object only hold =
      faultless document_names document_fields policy_rules policies_tell json found object only hold

  policy_made : (p : Policy) (found : shapes.Members) → json ≡ shapes.object found
      → HasOnly policy_members found × AllHold policy_rules json
      → (list : Option shapes.Items) → given items members.Statement json ≡ list → policy_of_items list ≡ Ok p
      → IsPolicy json p
  policy_made p found object (only, hold) None is h = absurd (let f = h in cc)
  policy_made p found object (only, (version, (id, rest))) (Some list) is h = by (statements_from 0 list) refl h
    where
      by : (r : Result (List Statement) Flaw) → statements_from 0 list ≡ r → policy_with r ≡ Ok p → IsPolicy json p
      by (Err flaw) read f = absurd (let g = f in cc)
      by (Ok ss) read f =
          let q : Policy = record { statements = ss } in
          let same : q ≡ p = cc in
          let (value, there, listed) = given_is items AreStatements listings members.Statement json list is in
          subst (IsPolicy json) same (record {
            object = (found, object, only);
            version = version;
            id = id;
            statements = (value, there, statements_each value list ss listed (statements_are 0 list ss read));
          })

policy_is : (o : Option Data) (p : Policy) → policy_if o ≡ Ok p → (json : Data) × (o ≡ Some json) × IsPolicy json p
policy_is None p e = absurd (let f = e in cc)
policy_is (Some json) p e = (json, refl, by (as_object json) refl e)
  where
    fault : (found : shapes.Members) → json ≡ shapes.object found → (o : Option (List ℕ)) → document_fault json ≡ o
        → policy_unless o (given items members.Statement json) ≡ Ok p → IsPolicy json p
    fault found object None is h =
        policy_made json p found object (document_of json found object is) (given items members.Statement json) refl h
    fault found object (Some name) is h = absurd (let f = h in cc)

    by : (o : Option shapes.Members) → as_object json ≡ o → policy_if_object json o ≡ Ok p → IsPolicy json p
    by None is h = absurd (let f = h in cc)
    by (Some found) is h = fault found (object_of json found is) (document_fault json) refl h

-- a document in order, with its statements
document_read : (json : Data) (found : shapes.Members) (list : shapes.Items) → json ≡ shapes.object found
    → HasOnly policy_members found → AllHold policy_rules json → Has AreStatements (codes "Statement") json list
    → policy_if (Some json) ≡ policy_with (statements_from 0 list)
document_read json found list object only hold has =
    ap (λ d. policy_if_object json (as_object d)) object
    ∙ ap (λ o. policy_unless o (given items members.Statement json)) (fine_document json found object only hold)
    ∙ ap policy_of_items (is_given items AreStatements listings members.Statement json list has)

is_a_policy : (json : Data) (p : Policy) → IsPolicy json p → policy_if (Some json) ≡ Ok p
is_a_policy json p is =
    let (found, object, only) = is.object in
    let (value, there, one) = is.statements in
    let (list, listed, each) = each_statement value p.statements one in
    document_read json found list object only (is.version, (is.id, ((list, (value, there, listed)), tt)))
    (value, there, listed)
    ∙ ap policy_with (are_statements 0 list p.statements each)

pub policies : PoliciesAre
policies text p = (
  policy_is (json_of text) p,
  λ (json, is, policy). ap policy_if is ∙ is_a_policy json p policy,
)

pub one : PoliciesAreOne
one text p q is also =
    let f : (let r : Result Policy Flaw = Ok p in r) ≡ Ok q = sym ((policies text p).1 is) ∙ (policies text q).1 also in
    cc

pub tested : PoliciesAreTested
unfolding is_policy
tested text = (λ e. by (policy_of text) refl e, λ (p, is). ap is_read_policy ((policies text p).1 is))
  where
    by : (r : Result Policy Flaw) → policy_of text ≡ r → is_read_policy r ≡ true
        → (p : Policy) × IsPolicyText text p
    by (Ok p) is h = (p, (policies text p).0 is)
    by (Err flaw) is h = absurd (let f = h in cc)

-- faults
no_object : (json : Data) → as_object json ≡ None → IsObject json → ⊥
no_object json is (found, object) = let f = sym is ∙ ap as_object object in cc

-- the first fault among the statements of a document in order
module _ (text : List ℕ) (number : ℕ) (name : List ℕ) where
  statements_fault : (json : Data) → json_of text ≡ Some json → (found : shapes.Members) → json ≡ shapes.object found
      → HasOnly policy_members found → AllHold policy_rules json → (list : shapes.Items)
      → Has AreStatements (codes "Statement") json list → policy_with (statements_from 0 list) ≡ Err (number, name)
      → IsFaultOfStatements text number name
  statements_fault json read found object only hold list (value, there, listed) e =
      by (statements_from 0 list) refl e
    where
      ordered : AreOrdered list
      ordered = statements_ordered value list
          (part_ordered (codes "Statement") json value (text_ordered text json read) there) listed

      by : (r : Result (List Statement) Flaw) → statements_from 0 list ≡ r → policy_with r ≡ Err (number, name)
          → IsFaultOfStatements text number name
      by (Ok ss) is h = absurd (let f = h in cc)
      by (Err flaw) is h =
          let same : flaw ≡ (number, name) = cc in
          let l = first_from 0 list number name ordered (is ∙ ap Err same) in record {
            json = json;
            reads = read;
            object = (found, object, only);
            order = hold;
            items = list;
            statements = (value, there, listed);
            first = record {
              place = l.place;
              json = l.json;
              there = l.there;
              wrong = l.wrong;
              earlier = l.earlier;
              numbered = l.numbered ∙ ap counted (let e : 0 + l.place ≡ l.place = omega arith in e);
            };
          }

  -- what is wrong with a document
  document_fault_is : (json : Data) → json_of text ≡ Some json → (found : shapes.Members) → json ≡ shapes.object found
      → (o : Option (List ℕ)) → document_fault json ≡ o
      → policy_unless o (given items members.Statement json) ≡ Err (number, name)
      → ((number ≡ 0) × IsFaultOfDocument text name) ⊎ IsFaultOfStatements text number name
  document_fault_is json read found object (Some other) is e =
      let zeroth : number ≡ 0 = sym (ap (λ (f : Flaw). f.0) (ap flaw_in e)) in
      let same : other ≡ name = ap (λ (f : Flaw). f.1) (ap flaw_in e) in
      inl (
        zeroth,
        (
          json,
          read,
          fault_is document_names document_fields policy_rules policies_tell json found object name
              (text_ordered text json read) (is ∙ ap Some same),
        ),
      )
  document_fault_is json read found object None is e =
      let (only, hold) = document_of json found object is in
      inr (by only hold)
    where
      by : HasOnly policy_members found → AllHold policy_rules json → IsFaultOfStatements text number name
      by only (version, (id, ((list, has), end))) =
          statements_fault json read found object only (version, (id, ((list, has), end))) list has
          (sym (ap policy_of_items (is_given items AreStatements listings members.Statement json list has)) ∙ e)

  fault_of_text : (o : Option Data) → json_of text ≡ o → policy_if o ≡ Err (number, name)
      → IsFirstFault text number name
  fault_of_text None read e =
      let zeroth : number ≡ 0 = sym (ap (λ (f : Flaw). f.0) (ap flaw_in e)) in
      let same : name ≡ codes "policy" = sym (ap (λ (f : Flaw). f.1) (ap flaw_in e)) in
      inl (λ json is object. (let f = sym read ∙ is in cc), zeroth, same)
  fault_of_text (Some json) read e = by (as_object json) refl e
    where
      by : (o : Option shapes.Members) → as_object json ≡ o → policy_if_object json o ≡ Err (number, name)
          → IsFirstFault text number name
      by None is h =
          let zeroth : number ≡ 0 = sym (ap (λ (f : Flaw). f.0) (ap flaw_in h)) in
          let same : name ≡ codes "policy" = sym (ap (λ (f : Flaw). f.1) (ap flaw_in h)) in
          inl (
            λ other reads object.
                let f : other ≡ json = cc in no_object json is (subst IsObject f object),
            zeroth,
            same,
          )
      by (Some found) is h =
          inr (document_fault_is json read found (object_of json found is) (document_fault json) refl h)

  -- a text that is no object
  not_object : (o : Option Data) → json_of text ≡ o → IsNoObjectText text → policy_if o ≡ Err (0, codes "policy")
  not_object None read none = refl
  not_object (Some json) read none = by (as_object json) refl
    where
      by : (o : Option shapes.Members) → as_object json ≡ o → policy_if_object json o ≡ Err (0, codes "policy")
      by None is = refl
      by (Some found) is = absurd (none json read (found, object_of json found is))

  fault_named : IsFirstFault text number name → policy_of text ≡ Err (number, name)
  fault_named (inl (none, zeroth, same)) =
      not_object (json_of text) refl none
      ∙ ap (λ (f : Flaw). Err f) (let g : (let p : Flaw = (0, codes "policy") in p) ≡ (number, name) = cc in g)
  fault_named (inr (inl (zeroth, (json, read, (found, object, fault))))) =
      ap policy_if read ∙ ap (λ d. policy_if_object json (as_object d)) object
      ∙ ap (λ o. policy_unless o (given items members.Statement json))
      (is_fault document_names document_fields policy_rules policies_tell json found object name
      (text_ordered text json read) fault)
      ∙ ap (λ (n : ℕ). Err (n, name)) (sym zeroth)
  fault_named (inr (inr f)) =
      let (found, object, only) = f.object in
      let (value, there, listed) = f.statements in
      ap policy_if f.reads ∙ document_read f.json found f.items object only f.order f.statements
      ∙ ap policy_with (from_first 0 f.items f.first.place f.first.json name
      (statements_ordered value f.items
      (part_ordered (codes "Statement") f.json value (text_ordered text f.json f.reads) there) listed)
      f.first.there f.first.wrong f.first.earlier)
      ∙ ap (λ (n : ℕ). Err (n, name))
      (ap counted (let e : 0 + f.first.place ≡ f.first.place = omega arith in e) ∙ sym f.first.numbered)

pub first : FirstIsNamed
first text number name = (fault_of_text text number name (json_of text) refl, fault_named text number name)

pub least : LeastIsNamed
least text found name read is =
    fault_named text 0 name (inr (inl (refl, (shapes.object found, read, (found, refl, inl is)))))

-- there is one least unknown member
one_least : (names : List (List ℕ)) (found : shapes.Members) (name other : List ℕ) → IsLeastUnknown names found name
    → IsLeastUnknown names found other → name ≡ other
one_least names found name other l m = by (l.least other m.there m.unknown) (m.least name l.there l.unknown)
  where
    by : (name ≡ other) ⊎ Before name other → (other ≡ name) ⊎ Before other name → name ≡ other
    by (inl same) after = same
    by (inr before) (inl same) = sym same
    by (inr before) (inr after) = absurd (not_both name other before after)

pub least_of_statement : LeastOfStatementIsNamed
least_of_statement text number name other found fault object least = by fault.first.wrong
  where
    unknown : (others : shapes.Members) → fault.first.json ≡ shapes.object others
        → IsLeastUnknown statement_members others name
        ⊎ (HasOnly statement_members others × IsFirstBroken statement_rules fault.first.json name) → name ≡ other
    unknown others is (inl l) =
        let same : found ≡ others = cc in
        one_least statement_members others name other l
        (subst (λ (m : shapes.Members). IsLeastUnknown statement_members m other) same least)
    unknown others is (inr (only, broken)) =
        let same : found ≡ others = cc in
        absurd (least.unknown (only other (subst (λ (m : shapes.Members). HasName m other) same least.there)))

    by : IsFaultOfStatement fault.first.json name → name ≡ other
    by (inl (none, same)) = absurd (none (found, object))
    by (inr (others, is, wrong)) = unknown others is wrong
