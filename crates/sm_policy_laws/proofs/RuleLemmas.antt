-- Members of a table, and the rules that they keep.
use Rattle.std.proofs.Common.{◌≡◌, ℕ, List, [], ◌∷◌, codes, Bool, true, false, cond, Option, Some, None, option_and_then, is_some, ◌⊎◌, inl, inr, refl, ap, sym, subst, ◌∙◌}
use Rattle.std.specs.Bool.{⊤}
use Rattle.serde_json.specs.Data as shapes
use Rattle.serde_json.specs.Data.{Data}
use Rattle.serde_json.specs.Find.{get, as_str, as_array, as_object}
use Rattle.sm_base.specs.Texts.{same_text}
use Rattle.sm_policy_text.specs.declared.member.Member.{Member}
use Rattle.sm_policy_text.specs.declared.member.Member.TheVariants as members
use Rattle.sm_policy_text.specs.declared.policy.Condition.{Condition}
use Rattle.sm_policy_text.specs.Documents.{statement_fields, listed, items_if, items, document_fields}
use Rattle.sm_policy_text.specs.Kinds.{is_text, is_version_text, is_version_if, is_version, effect, principals, pattern, one_or_more, condition}
use Rattle.sm_policy_text.specs.Members.{spelled, Field, may, must, is_read, member_of, fault_at, fault_of, first, first_fault, unknown_of, given}
use Rattle.sm_policy_laws.specs.Words.{IsText, Lacks, Has, HasOnly, IsFullList, IsOneOrMore}
use Rattle.sm_policy_laws.specs.Parts.{IsVersion, IsEffect, IsPrincipals, IsPattern, IsCondition}
use Rattle.sm_policy_laws.specs.Policies.{HasCondition, HasVersion}
use Rattle.sm_policy_laws.specs.Faults.{Rule, needs, may_be_text, IsFirstBroken, AllHold, IsFaultOf, IsLeastUnknown, statement_rules, AreStatements, policy_rules}
use Rattle.sm_policy_laws.specs.Laws.{IsReadAs}
use Rattle.sm_policy_laws.proofs.WordLemmas.{same_is, string_of, array_of, object_of, chained}
use Rattle.sm_policy_laws.proofs.PartLemmas.{effects, all_principals, pattern_lists, conditions}
use Rattle.sm_policy_laws.proofs.OrderLemmas.{IsOrdered}
use Rattle.sm_policy_laws.proofs.UnknownLemmas.{spelled_all, only_of, of_only, least_of, of_least}

-- a field tells whether a rule holds
pub record Tells (field : Field) (rule : Rule) : Type 0 where
  pub named : spelled field.name ≡ rule.name
  pub fine : (json : Data) → rule.holds json → fault_of field json ≡ None
  pub holds : (json : Data) → fault_of field json ≡ None → rule.holds json

abbrev pub AllTell : List Field → List Rule → Type 0
AllTell [] [] = ⊤
AllTell [] (rule ∷ rules) = ⊥
AllTell (field ∷ fields) [] = ⊥
AllTell (field ∷ fields) (rule ∷ rules) = Tells field rule × AllTell fields rules

-- a member at fault is told by its name
fault_named : (field : Field) (json : Data) (name : List ℕ) → fault_of field json ≡ Some name
    → name ≡ spelled field.name
unfolding fault_of
fault_named field json name e = by (member_of field.name json) e
  where
    missing : (b : Bool) → cond b (Some (spelled field.name)) None ≡ Some name → name ≡ spelled field.name
    missing true f = let g : name ≡ spelled field.name = cc in g
    missing false f = absurd (let g = f in cc)

    unfit : (b : Bool) → cond b None (Some (spelled field.name)) ≡ Some name → name ≡ spelled field.name
    unfit true f = absurd (let g = f in cc)
    unfit false f = let g : name ≡ spelled field.name = cc in g

    by : (o : Option Data) → fault_at field o ≡ Some name → name ≡ spelled field.name
    by None f = missing field.required f
    by (Some value) f = unfit (field.fits value) f

module _ (json : Data) where
  all_hold : (fields : List Field) (rules : List Rule) → AllTell fields rules → first_fault fields json ≡ None
      → AllHold rules json
  all_hold [] [] tell e = tt
  all_hold [] (rule ∷ rules) tell e = absurd tell
  all_hold (field ∷ fields) [] tell e = absurd tell
  all_hold (field ∷ fields) (rule ∷ rules) (one, tell) e =
      by (fault_of field json) refl (λ f. all_hold fields rules tell f) e
    where
      by : (o : Option (List ℕ)) → fault_of field json ≡ o → (first_fault fields json ≡ None → AllHold rules json)
          → first o (first_fault fields json) ≡ None → rule.holds json × AllHold rules json
      by None is later f = (one.holds json is, later f)
      by (Some name) is later f = absurd (let g = f in cc)

  hold_all : (fields : List Field) (rules : List Rule) → AllTell fields rules → AllHold rules json
      → first_fault fields json ≡ None
  hold_all [] [] tell hold = refl
  hold_all [] (rule ∷ rules) tell hold = absurd tell
  hold_all (field ∷ fields) [] tell hold = absurd tell
  hold_all (field ∷ fields) (rule ∷ rules) (one, tell) (holds, hold) =
      ap (λ o. first o (first_fault fields json)) (one.fine json holds) ∙ hold_all fields rules tell hold

  first_broken : (fields : List Field) (rules : List Rule) (name : List ℕ) → AllTell fields rules
      → first_fault fields json ≡ Some name → IsFirstBroken rules json name
  first_broken [] [] name tell e = absurd (let f = e in cc)
  first_broken [] (rule ∷ rules) name tell e = absurd tell
  first_broken (field ∷ fields) [] name tell e = absurd tell
  first_broken (field ∷ fields) (rule ∷ rules) name (one, tell) e =
      by (fault_of field json) refl (λ f. first_broken fields rules name tell f) e
    where
      by : (o : Option (List ℕ)) → fault_of field json ≡ o
          → (first_fault fields json ≡ Some name → IsFirstBroken rules json name)
          → first o (first_fault fields json) ≡ Some name
          → ((name ≡ rule.name) × (rule.holds json → ⊥)) ⊎ (rule.holds json × IsFirstBroken rules json name)
      by None is later f = inr (one.holds json is, later f)
      by (Some other) is later f = inl (
        fault_named field json name (is ∙ f) ∙ one.named,
        λ holds. (let g = sym is ∙ one.fine json holds in cc),
      )

  broken_first : (fields : List Field) (rules : List Rule) (name : List ℕ) → AllTell fields rules
      → IsFirstBroken rules json name → first_fault fields json ≡ Some name
  broken_first [] [] name tell broken = absurd broken
  broken_first [] (rule ∷ rules) name tell broken = absurd tell
  broken_first (field ∷ fields) [] name tell broken = absurd tell
  broken_first (field ∷ fields) (rule ∷ rules) name (one, tell) (inl (same, broken)) =
      by (fault_of field json) refl
    where
      by : (o : Option (List ℕ)) → fault_of field json ≡ o → first o (first_fault fields json) ≡ Some name
      by None is = absurd (broken (one.holds json is))
      by (Some other) is = ap Some (fault_named field json other is ∙ one.named ∙ sym same)
  broken_first (field ∷ fields) (rule ∷ rules) name (one, tell) (inr (holds, broken)) =
      ap (λ o. first o (first_fault fields json)) (one.fine json holds)
      ∙ broken_first fields rules name tell broken

-- the fault of an object
module _ (known : List Member) (fields : List Field) (rules : List Rule) (tell : AllTell fields rules) (json : Data)
    (found : shapes.Members) (is : json ≡ shapes.object found) where
  at_object : (faulty : Option (List ℕ)) → first (unknown_of known (as_object json)) faulty
      ≡ first (unknown_of known (Some found)) faulty
  at_object faulty = ap (λ (d : Data). first (unknown_of known (as_object d)) faulty) is

  pub no_fault : first (unknown_of known (as_object json)) (first_fault fields json) ≡ None
      → HasOnly (spelled_all known) found × AllHold rules json
  no_fault e = by (unknown_of known (Some found)) refl (sym (at_object (first_fault fields json)) ∙ e)
    where
      by : (o : Option (List ℕ)) → unknown_of known (Some found) ≡ o → first o (first_fault fields json) ≡ None
          → HasOnly (spelled_all known) found × AllHold rules json
      by None here f = (only_of known found here, all_hold json fields rules tell f)
      by (Some name) here f = absurd (let g = f in cc)

  pub faultless : HasOnly (spelled_all known) found → AllHold rules json
      → first (unknown_of known (as_object json)) (first_fault fields json) ≡ None
  faultless only hold =
      at_object (first_fault fields json)
      ∙ ap (λ o. first o (first_fault fields json)) (of_only known found only)
      ∙ hold_all json fields rules tell hold

  pub fault_is : (name : List ℕ) → IsOrdered json
      → first (unknown_of known (as_object json)) (first_fault fields json) ≡ Some name
      → IsFaultOf (spelled_all known) rules json name
  fault_is name ordered e = by (unknown_of known (Some found)) refl (sym (at_object (first_fault fields json)) ∙ e)
    where
      by : (o : Option (List ℕ)) → unknown_of known (Some found) ≡ o → first o (first_fault fields json) ≡ Some name
          → IsFaultOf (spelled_all known) rules json name
      by None here f =
          (found, is, inr (only_of known found here, first_broken json fields rules name tell f))
      by (Some other) here f = (found, is, inl (least_of known found name (subst IsOrdered is ordered) (here ∙ f)))

  pub is_fault : (name : List ℕ) → IsOrdered json
      → IsLeastUnknown (spelled_all known) found name
      ⊎ (HasOnly (spelled_all known) found × IsFirstBroken rules json name)
      → first (unknown_of known (as_object json)) (first_fault fields json) ≡ Some name
  is_fault name ordered (inl least) =
      at_object (first_fault fields json)
      ∙ ap (λ o. first o (first_fault fields json)) (of_least known found name (subst IsOrdered is ordered) least)
  is_fault name ordered (inr (only, broken)) =
      at_object (first_fault fields json)
      ∙ ap (λ o. first o (first_fault fields json)) (of_only known found only)
      ∙ broken_first json fields rules name tell broken

-- the value of a member
module _ {A : Type 0} (reads : Data → Option A) (Is : Data → A → Type 0) (law : IsReadAs reads Is) (which : Member)
    (json : Data) where
  pub given_is : (x : A) → given reads which json ≡ Some x → Has Is (spelled which) json x
  unfolding given member_of
  given_is x e = let c = chained reads (get (spelled which) json) x e in (c.0, c.1, (law c.0 x).0 c.2)

  pub is_given : (x : A) → Has Is (spelled which) json x → given reads which json ≡ Some x
  unfolding given member_of
  is_given x (value, is, one) = ap (option_and_then reads) is ∙ (law value x).1 one

  -- a member that is there and fits
  read_of : (o : Option A) → cond (is_some o) None (Some (spelled which)) ≡ None → (x : A) × (o ≡ Some x)
  read_of None e = absurd (let f = e in cc)
  read_of (Some x) e = (x, refl)

  pub needed : fault_of (must which (is_read reads)) json ≡ None → (x : A) × Has Is (spelled which) json x
  unfolding fault_of must member_of
  needed e = by (get (spelled which) json) refl e
    where
      by : (o : Option Data) → get (spelled which) json ≡ o → fault_at (must which (is_read reads)) o ≡ None
          → (x : A) × Has Is (spelled which) json x
      by None is f = absurd (let g = f in cc)
      by (Some value) is f = let r = read_of (reads value) f in (r.0, (value, is, (law value r.0).0 r.1))

  pub need : (x : A) → Has Is (spelled which) json x → fault_of (must which (is_read reads)) json ≡ None
  unfolding fault_of must member_of
  need x (value, is, one) = ap (fault_at (must which (is_read reads))) is
      ∙ ap (λ o. cond (is_some o) None (Some (spelled which))) ((law value x).1 one)

  pub allowed : fault_of (may which (is_read reads)) json ≡ None
      → Lacks (spelled which) json ⊎ ((x : A) × Has Is (spelled which) json x)
  unfolding fault_of may member_of
  allowed e = by (get (spelled which) json) refl e
    where
      by : (o : Option Data) → get (spelled which) json ≡ o → fault_at (may which (is_read reads)) o ≡ None
          → Lacks (spelled which) json ⊎ ((x : A) × Has Is (spelled which) json x)
      by None is f = inl is
      by (Some value) is f = let r = read_of (reads value) f in inr (r.0, (value, is, (law value r.0).0 r.1))

  pub allow : Lacks (spelled which) json ⊎ ((x : A) × Has Is (spelled which) json x)
      → fault_of (may which (is_read reads)) json ≡ None
  unfolding fault_of may member_of
  allow (inl absent) = ap (fault_at (may which (is_read reads))) absent
  allow (inr (x, (value, is, one))) = ap (fault_at (may which (is_read reads))) is
      ∙ ap (λ o. cond (is_some o) None (Some (spelled which))) ((law value x).1 one)

strings : IsReadAs as_str IsText
strings value t = (λ e. string_of value t e, λ e. ap as_str e)

text_tells : (which : Member) → Tells (may which is_text) (may_be_text (spelled which))
unfolding may
text_tells which = record {
  named = refl;
  fine = λ json holds. allow as_str IsText strings which json holds;
  holds = λ json e. allowed as_str IsText strings which json e;
}

must_tells : {A : Type 0} (reads : Data → Option A) (Is : Data → A → Type 0) (law : IsReadAs reads Is)
    (which : Member) → Tells (must which (is_read reads)) (needs Is (spelled which))
unfolding must
must_tells reads Is law which = record {
  named = refl;
  fine = λ json (x, has). need reads Is law which json x has;
  holds = λ json e. needed reads Is law which json e;
}

condition_tells : Tells (may members.Condition (is_read condition))
    (record { name = codes "Condition"; holds = λ json. (x : Condition) × HasCondition json x })
unfolding may
condition_tells = record {
  named = refl;
  fine = λ json (x, has). allow condition IsCondition conditions members.Condition json (there json x has);
  holds = λ json e. of json (allowed condition IsCondition conditions members.Condition json e);
}
  where
    there : (json : Data) (x : Condition) → HasCondition json x
        → Lacks (codes "Condition") json ⊎ ((y : Condition) × Has IsCondition (codes "Condition") json y)
    there json x (inl (absent, none)) = inl absent
    there json x (inr has) = inr (x, has)

    of : (json : Data) → Lacks (codes "Condition") json ⊎ ((y : Condition) × Has IsCondition (codes "Condition") json y)
        → (x : Condition) × HasCondition json x
    of json (inl absent) = (record { 0 = [] }, inl (absent, refl))
    of json (inr (x, has)) = (x, inr has)

pub statements_tell : AllTell statement_fields statement_rules
unfolding statement_fields
statements_tell = (
  text_tells members.Sid,
  (
    must_tells effect IsEffect effects members.Effect,
    (
      must_tells principals IsPrincipals all_principals members.Principal,
      (
        must_tells (one_or_more pattern) (IsOneOrMore IsPattern) pattern_lists members.Action,
        (
          must_tells (one_or_more pattern) (IsOneOrMore IsPattern) pattern_lists members.Resource,
          (condition_tells, tt),
        ),
      ),
    ),
  ),
)

-- the statements of a document
pub listings : IsReadAs items AreStatements
unfolding items
listings value x = (λ e. by (as_object value) refl e, back)
  where
    list : (o : Option shapes.Items) → as_array value ≡ o → listed o ≡ Some x → IsFullList value x
    list None is h = absurd (let f = h in cc)
    list (Some shapes.no_items) is h = absurd (let f = h in cc)
    list (Some (shapes.item one more)) is h =
        let f : x ≡ shapes.item one more = cc in
        (one, more, f, array_of value (shapes.item one more) is ∙ ap shapes.array (sym f))

    by : (o : Option shapes.Members) → as_object value ≡ o → items_if value o ≡ Some x → AreStatements value x
    by None is h = inr (list (as_array value) refl h)
    by (Some found) is h =
        let f : x ≡ shapes.item value shapes.no_items = cc in inl ((found, object_of value found is), f)

    back : AreStatements value x → items_if value (as_object value) ≡ Some x
    back (inl ((found, is), same)) = ap (λ d. items_if value (as_object d)) is ∙ ap Some (sym same)
    back (inr (one, more, same, is)) =
        ap items_of (is ∙ ap shapes.array same) ∙ ap Some (sym same)
      where
        items_of : Data → Option shapes.Items
        items_of d = items_if d (as_object d)

version_is : (value : Data) → is_version value ≡ true → IsVersion value
unfolding is_version is_version_text
version_is value e = by (as_str value) refl e
  where
    by : (o : Option (List ℕ)) → as_str value ≡ o → is_version_if o ≡ true → IsVersion value
    by None is h = absurd (let f = h in cc)
    by (Some t) is h = string_of value t is ∙ ap shapes.string (same_is t (codes "2012-10-17") h)

is_version_of : (value : Data) → IsVersion value → is_version value ≡ true
unfolding is_version is_version_text same_text
is_version_of value is = ap is_version is

version_tells : Tells (must members.Version is_version) (record { name = codes "Version"; holds = HasVersion })
unfolding must fault_of member_of
version_tells = record {
  named = refl;
  fine = λ json (value, is, version). ap (fault_at (must members.Version is_version)) is
      ∙ ap (λ b. cond b None (Some (codes "Version"))) (is_version_of value version);
  holds = λ json e. by json (get (codes "Version") json) refl e;
}
  where
    fits : (json value : Data) (b : Bool) → is_version value ≡ b → get (codes "Version") json ≡ Some value
        → cond b None (Some (codes "Version")) ≡ None → HasVersion json
    fits json value true h is f = (value, is, version_is value h)
    fits json value false h is f = absurd (let g = f in cc)

    by : (json : Data) (o : Option Data) → get (codes "Version") json ≡ o
        → fault_at (must members.Version is_version) o ≡ None → HasVersion json
    by json None is f = absurd (let g = f in cc)
    by json (Some value) is f = fits json value (is_version value) refl is f

pub policies_tell : AllTell document_fields policy_rules
unfolding document_fields
policies_tell = (
  version_tells,
  (text_tells members.Id, (must_tells items AreStatements listings members.Statement, tt)),
)
