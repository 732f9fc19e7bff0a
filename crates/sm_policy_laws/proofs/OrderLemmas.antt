-- An object that was read has its members in ascending byte order of their names.
use Rattle.std.proofs.Common.{◌≡◌, ℕ, List, Bool, true, false, cond, Ordering, Less, Equal, Greater, Option, Some, None, option_map, option_and_then, ◌⊎◌, inl, inr, refl, ap, sym, subst, ◌∙◌}
use Rattle.std.specs.Bool.{⊤}
use Rattle.std.proofs.lemmas.Cmp.{nat_list_cmp_total}
use Rattle.std.specs.Cmp.Lexicographic.{slice_cmp}
use Rattle.std.specs.Ordering.{nat_cmp, ordering_reverse, match_ordering}
use Rattle.std.specs.Str.{is_utf8}
use Rattle.json.specs.Json as grammar
use Rattle.json.specs.Lex.{tokens}
use Rattle.serde_json.specs.Data as shapes
use Rattle.serde_json.specs.Data.{Data, put}
use Rattle.serde_json.specs.Find.{get, get_member}
use Rattle.serde_json.specs.Read.{number_of, max_depth, of_json, of_items, of_members, read}
use Rattle.sm_policy_text.specs.Documents.{json_of}
use Rattle.sm_policy_laws.specs.Words.{HasName}
use Rattle.sm_policy_laws.specs.Faults.{Before}
use Rattle.sm_policy_laws.proofs.WordLemmas.{mapped, chained}

-- each object of a value has its members in ascending order
abbrev mutual
  pub IsOrdered : Data → Type 0
  IsOrdered shapes.null = ⊤
  IsOrdered (shapes.boolean b) = ⊤
  IsOrdered (shapes.number n) = ⊤
  IsOrdered (shapes.string s) = ⊤
  IsOrdered (shapes.array items) = AreOrdered items
  IsOrdered (shapes.object found) = Ascend found

  pub AreOrdered : shapes.Items → Type 0
  AreOrdered shapes.no_items = ⊤
  AreOrdered (shapes.item value items) = IsOrdered value × AreOrdered items

  pub Ascend : shapes.Members → Type 0
  Ascend shapes.no_members = ⊤
  Ascend (shapes.member name value found) =
      ((other : List ℕ) → HasName found other → Before name other) × IsOrdered value × Ascend found

-- a name is before all that another is before
pub before_both : (a b c : List ℕ) → Before a b → Before b c → Before a c
before_both a b c p q = nat_list_cmp_total.trans a b c p q

pub before_back : (a b : List ℕ) → slice_cmp nat_cmp a b ≡ Greater → Before b a
before_back a b h = nat_list_cmp_total.antisymm b a ∙ ap ordering_reverse h

pub not_both : (a b : List ℕ) → Before a b → Before b a → ⊥
not_both a b h k =
    let back : slice_cmp nat_cmp a b ≡ ordering_reverse (slice_cmp nat_cmp b a) = nat_list_cmp_total.antisymm a b in
    let e : Less ≡ Greater = sym h ∙ back ∙ ap ordering_reverse k in cc

-- one member more
named_in_put : (k : List ℕ) (d : Data) (found : shapes.Members) (name : List ℕ) → HasName (put k d found) name
    → (k ≡ name) ⊎ HasName found name
named_in_put k d shapes.no_members name h = h
named_in_put k d (shapes.member l e found) name h =
    by (slice_cmp nat_cmp k l) (λ i. named_in_put k d found name i) h
  where
    later : (l ≡ name) ⊎ HasName (put k d found) name
        → (HasName (put k d found) name → (k ≡ name) ⊎ HasName found name)
        → (k ≡ name) ⊎ ((l ≡ name) ⊎ HasName found name)
    later (inl same) more = inr (inl same)
    later (inr put_there) more = swap (more put_there)
      where
        swap : (k ≡ name) ⊎ HasName found name → (k ≡ name) ⊎ ((l ≡ name) ⊎ HasName found name)
        swap (inl same) = inl same
        swap (inr there) = inr (inr there)

    by : (o : Ordering) → (HasName (put k d found) name → (k ≡ name) ⊎ HasName found name)
        → HasName (match_ordering o (shapes.member k d (shapes.member l e found)) (shapes.member l d found)
        (shapes.member l e (put k d found))) name
        → (k ≡ name) ⊎ ((l ≡ name) ⊎ HasName found name)
    by Less more i = i
    by Equal more i = inr i
    by Greater more i = later i more

put_ascends : (k : List ℕ) (d : Data) (found : shapes.Members) → IsOrdered d → Ascend found → Ascend (put k d found)
put_ascends k d shapes.no_members ordered up = (λ other h. absurd h, ordered, tt)
put_ascends k d (shapes.member l e found) ordered (below, old, up) =
    by (slice_cmp nat_cmp k l) refl (put_ascends k d found ordered up)
  where
    behind : Before k l → (other : List ℕ) → (l ≡ other) ⊎ HasName found other → Before k other
    behind is other (inl same) = subst (Before k) same is
    behind is other (inr there) = before_both k l other is (below other there)

    ahead : Before l k → (other : List ℕ) → (k ≡ other) ⊎ HasName found other → Before l other
    ahead is other (inl same) = subst (Before l) same is
    ahead is other (inr there) = below other there

    by : (o : Ordering) → slice_cmp nat_cmp k l ≡ o → Ascend (put k d found)
        → Ascend (match_ordering o (shapes.member k d (shapes.member l e found)) (shapes.member l d found)
        (shapes.member l e (put k d found)))
    by Less is more = (behind is, ordered, (below, old, up))
    by Equal is more = (below, ordered, up)
    by Greater is more =
        (λ other h. ahead (before_back k l is) other (named_in_put k d found other h), old, more)

mutual
  json_ordered : (j : grammar.Json) (d : Data) → of_json j ≡ Some d → IsOrdered d
  json_ordered grammar.null d e = let f : shapes.null ≡ d = cc in subst IsOrdered f tt
  json_ordered (grammar.boolean b) d e = let f : shapes.boolean b ≡ d = cc in subst IsOrdered f tt
  json_ordered (grammar.number s) d e =
      let m = mapped shapes.number (number_of s) d e in subst IsOrdered m.2 tt
  json_ordered (grammar.string s) d e = let f : shapes.string s ≡ d = cc in subst IsOrdered f tt
  json_ordered (grammar.array js) d e =
      let m = mapped shapes.array (of_items js) d e in subst IsOrdered m.2 (items_ordered js m.0 m.1)
  json_ordered (grammar.object ms) d e =
      let m = mapped shapes.object (of_members ms shapes.no_members) d e in
      subst IsOrdered m.2 (members_ordered ms shapes.no_members m.0 tt m.1)

  items_ordered : (js : grammar.Items) (items : shapes.Items) → of_items js ≡ Some items → AreOrdered items
  items_ordered grammar.no_items items e = let f : shapes.no_items ≡ items = cc in subst AreOrdered f tt
  items_ordered (grammar.item j js) items e =
      let c = chained (λ (d : Data). option_map (shapes.item d) (of_items js)) (of_json j) items e in
      let m = mapped (shapes.item c.0) (of_items js) items c.2 in
      subst AreOrdered m.2 (json_ordered j c.0 c.1, items_ordered js m.0 m.1)

  members_ordered : (ms : grammar.Members) (found all : shapes.Members) → Ascend found
      → of_members ms found ≡ Some all → Ascend all
  members_ordered grammar.no_members found all up e = let f : found ≡ all = cc in subst Ascend f up
  members_ordered (grammar.member k j ms) found all up e =
      let c = chained (λ (d : Data). of_members ms (put k d found)) (of_json j) all e in
      members_ordered ms (put k c.0 found) all (put_ascends k c.0 found (json_ordered j c.0 c.1) up) c.2

when : (test : Bool) (o : Option Data) (json : Data) → cond test o None ≡ Some json → o ≡ Some json
when true o json e = e
when false o json e = absurd (let f = e in cc)

-- what a text is as JSON is ordered
pub text_ordered : (text : List ℕ) (json : Data) → json_of text ≡ Some json → IsOrdered json
text_ordered text json e =
    let c =
    chained of_json (option_and_then (λ p. grammar.if_last p.0 p.1) (grammar.value max_depth (tokens text))) json
    (when (is_utf8 text) (read text) json e) in
    json_ordered c.0 json c.2

-- a member of an ordered object is ordered
member_ordered : (name : List ℕ) (found : shapes.Members) (value : Data) → Ascend found
    → get_member name found ≡ Some value → IsOrdered value
member_ordered name shapes.no_members value up e = absurd (let f = e in cc)
member_ordered name (shapes.member key given found) value (below, ordered, up) e =
    by (slice_cmp nat_cmp name key) (λ f. member_ordered name found value up f) e
  where
    by : (o : Ordering) → (get_member name found ≡ Some value → IsOrdered value)
        → match_ordering o (get_member name found) (Some given) (get_member name found) ≡ Some value → IsOrdered value
    by Less more f = more f
    by Equal more f = let same : given ≡ value = cc in subst IsOrdered same ordered
    by Greater more f = more f

pub part_ordered : (name : List ℕ) (json value : Data) → IsOrdered json → get name json ≡ Some value → IsOrdered value
part_ordered name shapes.null value up e = absurd (let f = e in cc)
part_ordered name (shapes.boolean b) value up e = absurd (let f = e in cc)
part_ordered name (shapes.number n) value up e = absurd (let f = e in cc)
part_ordered name (shapes.string s) value up e = absurd (let f = e in cc)
part_ordered name (shapes.array items) value up e = absurd (let f = e in cc)
part_ordered name (shapes.object found) value up e = member_ordered name found value up e
