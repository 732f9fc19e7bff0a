-- What objects are tags, regions, filters and rotation rules.
use Rattle.std.proofs.Common.{◌≡◌, ℕ, ℤ, List, [], Option, Some, None, unwrap_or, Ok, ◌⊎◌, inl, inr, refl, ap, sym, subst, ◌∙◌}
use Rattle.serde_json.specs.Data as shapes
use Rattle.serde_json.specs.Data.{Data}
use Rattle.serde_json.specs.Find.{as_object}
use Rattle.sm_model.specs.declared.request.Filter.{Filter}
use Rattle.sm_model.specs.declared.request.Rules.{Rules}
use Rattle.sm_model.specs.declared.value.Tag.{Tag}
use Rattle.sm_json.specs.declared.name.MemberName.TheVariants as names
use Rattle.sm_json.specs.Fields.{Flaw, may, must, left, member_of, fault_at, fault_of, first, given_at, given, wanted}
use Rattle.sm_json.specs.Kinds.{text, integer, list_of, object_or_bad, region_members, region, tag_members, tag_in, tag, filter_members, filter_in, filter, rules_members, rules_in, rules}
use Rattle.sm_json.specs.KindLaws.{HasDays, HasSchedule, IsRegion, RegionsAre, IsTag, TagsAre, IsFilter, FiltersAre, IsRules, RulesAre}
use Rattle.sm_json.proofs.KindLemmas.{object_of, texts, lists, neither_first, object_is, must_is, may_is, must_fits, may_fits, may_be_absent, is_given, left_is, left_fits}

-- an object whose members are not at fault
fits : {A : Type 0} (o : Option shapes.Members) (found : shapes.Members) (flaw : Option Flaw) (x : A)
    → o ≡ Some found → flaw ≡ None → object_or_bad o flaw x ≡ Ok x
fits o found flaw x is none = ap (λ p. object_or_bad p flaw x) is ∙ ap (λ f. object_or_bad (Some found) f x) none

-- two members that are not at fault
pub two_fit : (a b : Option Flaw) → a ≡ None → b ≡ None → first a (first b None) ≡ None
two_fit a b p q = ap (λ f. first f (first b None)) p ∙ ap (λ f. first f None) q

pub three_fit : (a b c : Option Flaw) → a ≡ None → b ≡ None → c ≡ None → first a (first b (first c None)) ≡ None
three_fit a b c p q r = ap (λ f. first f (first b (first c None))) p ∙ two_fit b c q r

-- a member that is text
text_member : (o : Option Data) (value : Data) (x y : List ℕ) → o ≡ Some value → text value ≡ Ok x → x ≡ y
    → o ≡ Some (shapes.string y)
text_member o value x y is e same = is ∙ ap Some ((texts value x).0 e ∙ ap shapes.string same)

text_read : (x : List ℕ) → text (shapes.string x) ≡ Ok x
text_read x = (texts (shapes.string x) x).1 refl

-- the text of a Value that may be absent
value_is : (o : Option Data) (x : List ℕ) → fault_at (may names.Value text) o ≡ None
    → unwrap_or (given_at text o) [] ≡ x
    → ((o ≡ None) × (x ≡ [])) ⊎ (o ≡ Some (shapes.string x))
value_is o x none is = elim (may_is text names.Value o none) [
  | inl absent ↦ inl (absent, sym is ∙ ap (λ p. unwrap_or (given_at text p) []) absent)
  | inr there ↦ inr (text_member o there.0 there.1 x there.2 there.3
      (sym (ap (λ p. unwrap_or p []) (is_given text names.Value o there.0 there.1 there.2 there.3)) ∙ is))
]

tag_is : (value : Data) (t : Tag) → tag value ≡ Ok t → IsTag value t
unfolding tag tag_members tag_in fault_of given must may
tag_is value t e =
    let p = object_is (as_object value) (first (fault_of (must names.Key text) value)
    (first (fault_of (may names.Value text) value) None)) (tag_in value) t e in
    let q = neither_first (fault_of (must names.Key text) value) (first (fault_of (may names.Value text) value) None)
    p.1 in
    let r = neither_first (fault_of (may names.Value text) value) None q.1 in
    let k = must_is text names.Key (member_of names.Key value) q.0 in
    let key : unwrap_or (given_at text (member_of names.Key value)) [] ≡ t.key = ap (λ (u : Tag). u.key) p.2 in
    let other : unwrap_or (given_at text (member_of names.Value value)) [] ≡ t.value =
    ap (λ (u : Tag). u.value) p.2 in (
      (p.0.0, object_of value p.0.0 p.0.1),
      text_member (member_of names.Key value) k.0 k.1 t.key k.2 k.3
          (sym (ap (λ o. unwrap_or o []) (is_given text names.Key (member_of names.Key value) k.0 k.1 k.2 k.3)) ∙ key),
      value_is (member_of names.Value value) t.value r.0 other,
    )

is_tag : (value : Data) (t : Tag) → IsTag value t → tag value ≡ Ok t
unfolding tag tag_members tag_in fault_of given must may
is_tag value t ((found, is), key, other) =
    let k : given_at text (member_of names.Key value) ≡ Some t.key =
    is_given text names.Key (member_of names.Key value) (shapes.string t.key) t.key key (text_read t.key) in
    let v = at_value other in
    let of : List ℕ → List ℕ → Tag = λ x y. record { key = x; value = y } in
    let same : tag_in value ≡ t =
    ap (λ o. of (unwrap_or o []) (unwrap_or (given_at text (member_of names.Value value)) [])) k
    ∙ ap (of t.key) v.1 in
    fits (as_object value) found (first (fault_of (must names.Key text) value)
    (first (fault_of (may names.Value text) value) None)) (tag_in value) (ap as_object is)
    (two_fit (fault_of (must names.Key text) value) (fault_of (may names.Value text) value)
    (must_fits text names.Key (member_of names.Key value) (shapes.string t.key) t.key key (text_read t.key)) v.0)
    ∙ ap Ok same
  where
    at_value : ((member_of names.Value value ≡ None) × (t.value ≡ []))
        ⊎ (member_of names.Value value ≡ Some (shapes.string t.value))
        → (fault_at (may names.Value text) (member_of names.Value value) ≡ None)
        × (unwrap_or (given_at text (member_of names.Value value)) [] ≡ t.value)
    at_value (inl absent) = (
      may_be_absent text names.Value (member_of names.Value value) absent.0,
      ap (λ o. unwrap_or (given_at text o) []) absent.0 ∙ sym absent.1,
    )
    at_value (inr there) = (
      may_fits text names.Value (member_of names.Value value) (shapes.string t.value) t.value there (text_read t.value),
      ap (λ o. unwrap_or o []) (is_given text names.Value (member_of names.Value value) (shapes.string t.value) t.value
          there (text_read t.value)),
    )

pub tags : TagsAre
tags value t = (tag_is value t, is_tag value t)

region_is : (value : Data) (name : List ℕ) → region value ≡ Ok name → IsRegion value name
unfolding region region_members fault_of given must
region_is value name e =
    let p = object_is (as_object value) (first (fault_of (must names.Region text) value) None)
    (wanted text names.Region value) name e in
    let q = neither_first (fault_of (must names.Region text) value) None p.1 in
    let k = must_is text names.Region (member_of names.Region value) q.0 in
    let whole : unwrap_or (given_at text (member_of names.Region value)) [] ≡ name = p.2 in (
      (p.0.0, object_of value p.0.0 p.0.1),
      text_member (member_of names.Region value) k.0 k.1 name k.2 k.3
          (sym (ap (λ o. unwrap_or o [])
          (is_given text names.Region (member_of names.Region value) k.0 k.1 k.2 k.3)) ∙ whole),
    )

is_region : (value : Data) (name : List ℕ) → IsRegion value name → region value ≡ Ok name
unfolding region region_members fault_of given must
is_region value name ((found, is), there) =
    let k : given_at text (member_of names.Region value) ≡ Some name =
    is_given text names.Region (member_of names.Region value) (shapes.string name) name there (text_read name) in
    fits (as_object value) found (first (fault_of (must names.Region text) value) None)
    (wanted text names.Region value) (ap as_object is)
    (ap (λ f. first f None)
    (must_fits text names.Region (member_of names.Region value) (shapes.string name) name there (text_read name)))
    ∙ ap Ok (ap (λ o. unwrap_or o []) k)

pub regions : RegionsAre
regions value name = (region_is value name, is_region value name)

filter_is : (value : Data) (f : Filter) → filter value ≡ Ok f → IsFilter value f
unfolding filter filter_members filter_in fault_of given must
filter_is value f e =
    let p = object_is (as_object value) (first (fault_of (must names.Key text) value)
    (first (fault_of (must names.Values (list_of text)) value) None)) (filter_in value) f e in
    let q = neither_first (fault_of (must names.Key text) value)
    (first (fault_of (must names.Values (list_of text)) value) None) p.1 in
    let r = neither_first (fault_of (must names.Values (list_of text)) value) None q.1 in
    let k = must_is text names.Key (member_of names.Key value) q.0 in
    let v = must_is (list_of text) names.Values (member_of names.Values value) r.0 in
    let key : unwrap_or (given_at text (member_of names.Key value)) [] ≡ f.key = ap (λ (u : Filter). u.key) p.2 in
    let values : unwrap_or (given_at (list_of text) (member_of names.Values value)) [] ≡ f.values =
    ap (λ (u : Filter). u.values) p.2 in
    let all : v.1 ≡ f.values = sym (ap (λ o. unwrap_or o [])
    (is_given (list_of text) names.Values (member_of names.Values value) v.0 v.1 v.2 v.3)) ∙ values in (
      (p.0.0, object_of value p.0.0 p.0.1),
      text_member (member_of names.Key value) k.0 k.1 f.key k.2 k.3
          (sym (ap (λ o. unwrap_or o []) (is_given text names.Key (member_of names.Key value) k.0 k.1 k.2 k.3)) ∙ key),
      (v.0, v.2, (lists text v.0 f.values).0 (v.3 ∙ ap Ok all)),
    )

is_filter : (value : Data) (f : Filter) → IsFilter value f → filter value ≡ Ok f
unfolding filter filter_members filter_in fault_of given must
is_filter value f ((found, is), key, (given_values, there, list)) =
    let read : list_of text given_values ≡ Ok f.values = (lists text given_values f.values).1 list in
    let k : given_at text (member_of names.Key value) ≡ Some f.key =
    is_given text names.Key (member_of names.Key value) (shapes.string f.key) f.key key (text_read f.key) in
    let v : given_at (list_of text) (member_of names.Values value) ≡ Some f.values =
    is_given (list_of text) names.Values (member_of names.Values value) given_values f.values there read in
    let of : List ℕ → List (List ℕ) → Filter = λ x y. record { key = x; values = y } in
    let same : filter_in value ≡ f =
    ap (λ o. of (unwrap_or o []) (unwrap_or (given_at (list_of text) (member_of names.Values value)) [])) k
    ∙ ap (λ o. of f.key (unwrap_or o [])) v in
    fits (as_object value) found (first (fault_of (must names.Key text) value)
    (first (fault_of (must names.Values (list_of text)) value) None)) (filter_in value) (ap as_object is)
    (two_fit (fault_of (must names.Key text) value) (fault_of (must names.Values (list_of text)) value)
    (must_fits text names.Key (member_of names.Key value) (shapes.string f.key) f.key key (text_read f.key))
    (must_fits (list_of text) names.Values (member_of names.Values value) given_values f.values there read))
    ∙ ap Ok same

pub filters : FiltersAre
filters value f = (filter_is value f, is_filter value f)

-- the days of rules, where they are given
pub days_are : (value : Data) (days : Option ℤ) → fault_at (may names.AutomaticallyAfterDays integer)
    (member_of names.AutomaticallyAfterDays value) ≡ None
    → given_at integer (member_of names.AutomaticallyAfterDays value) ≡ days → HasDays value days
days_are value days none is =
    let cases = may_is integer names.AutomaticallyAfterDays (member_of names.AutomaticallyAfterDays value) none in
    elim cases [
      | inl absent ↦ subst (HasDays value) (sym (ap (given_at integer) absent) ∙ is) absent
      | inr there ↦ subst (HasDays value) (sym (is_given integer names.AutomaticallyAfterDays
          (member_of names.AutomaticallyAfterDays value) there.0 there.1 there.2 there.3) ∙ is)
          (there.0, there.2, there.3)
    ]

pub days_fit : (value : Data) (days : Option ℤ) → HasDays value days
    → (fault_at (may names.AutomaticallyAfterDays integer) (member_of names.AutomaticallyAfterDays value) ≡ None)
    × (given_at integer (member_of names.AutomaticallyAfterDays value) ≡ days)
days_fit value None absent = (
  may_be_absent integer names.AutomaticallyAfterDays (member_of names.AutomaticallyAfterDays value) absent,
  ap (given_at integer) absent,
)
days_fit value (Some days) (given_days, there, read) = (
  may_fits integer names.AutomaticallyAfterDays (member_of names.AutomaticallyAfterDays value) given_days days there
      read,
  is_given integer names.AutomaticallyAfterDays (member_of names.AutomaticallyAfterDays value) given_days days there
      read,
)

abbrev pub days_flaw : Data → Option Flaw
days_flaw value = fault_of (may names.AutomaticallyAfterDays integer) value

abbrev pub duration_flaw : Data → Option Flaw
duration_flaw value = fault_of (left names.Duration) value

-- the schedule of rules, where it is given
schedule_is : (value : Data) (schedule : Option (List ℕ)) → fault_at (may names.ScheduleExpression text)
    (member_of names.ScheduleExpression value) ≡ None
    → given_at text (member_of names.ScheduleExpression value) ≡ schedule → HasSchedule value schedule
schedule_is value schedule none is =
    let cases = may_is text names.ScheduleExpression (member_of names.ScheduleExpression value) none in
    elim cases [
      | inl absent ↦ subst (HasSchedule value) (sym (ap (given_at text) absent) ∙ is) absent
      | inr there ↦ subst (HasSchedule value) (sym (is_given text names.ScheduleExpression
          (member_of names.ScheduleExpression value) there.0 there.1 there.2 there.3) ∙ is)
          (text_member (member_of names.ScheduleExpression value) there.0 there.1 there.1 there.2 there.3 refl)
    ]

schedule_fits : (value : Data) (schedule : Option (List ℕ)) → HasSchedule value schedule
    → (fault_at (may names.ScheduleExpression text) (member_of names.ScheduleExpression value) ≡ None)
    × (given_at text (member_of names.ScheduleExpression value) ≡ schedule)
schedule_fits value None absent = (
  may_be_absent text names.ScheduleExpression (member_of names.ScheduleExpression value) absent,
  ap (given_at text) absent,
)
schedule_fits value (Some schedule) there = (
  may_fits text names.ScheduleExpression (member_of names.ScheduleExpression value) (shapes.string schedule) schedule
      there (text_read schedule),
  is_given text names.ScheduleExpression (member_of names.ScheduleExpression value) (shapes.string schedule) schedule
      there (text_read schedule),
)

abbrev pub schedule_flaw : Data → Option Flaw
schedule_flaw value = fault_of (may names.ScheduleExpression text) value

abbrev pub rules_flaw : Data → Option Flaw
rules_flaw value = first (days_flaw value) (first (duration_flaw value) (first (schedule_flaw value) None))

rules_is : (value : Data) (r : Rules) → rules value ≡ Ok r → IsRules value r
unfolding rules rules_members rules_in fault_of given may left
rules_is value r e =
    let p = object_is (as_object value) (rules_flaw value) (rules_in value) r e in
    let q = neither_first (days_flaw value) (first (duration_flaw value) (first (schedule_flaw value) None)) p.1 in
    let d = neither_first (duration_flaw value) (first (schedule_flaw value) None) q.1 in
    let s = neither_first (schedule_flaw value) None d.1 in (
      (p.0.0, object_of value p.0.0 p.0.1),
      days_are value r.days q.0 (ap (λ (u : Rules). u.days) p.2),
      left_is names.Duration (member_of names.Duration value) d.0,
      schedule_is value r.schedule s.0 (ap (λ (u : Rules). u.schedule) p.2),
    )

is_rules : (value : Data) (r : Rules) → IsRules value r → rules value ≡ Ok r
unfolding rules rules_members rules_in fault_of given may left
is_rules value r ((found, is), days, duration, schedule) =
    let d = days_fit value r.days days in
    let s = schedule_fits value r.schedule schedule in
    let of : Option ℤ → Option (List ℕ) → Rules = λ x y. record { days = x; schedule = y } in
    fits (as_object value) found (rules_flaw value) (rules_in value) (ap as_object is)
    (three_fit (days_flaw value) (duration_flaw value) (schedule_flaw value) d.0
    (left_fits names.Duration (member_of names.Duration value) duration) s.0)
    ∙ ap (λ o. Ok (of o (given_at text (member_of names.ScheduleExpression value)))) d.1
    ∙ ap (λ o. Ok (of r.days o)) s.1

pub rules_are : RulesAre
rules_are value r = (rules_is value r, is_rules value r)
