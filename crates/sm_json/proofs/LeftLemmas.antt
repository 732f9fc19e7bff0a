-- What is left out by name.
use Rattle.std.proofs.Common.{◌≡◌, Option, Some, None, option_and_then, option_map, Err, refl, ap, sym, ◌∙◌}
use Rattle.serde_json.specs.Data as shapes
use Rattle.serde_json.specs.Data.{Data}
use Rattle.serde_json.specs.Find.{as_number, as_i64, as_str, as_object}
use Rattle.sm_json.specs.declared.fields.Mark.{Mark}
use Rattle.sm_json.specs.declared.fields.Mark.TheVariants.{Bad, LeftOut}
use Rattle.sm_json.specs.declared.name.MemberName.{MemberName}
use Rattle.sm_json.specs.declared.name.MemberName.TheVariants as names
use Rattle.sm_json.specs.Fields.{Flaw, may, left, mark_in, member_of, fault_at, fault_of, first, given_at}
use Rattle.sm_json.specs.Kinds.{or_bad, text, integer, object_or_bad, rules_members, rules_in, rules}
use Rattle.sm_json.specs.KindLaws.{IsLeftRules, RulesAreLeft}
use Rattle.sm_json.proofs.KindLemmas.{object_of, left_fits, flaw_of}
use Rattle.sm_json.proofs.KindLawLemmas.{days_are, days_fit, days_flaw, duration_flaw, schedule_flaw, rules_flaw}

object_left : {A : Type 0} (o : Option shapes.Members) (flaw : Option Flaw) (x : A)
    → object_or_bad o flaw x ≡ Err LeftOut
    → ((found : shapes.Members) × (o ≡ Some found)) × ((which : MemberName) × (flaw ≡ Some (which, LeftOut)))
object_left None flaw x e = absurd (let f = e in cc)
object_left (Some found) None x e = absurd (let f = e in cc)
object_left (Some found) (Some (which, Bad)) x e = absurd (let f = e in cc)
object_left (Some found) (Some (which, LeftOut)) x e = ((found, refl), (which, refl))

-- the mark of a flaw
abbrev mark_or : Option Flaw → Mark
mark_or None = Bad
mark_or (Some flaw) = flaw.1

-- what is a value of a type or none is never left out
no_bad_left : {A : Type 0} (o : Option A) (which other : MemberName)
    → option_map (flaw_of other) (mark_in (or_bad o)) ≡ Some (which, LeftOut) → ⊥
no_bad_left None which other e = let f : Bad ≡ LeftOut = ap mark_or e in cc
no_bad_left (Some x) which other e = let f = e in cc

no_days_at : (o : Option Data) (which : MemberName)
    → fault_at (may names.AutomaticallyAfterDays integer) o ≡ Some (which, LeftOut) → ⊥
unfolding may integer
no_days_at None which e = let f = e in cc
no_days_at (Some value) which e =
    no_bad_left (option_and_then as_i64 (as_number value)) which names.AutomaticallyAfterDays e

no_days_left : (value : Data) (which : MemberName) → days_flaw value ≡ Some (which, LeftOut) → ⊥
unfolding fault_of may
no_days_left value which e = no_days_at (member_of names.AutomaticallyAfterDays value) which e

days_pass : (value : Data) (flaw rest : Option Flaw) (which : MemberName) → days_flaw value ≡ flaw
    → first flaw rest ≡ Some (which, LeftOut) → (days_flaw value ≡ None) × (rest ≡ Some (which, LeftOut))
days_pass value None rest which is e = (is, e)
days_pass value (Some flaw) rest which is e = absurd (no_days_left value which (is ∙ e))

no_schedule_at : (o : Option Data) (which : MemberName)
    → fault_at (may names.ScheduleExpression text) o ≡ Some (which, LeftOut) → ⊥
unfolding may text
no_schedule_at None which e = let f = e in cc
no_schedule_at (Some value) which e = no_bad_left (as_str value) which names.ScheduleExpression e

lone : (flaw : Option Flaw) → first flaw None ≡ flaw
lone None = refl
lone (Some flaw) = refl

no_schedule_left : (value : Data) (which : MemberName) → first (schedule_flaw value) None ≡ Some (which, LeftOut) → ⊥
unfolding fault_of may
no_schedule_left value which e =
    no_schedule_at (member_of names.ScheduleExpression value) which (sym (lone (schedule_flaw value)) ∙ e)

abbrev behind_days : Data → Option Flaw
behind_days value = first (duration_flaw value) (first (schedule_flaw value) None)

-- without a Duration no rules are left out
none_left : (value : Data) (which : MemberName) → member_of names.Duration value ≡ None
    → behind_days value ≡ Some (which, LeftOut) → ⊥
unfolding fault_of left
none_left value which none e =
    no_schedule_left value which (sym (ap (λ f. first f (first (schedule_flaw value) None))
    (left_fits names.Duration (member_of names.Duration value) none)) ∙ e)

left_is_rules : (value : Data) → rules value ≡ Err LeftOut → IsLeftRules value
unfolding rules rules_members fault_of may
left_is_rules value e =
    let p = object_left (as_object value) (rules_flaw value) (rules_in value) e in
    let q = days_pass value (days_flaw value) (behind_days value) p.1.0 refl p.1.1 in (
      (p.0.0, object_of value p.0.0 p.0.1),
      (
        given_at integer (member_of names.AutomaticallyAfterDays value),
        days_are value (given_at integer (member_of names.AutomaticallyAfterDays value)) q.0 refl,
      ),
      λ none. none_left value p.1.0 none q.1,
    )

left_as : {A : Type 0} (o : Option shapes.Members) (found : shapes.Members) (flaw : Option Flaw) (x : A)
    (which : MemberName) → o ≡ Some found → flaw ≡ Some (which, LeftOut) → object_or_bad o flaw x ≡ Err LeftOut
left_as o found flaw x which is e = ap (λ p. object_or_bad p flaw x) is
    ∙ ap (λ f. object_or_bad (Some found) f x) e

left_there : (which : MemberName) (o : Option Data) (value : Data) → o ≡ Some value
    → fault_at (left which) o ≡ Some (which, LeftOut)
unfolding left
left_there which o value is = ap (fault_at (left which)) is

is_left_rules : (value : Data) → IsLeftRules value → rules value ≡ Err LeftOut
unfolding rules rules_members fault_of may left
is_left_rules value ((found, is), (days, has), some) = at_duration (member_of names.Duration value) refl
  where
    at_duration : (duration : Option Data) → member_of names.Duration value ≡ duration
        → object_or_bad (as_object value) (rules_flaw value) (rules_in value) ≡ Err LeftOut
    at_duration None none = absurd (some none)
    at_duration (Some duration) there =
        let d = days_fit value days has in
        left_as (as_object value) found (rules_flaw value) (rules_in value) names.Duration (ap as_object is)
        (ap (λ f. first f (behind_days value)) d.0
        ∙ ap (λ f. first f (first (schedule_flaw value) None))
        (left_there names.Duration (member_of names.Duration value) duration there))

pub rules_left : RulesAreLeft
rules_left value = (left_is_rules value, is_left_rules value)
