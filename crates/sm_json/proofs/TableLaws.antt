-- The least faulty member of a table whose names ascend.
use Rattle.std.proofs.Common.{◌≡◌, ℕ, List, [], ◌∷◌, Bool, true, false, ◌&&◌, Option, Some, None, inl, inr, refl, ap, sym, subst, ◌∙◌}
use Rattle.std.proofs.Common.{Ordering, Less, Equal, Greater}
use Rattle.std.proofs.lemmas.Cmp.{nat_list_cmp_total, tied_itself}
use Rattle.std.specs.Cmp.Lexicographic.{slice_cmp}
use Rattle.std.specs.Ordering.{nat_cmp, is_lt, ordering_reverse}
use Rattle.serde_json.specs.Data.{Data}
use Rattle.sm_model.specs.declared.request.Request.{Request}
use Rattle.sm_json.specs.declared.fields.Mark.{Mark}
use Rattle.sm_json.specs.declared.name.MemberName.{MemberName}
use Rattle.sm_json.specs.declared.operation.Operation.{Operation}
use Rattle.sm_json.specs.declared.operation.Operation.TheVariants as named
use Rattle.sm_json.specs.declared.requests.ReadRequest.TheVariants as answers
use Rattle.sm_json.specs.Asks.{members_of, request_in, refused, refused_or}
use Rattle.sm_json.specs.Fields.{Field, Flaw, may, must, fault_of, first, first_fault}
use Rattle.sm_json.specs.Names.{spelled}
use Rattle.sm_json.specs.Tables.{batch_get_secret_value_members, of_secret_members, create_secret_members, delete_secret_members, get_random_password_members, get_secret_value_members, list_secret_version_ids_members, list_secrets_members, put_resource_policy_members, put_secret_value_members, remove_regions_members, replicate_secret_members, rotate_secret_members, tag_resource_members, untag_resource_members, update_secret_members, update_secret_version_stage_members, validate_resource_policy_members}
use Rattle.sm_json.specs.Laws.{Has, Before, Ascends, TablesAscend, IsLeast, LeastIsRefused, Fit, FitIsAnswered}

-- the test that a name stands before those of a table, and that the names of a table ascend
abbrev before_all : List ℕ → List Field → Bool
before_all name [] = true
before_all name (field ∷ fields) = is_lt (slice_cmp nat_cmp name (spelled field.name)) && before_all name fields

abbrev ascend_test : List Field → Bool
ascend_test [] = true
ascend_test (field ∷ fields) = before_all (spelled field.name) fields && ascend_test fields

one_holds : (a b : Bool) → a && b ≡ true → a ≡ true
one_holds true b h = refl
one_holds false b h = h

other_holds : (a b : Bool) → a && b ≡ true → b ≡ true
other_holds true b h = h
other_holds false b h = absurd (let e = h in cc)

less : (o : Ordering) → is_lt o ≡ true → o ≡ Less
less Less h = refl
less Equal h = absurd (let e = h in cc)
less Greater h = absurd (let e = h in cc)

before_each : (this : MemberName) (fields : List Field) → before_all (spelled this) fields ≡ true
    → (other : Field) → Has fields other → Before this other.name
before_each this [] h other in_it = absurd in_it
before_each this (field ∷ fields) h other (inl is) =
    subst (λ (f : Field). Before this f.name) is
    (less _ (one_holds (is_lt (slice_cmp nat_cmp (spelled this) (spelled field.name)))
    (before_all (spelled this) fields) h))
before_each this (field ∷ fields) h other (inr more) =
    before_each this fields (other_holds (is_lt (slice_cmp nat_cmp (spelled this) (spelled field.name)))
    (before_all (spelled this) fields) h) other more

ascends : (fields : List Field) → ascend_test fields ≡ true → Ascends fields
ascends [] h = tt
ascends (field ∷ fields) h = (
  before_each field.name fields (one_holds (before_all (spelled field.name) fields) (ascend_test fields) h),
  ascends fields (other_holds (before_all (spelled field.name) fields) (ascend_test fields) h),
)

-- every table
tested : (operation : Operation) → ascend_test (members_of operation) ≡ true
unfolding spelled may must batch_get_secret_value_members of_secret_members create_secret_members
    delete_secret_members get_random_password_members get_secret_value_members list_secret_version_ids_members
    list_secrets_members put_resource_policy_members put_secret_value_members remove_regions_members
    replicate_secret_members rotate_secret_members
    tag_resource_members untag_resource_members update_secret_members update_secret_version_stage_members
    validate_resource_policy_members
tested named.BatchGetSecretValue = refl
tested named.CancelRotateSecret = refl
tested named.CreateSecret = refl
tested named.DeleteResourcePolicy = refl
tested named.DeleteSecret = refl
tested named.DescribeSecret = refl
tested named.GetRandomPassword = refl
tested named.GetResourcePolicy = refl
tested named.GetSecretValue = refl
tested named.ListSecretVersionIds = refl
tested named.ListSecrets = refl
tested named.PutResourcePolicy = refl
tested named.PutSecretValue = refl
tested named.RemoveRegionsFromReplication = refl
tested named.ReplicateSecretToRegions = refl
tested named.RestoreSecret = refl
tested named.RotateSecret = refl
tested named.StopReplicationToReplica = refl
tested named.TagResource = refl
tested named.UntagResource = refl
tested named.UpdateSecret = refl
tested named.UpdateSecretVersionStage = refl
tested named.ValidateResourcePolicy = refl

pub ascend : TablesAscend
ascend operation = ascends (members_of operation) (tested operation)

-- no name stands before itself, or before one that stands before it
not_itself : (name : MemberName) → Before name name → ⊥
not_itself name h = let e = h in let f = tied_itself nat_list_cmp_total (spelled name) in cc

not_both : (a b : MemberName) → Before a b → Before b a → ⊥
not_both a b h k =
    let back : slice_cmp nat_cmp (spelled a) (spelled b)
    ≡ ordering_reverse (slice_cmp nat_cmp (spelled b) (spelled a)) =
    nat_list_cmp_total.antisymm (spelled a) (spelled b) in
    let e : Less ≡ Greater = sym h ∙ back ∙ ap ordering_reverse k in cc

module _ (json : Data) where
  -- the first fault of an ascending table is the least
  least_of : (fields : List Field) (flaw : Flaw) → Ascends fields → first_fault fields json ≡ Some flaw
      → IsLeast fields json flaw
  least_of [] flaw up h = absurd (let e = h in cc)
  least_of (field ∷ fields) flaw up h = at_first (λ e. least_of fields flaw up.1 e) (fault_of field json) refl h
    where
      at_first : (first_fault fields json ≡ Some flaw → IsLeast fields json flaw)
          → (fault : Option Flaw) → fault_of field json ≡ fault → first fault (first_fault fields json) ≡ Some flaw
          → IsLeast (field ∷ fields) json flaw
      at_first later (Some other) is e = record {
        field = field;
        there = inl refl;
        wrong = is ∙ e;
        least = λ o in_it before. elim in_it [
          | inl same ↦ absurd (not_itself field.name
              (subst (λ (f : Field). Before f.name field.name) (sym same) before))
          | inr more ↦ absurd (not_both field.name o.name (up.0 o more) before)
        ];
      }
      at_first later None is e =
          let more = later e in record {
            field = more.field;
            there = inr more.there;
            wrong = more.wrong;
            least = λ o in_it before. elim in_it [
              | inl same ↦ subst (λ (f : Field). fault_of f json ≡ None) same is
              | inr behind ↦ more.least o behind before
            ];
          }

  -- the least is the first fault
  least_first : (fields : List Field) (flaw : Flaw) → Ascends fields → IsLeast fields json flaw
      → first_fault fields json ≡ Some flaw
  least_first [] flaw up least = absurd least.there
  least_first (field ∷ fields) flaw up least =
      at_it (λ l. least_first fields flaw up.1 l) least.there
    where
      at_it : (IsLeast fields json flaw → first_fault fields json ≡ Some flaw) → Has (field ∷ fields) least.field
          → first (fault_of field json) (first_fault fields json) ≡ Some flaw
      at_it more (inl same) =
          let is : fault_of field json ≡ Some flaw = subst (λ (f : Field). fault_of f json ≡ Some flaw) (sym same)
          least.wrong in
          ap (λ f. first f (first_fault fields json)) is
      at_it more (inr later) =
          let none : fault_of field json ≡ None = least.least field (inl refl) (up.0 least.field later) in
          ap (λ f. first f (first_fault fields json)) none
          ∙ more (record {
            field = least.field;
            there = later;
            wrong = least.wrong;
            least = λ o in_it before. least.least o (inr in_it) before;
          })

  -- nothing is at fault exactly where each member fits
  none_of : (fields : List Field) → Fit fields json → first_fault fields json ≡ None
  none_of [] fit = refl
  none_of (field ∷ fields) fit =
      ap (λ f. first f (first_fault fields json)) (fit field (inl refl))
      ∙ none_of fields (λ o in_it. fit o (inr in_it))

  fit_of : (fields : List Field) → first_fault fields json ≡ None → Fit fields json
  fit_of [] h o in_it = absurd in_it
  fit_of (field ∷ fields) h o in_it = at_first (λ e later. fit_of fields e o later) (fault_of field json) refl h in_it
    where
      at_first : (first_fault fields json ≡ None → Has fields o → fault_of o json ≡ None) → (fault : Option Flaw)
          → fault_of field json ≡ fault → first fault (first_fault fields json) ≡ None
          → Has (field ∷ fields) o → fault_of o json ≡ None
      at_first more (Some other) is e there = absurd (let f = e in cc)
      at_first more None is e (inl same) = subst (λ (f : Field). fault_of f json ≡ None) same is
      at_first more None is e (inr later) = more e later

pub least : LeastIsRefused
least operation json flaw = (
  least_of json (members_of operation) flaw (ascend operation),
  least_first json (members_of operation) flaw (ascend operation),
)

-- an answer is a request only where there is no fault
no_request : (flaw : Flaw) (request : Request) → refused flaw ≡ answers.Ok request → ⊥
no_request (_, Mark.Bad) request h = let e = h in cc
no_request (_, Mark.LeftOut) request h = let e = h in cc

unfaulted : (fault : Option Flaw) (made request : Request) → refused_or fault made ≡ answers.Ok request → fault ≡ None
unfaulted None made request h = refl
unfaulted (Some flaw) made request h = absurd (no_request flaw request h)

pub fit : FitIsAnswered
fit operation json = (
  λ (request, is). fit_of json (members_of operation)
      (unfaulted (first_fault (members_of operation) json) (request_in operation json) request is),
  λ fits. (
    request_in operation json,
    ap (λ f. refused_or f (request_in operation json)) (none_of json (members_of operation) fits),
  ),
)
