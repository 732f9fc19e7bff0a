-- The forms of ValidateResourcePolicy: AWS Secrets Manager API Reference, ValidateResourcePolicy. A text that is no
-- policy is no fault of the request: the reply says so.
use Rattle.std.specs.Prelude.{Option, codes}
use Rattle.sm_model.specs.declared.request.ValidateResourcePolicy.{ValidateResourcePolicy}
use Rattle.sm_model.specs.declared.why.Why.{Why}
use Rattle.sm_base.specs.Spelling.{is_secret_id}
use Rattle.sm_forms.specs.Members.{first_why, form_of}
use Rattle.sm_forms.specs.Policies.{policy_form}

-- the members, in ascending byte order of their names
abbrev pub validate_forms : ValidateResourcePolicy → Option Why
validate_forms validate =
    first_why (policy_form validate.resource_policy) (form_of is_secret_id (codes "SecretId") validate.secret_id)
