-- The forms of PutResourcePolicy: AWS Secrets Manager API Reference, PutResourcePolicy.
use Rattle.std.specs.Prelude.{Option, codes}
use Rattle.sm_model.specs.declared.request.PutResourcePolicy.{PutResourcePolicy}
use Rattle.sm_model.specs.declared.why.Why.{Why}
use Rattle.sm_base.specs.Spelling.{is_secret_id}
use Rattle.sm_forms.specs.Members.{first_why, form_unless}
use Rattle.sm_forms.specs.Policies.{policy_form, policy_flaw}

-- the members, in ascending byte order of their names
abbrev pub put_policy_members : PutResourcePolicy → Option Why
put_policy_members put =
    first_why (policy_form put.resource_policy) (form_unless (is_secret_id put.secret_id) (codes "SecretId"))

-- the members, and then that the text is a policy
abbrev pub put_policy_forms : PutResourcePolicy → Option Why
put_policy_forms put = first_why (put_policy_members put) (policy_flaw put.resource_policy)
