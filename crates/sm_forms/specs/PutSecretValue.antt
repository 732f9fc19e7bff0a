-- The forms of PutSecretValue: AWS Secrets Manager API Reference, PutSecretValue.
use Rattle.std.specs.Prelude.{Option, codes}
use Rattle.sm_model.specs.declared.request.PutSecretValue.{PutSecretValue}
use Rattle.sm_model.specs.declared.why.Why.{Why}
use Rattle.sm_base.specs.Spelling.{is_token, is_secret_id}
use Rattle.sm_forms.specs.Members.{first_why, form_unless, form_of, is_value, has_one, labels_form}

-- the members, in ascending byte order of their names, and then that one value is there
abbrev pub put_forms : PutSecretValue → Option Why
put_forms put =
    first_why (form_of is_token (codes "ClientRequestToken") put.client_request_token)
    (first_why (form_of is_value (codes "SecretBinary") put.secret_binary)
    (first_why (form_unless (is_secret_id put.secret_id) (codes "SecretId"))
    (first_why (form_of is_value (codes "SecretString") put.secret_string)
    (first_why (labels_form put.version_stages)
    (form_unless (has_one put.secret_string put.secret_binary) (codes "SecretString"))))))
