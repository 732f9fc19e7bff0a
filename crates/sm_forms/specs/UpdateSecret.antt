-- The forms of UpdateSecret: AWS Secrets Manager API Reference, UpdateSecret.
use Rattle.std.specs.Prelude.{not, Option, codes}
use Rattle.sm_model.specs.declared.request.UpdateSecret.{UpdateSecret}
use Rattle.sm_model.specs.declared.why.Why.{Why}
use Rattle.sm_model.specs.Bounds.{is_description}
use Rattle.sm_base.specs.Spelling.{is_token, is_secret_id}
use Rattle.sm_forms.specs.Members.{first_why, form_unless, form_of, is_value, has_both}

-- the members of the value and of the secret, and then that a text and bytes are not both given
abbrev pub update_value : UpdateSecret → Option Why
update_value update =
    first_why (form_of is_value (codes "SecretBinary") update.secret_binary)
    (first_why (form_unless (is_secret_id update.secret_id) (codes "SecretId"))
    (first_why (form_of is_value (codes "SecretString") update.secret_string)
    (form_unless (not (has_both update.secret_string update.secret_binary)) (codes "SecretString"))))

-- the members, in ascending byte order of their names, and then the joint test
abbrev pub update_forms : UpdateSecret → Option Why
update_forms update =
    first_why (form_of is_token (codes "ClientRequestToken") update.client_request_token)
    (first_why (form_of is_description (codes "Description") update.description)
    (first_why (form_of is_description (codes "KmsKeyId") update.kms_key_id)
    (update_value update)))
