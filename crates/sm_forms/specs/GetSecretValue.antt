-- The forms of GetSecretValue: AWS Secrets Manager API Reference, GetSecretValue.
use Rattle.std.specs.Prelude.{Option, codes}
use Rattle.sm_model.specs.declared.request.GetSecretValue.{GetSecretValue}
use Rattle.sm_model.specs.declared.why.Why.{Why}
use Rattle.sm_base.specs.Spelling.{is_token, is_label, is_secret_id}
use Rattle.sm_forms.specs.Members.{first_why, form_unless, form_of}

-- the members, in ascending byte order of their names
abbrev pub get_forms : GetSecretValue → Option Why
get_forms get =
    first_why (form_unless (is_secret_id get.secret_id) (codes "SecretId"))
    (first_why (form_of is_token (codes "VersionId") get.version_id)
    (form_of is_label (codes "VersionStage") get.version_stage))
