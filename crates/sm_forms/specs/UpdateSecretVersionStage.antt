-- The forms of UpdateSecretVersionStage: AWS Secrets Manager API Reference, UpdateSecretVersionStage.
use Rattle.std.specs.Prelude.{◌||◌, Option, is_some, codes}
use Rattle.sm_model.specs.declared.request.UpdateSecretVersionStage.{UpdateSecretVersionStage}
use Rattle.sm_model.specs.declared.why.Why.{Why}
use Rattle.sm_base.specs.Spelling.{is_token, is_label, is_secret_id}
use Rattle.sm_forms.specs.Members.{first_why, form_unless, form_of}

-- the form of the label, and then that a target or a source is there
abbrev pub label_and_version : UpdateSecretVersionStage → Option Why
label_and_version update =
    first_why (form_unless (is_label update.version_stage) (codes "VersionStage"))
    (form_unless (is_some update.move_to_version_id || is_some update.remove_from_version_id) (codes "MoveToVersionId"))

-- the members, in ascending byte order of their names, and then the joint test
abbrev pub move_forms : UpdateSecretVersionStage → Option Why
move_forms update =
    first_why (form_of is_token (codes "MoveToVersionId") update.move_to_version_id)
    (first_why (form_of is_token (codes "RemoveFromVersionId") update.remove_from_version_id)
    (first_why (form_unless (is_secret_id update.secret_id) (codes "SecretId"))
    (label_and_version update)))
