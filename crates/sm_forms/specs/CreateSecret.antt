-- The forms of CreateSecret: AWS Secrets Manager API Reference, CreateSecret.
use Rattle.std.specs.Prelude.{not, Option, codes}
use Rattle.sm_model.specs.declared.request.CreateSecret.{CreateSecret}
use Rattle.sm_model.specs.declared.why.Why.{Why}
use Rattle.sm_model.specs.Bounds.{is_description}
use Rattle.sm_base.specs.Spelling.{is_name, is_token}
use Rattle.sm_versions.specs.Regions.{are_regions}
use Rattle.sm_forms.specs.Members.{first_why, form_unless, form_of, is_value, has_both, tags_form}

-- the members of the value and the tags, and then that a text and bytes are not both given
abbrev pub create_value : CreateSecret → Option Why
create_value create =
    first_why (form_of is_value (codes "SecretBinary") create.secret_binary)
    (first_why (form_of is_value (codes "SecretString") create.secret_string)
    (first_why (tags_form create.tags)
    (form_unless (not (has_both create.secret_string create.secret_binary)) (codes "SecretString"))))

-- the token, the descriptions and the name, and then those members
abbrev pub create_texts : CreateSecret → Option Why
create_texts create =
    first_why (form_of is_token (codes "ClientRequestToken") create.client_request_token)
    (first_why (form_of is_description (codes "Description") create.description)
    (first_why (form_of is_description (codes "KmsKeyId") create.kms_key_id)
    (first_why (form_unless (is_name create.name) (codes "Name"))
    (create_value create))))

-- the members, in ascending byte order of their names, and then the joint test
abbrev pub create_forms : CreateSecret → Option Why
create_forms create =
    first_why (form_unless (are_regions create.regions) (codes "AddReplicaRegions")) (create_texts create)
