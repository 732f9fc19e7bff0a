-- The forms of TagResource: AWS Secrets Manager API Reference, TagResource.
use Rattle.std.specs.Prelude.{Option, codes}
use Rattle.sm_model.specs.declared.request.TagResource.{TagResource}
use Rattle.sm_model.specs.declared.why.Why.{Why}
use Rattle.sm_base.specs.Spelling.{is_secret_id}
use Rattle.sm_forms.specs.Members.{first_why, form_unless, are_tags}

-- the members, in ascending byte order of their names
abbrev pub tag_forms : TagResource → Option Why
tag_forms tag =
    first_why (form_unless (is_secret_id tag.secret_id) (codes "SecretId"))
    (form_unless (are_tags tag.tags) (codes "Tags"))
