-- The forms of ListSecretVersionIds: AWS Secrets Manager API Reference, ListSecretVersionIds.
use Rattle.std.specs.Prelude.{Option, codes}
use Rattle.sm_listing.specs.declared.tokens.TheConstants.{VERSIONS}
use Rattle.sm_model.specs.declared.request.ListSecretVersionIds.{ListSecretVersionIds}
use Rattle.sm_model.specs.declared.why.Why.{Why}
use Rattle.sm_base.specs.Spelling.{is_secret_id}
use Rattle.sm_base.specs.declared.limits.TheConstants.{PAGE_LIMIT}
use Rattle.sm_forms.specs.Members.{first_why, form_unless}
use Rattle.sm_forms.specs.Paging.{max_form, next_form}

-- the members, in ascending byte order of their names
abbrev pub list_versions_forms : ListSecretVersionIds → Option Why
list_versions_forms list =
    first_why (max_form PAGE_LIMIT list.max_results)
    (first_why (next_form VERSIONS list.next_token)
    (form_unless (is_secret_id list.secret_id) (codes "SecretId")))
