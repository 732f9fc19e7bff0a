-- The forms of BatchGetSecretValue: AWS Secrets Manager API Reference, BatchGetSecretValue.
use Rattle.std.specs.Prelude.{ℕ, Bool, not, ◌&&◌, ◌||◌, nat_le, List, length, Option, is_some, codes}
use Rattle.sm_listing.specs.declared.tokens.TheConstants.{SECRETS}
use Rattle.sm_model.specs.declared.request.BatchGetSecretValue.{BatchGetSecretValue}
use Rattle.sm_model.specs.declared.request.Filter.{Filter}
use Rattle.sm_model.specs.declared.why.Why.{Why}
use Rattle.sm_model.specs.Bounds.{fits}
use Rattle.sm_base.specs.declared.limits.TheConstants.{BATCH_LIMIT}
use Rattle.sm_forms.specs.Members.{first_why, form_unless}
use Rattle.sm_forms.specs.Paging.{filters_form, max_form, next_form}

-- 1 to 20 SecretIds; whether each is in its form is asked of each by itself
abbrev pub are_ids : List (List ℕ) → Bool
are_ids ids = nat_le 1 (length ids) && nat_le (length ids) BATCH_LIMIT

-- SecretIds or filters are given, and not both
abbrev pub has_ids_or_filters : Option (List (List ℕ)) → Option (List Filter) → Bool
has_ids_or_filters ids filters = (is_some ids || is_some filters) && not (is_some ids && is_some filters)

-- a page is asked of filters alone
abbrev pub has_page_of_ids : BatchGetSecretValue → Bool
has_page_of_ids batch = is_some batch.secret_id_list && (is_some batch.max_results || is_some batch.next_token)

-- the two joint tests
abbrev pub batch_joint : BatchGetSecretValue → Option Why
batch_joint batch =
    first_why (form_unless (has_ids_or_filters batch.secret_id_list batch.filters) (codes "SecretIdList"))
    (form_unless (not (has_page_of_ids batch)) (codes "MaxResults"))

-- the members, in ascending byte order of their names, and then the joint tests
abbrev pub batch_forms : BatchGetSecretValue → Option Why
batch_forms batch =
    first_why (filters_form batch.filters)
    (first_why (max_form BATCH_LIMIT batch.max_results)
    (first_why (next_form SECRETS batch.next_token)
    (first_why (form_unless (fits are_ids batch.secret_id_list) (codes "SecretIdList"))
    (batch_joint batch))))
