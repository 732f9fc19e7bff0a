-- The forms of ListSecrets: AWS Secrets Manager API Reference, ListSecrets.
use Rattle.std.specs.Prelude.{ℕ, Bool, ◌||◌, List, Option, codes}
use Rattle.sm_listing.specs.declared.tokens.TheConstants.{SECRETS}
use Rattle.sm_model.specs.declared.request.ListSecrets.{ListSecrets}
use Rattle.sm_model.specs.declared.why.Why.{Why}
use Rattle.sm_base.specs.Texts.{same_text}
use Rattle.sm_base.specs.declared.limits.TheConstants.{PAGE_LIMIT}
use Rattle.sm_forms.specs.Members.{first_why, form_of}
use Rattle.sm_forms.specs.Paging.{filters_form, max_form, next_form}

-- the order of creation, or the reverse
abbrev pub is_order : List ℕ → Bool
is_order order = same_text order (codes "asc") || same_text order (codes "desc")

-- the members, in ascending byte order of their names
abbrev pub list_forms : ListSecrets → Option Why
list_forms list =
    first_why (filters_form list.filters)
    (first_why (max_form PAGE_LIMIT list.max_results)
    (first_why (next_form SECRETS list.next_token)
    (form_of is_order (codes "SortOrder") list.sort_order)))
