-- What it says of a ListSecrets that its forms pass.
use Rattle.std.proofs.Common.{◌≡◌, None}
use Rattle.std.specs.Prelude.{IsTrue}
use Rattle.sm_listing.specs.declared.tokens.TheConstants.{SECRETS}
use Rattle.sm_model.specs.declared.request.ListSecrets.{ListSecrets}
use Rattle.sm_model.specs.Bounds.{fits}
use Rattle.sm_base.specs.declared.limits.TheConstants.{PAGE_LIMIT}
use Rattle.sm_forms.specs.Paging.{is_count, are_filters, is_page_token}
use Rattle.sm_forms.specs.ListSecrets.{list_forms}
use Rattle.sm_forms.proofs.MemberLemmas.{none_first, passes}
use Rattle.sm_forms.proofs.PagingLemmas.{next_passes}

-- each of the members that ask for the page
parts : (list : ListSecrets) → list_forms list ≡ None
    → IsTrue (fits are_filters list.filters) × IsTrue (fits (is_count PAGE_LIMIT) list.max_results)
    × IsTrue (fits (is_page_token SECRETS) list.next_token)
parts list h =
    let filters = none_first _ _ h in
    let max = none_first _ _ filters.1 in
    let next = none_first _ _ max.1 in (
      passes (fits are_filters list.filters) _ filters.0,
      passes (fits (is_count PAGE_LIMIT) list.max_results) _ max.0,
      next_passes SECRETS list.next_token next.0,
    )

pub list_filters : (list : ListSecrets) → list_forms list ≡ None → IsTrue (fits are_filters list.filters)
list_filters list h = (parts list h).0

pub list_max : (list : ListSecrets) → list_forms list ≡ None → IsTrue (fits (is_count PAGE_LIMIT) list.max_results)
list_max list h = (parts list h).1

pub list_next : (list : ListSecrets) → list_forms list ≡ None → IsTrue (fits (is_page_token SECRETS) list.next_token)
list_next list h = (parts list h).2
