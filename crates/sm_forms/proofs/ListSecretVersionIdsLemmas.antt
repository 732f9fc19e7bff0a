-- What it says of a ListSecretVersionIds that its forms pass.
use Rattle.std.proofs.Common.{◌≡◌, None}
use Rattle.std.specs.Prelude.{IsTrue}
use Rattle.sm_listing.specs.declared.tokens.TheConstants.{VERSIONS}
use Rattle.sm_model.specs.declared.request.ListSecretVersionIds.{ListSecretVersionIds}
use Rattle.sm_model.specs.Bounds.{fits}
use Rattle.sm_base.specs.Spelling.{is_secret_id}
use Rattle.sm_base.specs.declared.limits.TheConstants.{PAGE_LIMIT}
use Rattle.sm_forms.specs.Paging.{is_count, is_page_token}
use Rattle.sm_forms.specs.ListSecretVersionIds.{list_versions_forms}
use Rattle.sm_forms.proofs.MemberLemmas.{none_first, passes}
use Rattle.sm_forms.proofs.PagingLemmas.{next_passes}

-- each of the members
parts : (list : ListSecretVersionIds) → list_versions_forms list ≡ None
    → IsTrue (fits (is_count PAGE_LIMIT) list.max_results) × IsTrue (fits (is_page_token VERSIONS) list.next_token)
    × IsTrue (is_secret_id list.secret_id)
parts list h =
    let max = none_first _ _ h in
    let next = none_first _ _ max.1 in (
      passes (fits (is_count PAGE_LIMIT) list.max_results) _ max.0,
      next_passes VERSIONS list.next_token next.0,
      passes (is_secret_id list.secret_id) _ next.1,
    )

pub versions_max : (list : ListSecretVersionIds) → list_versions_forms list ≡ None
    → IsTrue (fits (is_count PAGE_LIMIT) list.max_results)
versions_max list h = (parts list h).0

pub versions_next : (list : ListSecretVersionIds) → list_versions_forms list ≡ None
    → IsTrue (fits (is_page_token VERSIONS) list.next_token)
versions_next list h = (parts list h).1

pub versions_id : (list : ListSecretVersionIds) → list_versions_forms list ≡ None → IsTrue (is_secret_id list.secret_id)
versions_id list h = (parts list h).2
