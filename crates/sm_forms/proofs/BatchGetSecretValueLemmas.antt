-- What it says of a BatchGetSecretValue that its forms pass.
use Rattle.std.proofs.Common.{◌≡◌, None}
use Rattle.std.specs.Prelude.{IsTrue}
use Rattle.sm_listing.specs.declared.tokens.TheConstants.{SECRETS}
use Rattle.sm_model.specs.declared.request.BatchGetSecretValue.{BatchGetSecretValue}
use Rattle.sm_model.specs.Bounds.{fits}
use Rattle.sm_base.specs.declared.limits.TheConstants.{BATCH_LIMIT}
use Rattle.sm_forms.specs.Paging.{is_count, are_filters, is_page_token}
use Rattle.sm_forms.specs.BatchGetSecretValue.{batch_forms}
use Rattle.sm_forms.proofs.MemberLemmas.{none_first, passes}
use Rattle.sm_forms.proofs.PagingLemmas.{next_passes}

-- each of the members that ask for the page
parts : (batch : BatchGetSecretValue) → batch_forms batch ≡ None
    → IsTrue (fits are_filters batch.filters) × IsTrue (fits (is_count BATCH_LIMIT) batch.max_results)
    × IsTrue (fits (is_page_token SECRETS) batch.next_token)
parts batch h =
    let filters = none_first _ _ h in
    let max = none_first _ _ filters.1 in
    let next = none_first _ _ max.1 in (
      passes (fits are_filters batch.filters) _ filters.0,
      passes (fits (is_count BATCH_LIMIT) batch.max_results) _ max.0,
      next_passes SECRETS batch.next_token next.0,
    )

pub batch_filters : (batch : BatchGetSecretValue) → batch_forms batch ≡ None → IsTrue (fits are_filters batch.filters)
batch_filters batch h = (parts batch h).0

pub batch_max : (batch : BatchGetSecretValue) → batch_forms batch ≡ None
    → IsTrue (fits (is_count BATCH_LIMIT) batch.max_results)
batch_max batch h = (parts batch h).1

pub batch_next : (batch : BatchGetSecretValue) → batch_forms batch ≡ None
    → IsTrue (fits (is_page_token SECRETS) batch.next_token)
batch_next batch h = (parts batch h).2
