-- Pages whose members are in their forms.
use Rattle.std.proofs.Common.{◌≡◌, ℕ, ℤ, pos, negsuc, ◌≤◌, true, false, nat_le, List, [], ◌∷◌, ◌+◌, Ok, Option, Some, None, is_some, refl, ap, ◌∙◌, arith}
use Rattle.std.specs.Prelude.{length}
use Rattle.std.specs.List.{list_all}
use Rattle.std.proofs.lemmas.Bool.{and_parts, leb-true}
use Rattle.sm_base.specs.declared.moment.Moment.{Moment}
use Rattle.sm_model.specs.declared.request.Filter.{Filter}
use Rattle.sm_model.specs.declared.rows.Rows.{Rows}
use Rattle.sm_model.specs.declared.rows.SecretRow.{SecretRow}
use Rattle.sm_model.specs.Bounds.{fits}
use Rattle.sm_listing.specs.declared.asks.PageAsk.{PageAsk}
use Rattle.sm_listing.specs.declared.tokens.TheConstants.{SECRETS, VERSIONS}
use Rattle.sm_listing.specs.Filters.{is_filter, first_fault}
use Rattle.sm_listing.specs.PageTokens.{serial_of}
use Rattle.sm_listing.specs.Pages.{ordered, comes, start_at, start_of, secrets_page, versions_page}
use Rattle.sm_base.specs.declared.limits.TheConstants.{FILTERS_LIMIT}
use Rattle.sm_forms.specs.Paging.{is_count, are_filters, is_page_token}
use Rattle.sm_table.specs.Sound.{Sound}
use Rattle.sm_judge_lists_and_passwords.specs.declared.list_secret_version_ids.VersionsCall.{VersionsCall}
use Rattle.sm_judge_lists_and_passwords.specs.ListSecretVersionIds.{IsVersionsCall, versions_listed}
use Rattle.sm_judge_lists_and_passwords.specs.Pages.{page_size, filters_given, token_serial, IsPageAsk, row_serial, listed, page_rows, first_listed}
use Rattle.sm_judge_lists_and_passwords.proofs.PickedLemmas.{picked_first, distinct_ordered, sound_distinct}

-- ---- what is asked

filters_pass : (filters : Option (List Filter)) → fits are_filters filters ≡ true
    → list_all is_filter (filters_given filters) ≡ true
filters_pass None h = refl
filters_pass (Some filters) h = (and_parts (nat_le (length filters) FILTERS_LIMIT) (list_all is_filter filters) h).1

size_least : (most : ℕ) (max : Option ℤ) → 1 ≤ most → fits (is_count most) max ≡ true → 1 ≤ page_size most max
size_least most None some h = some
size_least most (Some (pos count)) some h =
    leb-true 1 count (and_parts (nat_le 1 count) (nat_le count most) h).0
size_least most (Some (negsuc n)) some h = some

size_most : (most : ℕ) (max : Option ℤ) → fits (is_count most) max ≡ true → page_size most max ≤ most
size_most most None h = omega arith
size_most most (Some (pos count)) h =
    leb-true count most (and_parts (nat_le 1 count) (nat_le count most) h).1
size_most most (Some (negsuc n)) h = omega arith

-- a page of members in their forms can be asked for
pub page_asked : (ask : PageAsk) (filters : Option (List Filter)) (most : ℕ) (max : Option ℤ) → 1 ≤ most → most ≤ 100
    → fits are_filters filters ≡ true → fits (is_count most) max ≡ true
    → fits (is_page_token SECRETS) ask.token ≡ true → ask.filters ≡ filters_given filters
    → ask.max ≡ page_size most max → IsPageAsk ask
page_asked ask filters most max some few filtered counted token same size =
    let least = size_least most max some counted in
    let most' = size_most most max counted in record {
      filters = ap (list_all is_filter) same ∙ filters_pass filters filtered;
      token = token;
      least = omega arith;
      most = omega arith;
    }

-- the same of a page of versions
pub versions_asked : (call : VersionsCall) (most : ℕ) (max : Option ℤ) → 1 ≤ most → most ≤ 100
    → fits (is_count most) max ≡ true → fits (is_page_token VERSIONS) call.token ≡ true
    → call.max ≡ page_size most max → IsVersionsCall call
versions_asked call most max some few counted token size =
    let least = size_least most max some counted in
    let most' = size_most most max counted in record {
      token = token;
      least = omega arith;
      most = omega arith;
    }

-- ---- the page that is listed

no_fault : (number : ℕ) (filters : List Filter) → list_all is_filter filters ≡ true
    → first_fault number filters ≡ None
no_fault number [] h = refl
no_fault number (filter ∷ filters) h =
    let parts = and_parts (is_filter filter) (list_all is_filter filters) h in
    rw (parts.0) (no_fault (number + 1) filters parts.1)

start_there : (serial : Option ℕ) → is_some serial ≡ true → start_at serial ≡ Ok serial
start_there None h = let f : false ≡ true = h in cc
start_there (Some serial) h = refl

starts : (letter : ℕ) (token : Option (List ℕ)) → fits (is_page_token letter) token ≡ true
    → start_of letter token ≡ Ok (token_serial letter token)
starts letter None h = refl
starts letter (Some token) h = start_there (serial_of letter token) h

pub page_is_listed : (rows : Rows) (moment : Moment) (ask : PageAsk) → IsPageAsk ask
    → secrets_page rows.secrets moment ask ≡ Ok (listed rows moment ask)
page_is_listed rows moment ask asks =
    rw (no_fault 1 ask.filters asks.filters) (rw (starts SECRETS ask.token asks.token) refl)

pub versions_are_listed : (row : SecretRow) (call : VersionsCall) → IsVersionsCall call
    → versions_page row call.deprecated call.max call.token ≡ Ok (versions_listed row call)
versions_are_listed row call asks = rw (starts VERSIONS call.token asks.token) refl

-- ---- of sound rows

-- the rows with the page's serials are the first of those that are listed behind its token
pub first_are_page_rows : (rows : Rows) (moment : Moment) (ask : PageAsk) → Sound rows
    → page_rows rows moment ask ≡ first_listed rows moment ask
first_are_page_rows rows moment ask sound =
    picked_first row_serial (comes moment ask (token_serial SECRETS ask.token)) ask.max
    (ordered ask.descending rows.secrets)
    (distinct_ordered row_serial ask.descending rows.secrets (sound_distinct rows sound))
