-- Pages of secrets and of versions as they are shown.
-- AWS Secrets Manager API Reference, ListSecrets, ListSecretVersionIds and BatchGetSecretValue (MaxResults, NextToken,
-- Filters).
use Rattle.std.specs.Prelude.{ℕ, ℤ, pos, negsuc, ◌≤◌, ◌==◌, if◌then◌else◌, List, [], ◌∷◌, take, Option, Some, None, IsTrue}
use Rattle.std.specs.List.{filter, list_all}
use Rattle.sm_base.specs.declared.moment.Moment.{Moment}
use Rattle.sm_model.specs.declared.request.Filter.{Filter}
use Rattle.sm_model.specs.declared.rows.Rows.{Rows}
use Rattle.sm_model.specs.declared.rows.SecretRow.{SecretRow}
use Rattle.sm_model.specs.Bounds.{fits}
use Rattle.sm_listing.specs.declared.asks.Listed.{Listed}
use Rattle.sm_listing.specs.declared.asks.PageAsk.{PageAsk}
use Rattle.sm_listing.specs.declared.tokens.TheConstants.{SECRETS}
use Rattle.sm_listing.specs.Filters.{is_filter}
use Rattle.sm_listing.specs.PageTokens.{serial_of}
use Rattle.sm_listing.specs.Pages.{ordered, comes, row_serials, page_of}
use Rattle.sm_forms.specs.Paging.{is_page_token}

-- ---- what is asked

-- how many items a page has at most: as many as are asked for, or as may be asked for
abbrev pub page_size : ℕ → Option ℤ → ℕ
page_size most None = most
page_size most (Some (pos count)) = count
page_size most (Some (negsuc n)) = most

abbrev pub filters_given : Option (List Filter) → List Filter
filters_given None = []
filters_given (Some filters) = filters

-- the serial behind which a page begins, where it has a token
abbrev pub token_serial : ℕ → Option (List ℕ) → Option ℕ
token_serial letter None = None
token_serial letter (Some token) = serial_of letter token

-- a page of a size that may be asked for, with filters and a token in their forms
pub record IsPageAsk (ask : PageAsk) : Type 0 where
  pub filters : IsTrue (list_all is_filter ask.filters)
  pub token : IsTrue (fits (is_page_token SECRETS) ask.token)
  pub least : 1 ≤ ask.max
  pub most : ask.max ≤ 100

-- ---- what is shown

-- the items with these serials, each behind the one before
abbrev pub picked : {A : Type 0} → (A → ℕ) → List ℕ → List A → List A
picked serial_of_item [] items = []
picked serial_of_item (serial ∷ serials) [] = []
picked serial_of_item (serial ∷ serials) (item ∷ items) =
    if serial_of_item item == serial then item ∷ picked serial_of_item serials items
    else picked serial_of_item (serial ∷ serials) items

abbrev pub row_serial : SecretRow → ℕ
row_serial row = row.serial

-- the serials of a page of secrets, and the token of the next
abbrev pub listed : Rows → Moment → PageAsk → Listed
listed rows moment ask =
    page_of SECRETS ask.max (row_serials rows.secrets moment ask (token_serial SECRETS ask.token))

-- the rows with the page's serials, in its order
abbrev pub page_rows : Rows → Moment → PageAsk → List SecretRow
page_rows rows moment ask =
    picked row_serial (listed rows moment ask).serials (ordered ask.descending rows.secrets)

-- the same of sound rows: the first of those that are there and pass the filters, behind the token, in the order asked
-- for
abbrev pub first_listed : Rows → Moment → PageAsk → List SecretRow
first_listed rows moment ask =
    take ask.max
    (filter (comes moment ask (token_serial SECRETS ask.token)) (ordered ask.descending rows.secrets))
