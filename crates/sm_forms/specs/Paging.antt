-- The forms of the members that ask for a page: AWS Secrets Manager API Reference, ListSecrets, ListSecretVersionIds
-- and BatchGetSecretValue (Filters, MaxResults, NextToken).
use Rattle.std.specs.Prelude.{ℕ, ℤ, pos, negsuc, Bool, false, ◌&&◌, if◌then◌else◌, nat_le, List, length, Option, Some, None, is_some, codes}
use Rattle.std.specs.List.{list_all}
use Rattle.sm_model.specs.declared.request.Filter.{Filter}
use Rattle.sm_model.specs.declared.why.Why.{Why}
use Rattle.sm_model.specs.declared.why.Why.TheVariants.{BadToken}
use Rattle.sm_model.specs.Bounds.{fits}
use Rattle.sm_listing.specs.Filters.{is_filter}
use Rattle.sm_listing.specs.PageTokens.{serial_of}
use Rattle.sm_base.specs.declared.limits.TheConstants.{FILTERS_LIMIT}
use Rattle.sm_forms.specs.Members.{form_unless}

-- a number from 1 to the most that may be asked for
abbrev pub is_count : ℕ → ℤ → Bool
is_count most (pos count) = nat_le 1 count && nat_le count most
is_count most (negsuc n) = false

abbrev pub max_form : ℕ → Option ℤ → Option Why
max_form most max = form_unless (fits (is_count most) max) (codes "MaxResults")

-- at most ten filters, each in its form
abbrev pub are_filters : List Filter → Bool
are_filters filters = nat_le (length filters) FILTERS_LIMIT && list_all is_filter filters

abbrev pub filters_form : Option (List Filter) → Option Why
filters_form filters = form_unless (fits are_filters filters) (codes "Filters")

-- the letter of what is listed, and a serial
abbrev pub is_page_token : ℕ → List ℕ → Bool
is_page_token letter token = is_some (serial_of letter token)

-- a NextToken of another spelling is no form of a member: it has a refusal of its own
abbrev pub next_form : ℕ → Option (List ℕ) → Option Why
next_form letter token = if fits (is_page_token letter) token then None else Some BadToken
