-- Pages of secrets and of versions: which serials, in which order, and what next.
-- AWS Secrets Manager API Reference, ListSecrets and ListSecretVersionIds.
use Rattle.std.specs.Prelude.{ℕ, ◌-◌, ◌^◌, Bool, true, false, ◌&&◌, ◌||◌, nat_lt, if◌then◌else◌, min, List, length, map, reverse, take, slice_index, Result, Ok, Err, Option, Some, None}
use Rattle.std.specs.List.{filter, list_all}
use Rattle.sm_base.specs.declared.moment.Moment.{Moment}
use Rattle.sm_model.specs.declared.rows.SecretRow.{SecretRow}
use Rattle.sm_model.specs.declared.rows.VersionRow.{VersionRow}
use Rattle.sm_model.specs.declared.rows.Pair.{Pair}
use Rattle.sm_model.specs.Labels.{is_labelled}
use Rattle.sm_listing.specs.declared.asks.PageAsk.{PageAsk}
use Rattle.sm_listing.specs.declared.asks.Listed.{Listed}
use Rattle.sm_listing.specs.declared.asks.PageRefused.{PageRefused}
use Rattle.sm_listing.specs.declared.asks.PageRefused.TheVariants.{BadFilter, BadToken, Memory}
use Rattle.sm_listing.specs.declared.tokens.TheConstants.{SECRETS, VERSIONS}
use Rattle.sm_listing.specs.Filters.{first_fault, filter_holds}
use Rattle.sm_listing.specs.PageTokens.{spelled, serial_of}

-- ---- what is listed

-- the items in order of creation, or the reverse
abbrev pub ordered : {A : Type 0} → Bool → List A → List A
ordered descending items = if descending then reverse items else items

-- the serial comes behind the start: it is greater, or smaller in descending order
abbrev pub is_behind : Bool → Option ℕ → ℕ → Bool
is_behind descending None serial = true
is_behind descending (Some start) serial = if descending then nat_lt serial start else nat_lt start serial

-- a row without a deletion date is there; one that is scheduled is there until its date, where those are asked for
abbrev pub is_there : Bool → Moment → Option Moment → Bool
is_there planned moment None = true
is_there planned moment (Some date) = planned && nat_lt moment.0 date.0

-- a row is listed where it is there and every filter holds of it
abbrev pub is_listed : Moment → PageAsk → SecretRow → Bool
is_listed moment ask row = is_there ask.planned moment row.deletion && list_all (filter_holds row) ask.filters

-- a row that is listed, behind the start
abbrev pub comes : Moment → PageAsk → Option ℕ → SecretRow → Bool
comes moment ask start row = is_listed moment ask row && is_behind ask.descending start row.serial

-- the serials of the listed rows behind a start, in the order asked for
abbrev pub row_serials : List SecretRow → Moment → PageAsk → Option ℕ → List ℕ
row_serials rows moment ask start =
    map (λ (row : SecretRow). row.serial) (filter (comes moment ask start) (ordered ask.descending rows))

-- a version behind the start; without a label only where those are asked for
abbrev pub version_comes : List Pair → Bool → Option ℕ → VersionRow → Bool
version_comes labels deprecated start version =
    (deprecated || is_labelled labels version.id) && is_behind false start version.serial

-- the serials of the listed versions behind a start, in order of creation
abbrev pub version_serials : SecretRow → Bool → Option ℕ → List ℕ
version_serials row deprecated start =
    map (λ (version : VersionRow). version.serial) (filter (version_comes row.labels deprecated start) row.versions)

-- ---- pages

-- the first of the serials, and the token of the last that is shown where a further one follows
abbrev pub page_of : ℕ → ℕ → List ℕ → Listed
page_of letter max serials = record {
  serials = take max serials;
  next = if nat_lt max (length serials) then Some (spelled letter (slice_index serials (max - 1))) else None;
}

-- where a page begins: behind the serial that its token spells, or at the first item where it has none
abbrev pub start_at : Option ℕ → Result (Option ℕ) PageRefused
start_at None = Err BadToken
start_at (Some serial) = Ok (Some serial)

abbrev pub start_of : ℕ → Option (List ℕ) → Result (Option ℕ) PageRefused
start_of letter None = Ok None
start_of letter (Some token) = start_at (serial_of letter token)

-- the page of a start, unless there is none
abbrev pub page_at : Result (Option ℕ) PageRefused → (Option ℕ → Listed) → Result Listed PageRefused
page_at (Err refused) page = Err refused
page_at (Ok start) page = Ok (page start)

-- a fault of the filters, which is told by a number of 32 bits, comes first
abbrev pub unless_fault : Option ℕ → Result Listed PageRefused → Result Listed PageRefused
unless_fault None page = page
unless_fault (Some number) page = Err (BadFilter (min number (2 ^ 32 - 1)))

-- A page of secrets.
abbrev pub secrets_page : List SecretRow → Moment → PageAsk → Result Listed PageRefused
secrets_page rows moment ask =
    unless_fault (first_fault 1 ask.filters)
    (page_at (start_of SECRETS ask.token) (λ start. page_of SECRETS ask.max (row_serials rows moment ask start)))

-- A page of the versions of a secret.
abbrev pub versions_page : SecretRow → Bool → ℕ → Option (List ℕ) → Result Listed PageRefused
versions_page row deprecated max token =
    page_at (start_of VERSIONS token) (λ start. page_of VERSIONS max (version_serials row deprecated start))

-- None where memory ran out
abbrev pub told : Result Listed PageRefused → Option (Result Listed PageRefused)
told (Ok listed) = Some (Ok listed)
told (Err (BadFilter number)) = Some (Err (BadFilter number))
told (Err BadToken) = Some (Err BadToken)
told (Err Memory) = None
