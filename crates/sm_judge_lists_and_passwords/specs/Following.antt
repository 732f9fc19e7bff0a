-- What following the tokens of pages shows of sound rows.
-- AWS Secrets Manager API Reference, ListSecrets and ListSecretVersionIds (NextToken).
use Rattle.std.specs.Prelude.{◌≡◌, ℕ, ◌<◌, ◌≤◌, ◌^◌, Bool, ◌||◌, List, map, Option, None, Result}
use Rattle.std.specs.List.{filter}
use Rattle.sm_base.specs.declared.moment.Moment.{Moment}
use Rattle.sm_model.specs.declared.rows.Rows.{Rows}
use Rattle.sm_model.specs.declared.rows.SecretRow.{SecretRow}
use Rattle.sm_model.specs.declared.rows.VersionRow.{VersionRow}
use Rattle.sm_model.specs.Labels.{is_labelled}
use Rattle.sm_versions.specs.Sound.{RowSound}
use Rattle.sm_table.specs.Sound.{Sound}
use Rattle.sm_listing.specs.declared.asks.Listed.{Listed}
use Rattle.sm_listing.specs.declared.asks.PageAsk.{PageAsk}
use Rattle.sm_listing.specs.declared.asks.PageRefused.{PageRefused}
use Rattle.sm_listing.specs.Filters.{first_fault}
use Rattle.sm_listing.specs.Following.{Follow, all_shown}
use Rattle.sm_listing.specs.Pages.{is_listed, ordered, secrets_page, versions_page}

-- ---- secrets

-- the serials of all secrets that are listed, in the order that is asked for
abbrev pub serials_listed : Rows → Moment → PageAsk → List ℕ
serials_listed rows moment ask =
    map (λ (row : SecretRow). row.serial) (filter (is_listed moment ask) (ordered ask.descending rows.secrets))

-- the page of a token
abbrev pub page_by : Rows → Moment → PageAsk → Option (List ℕ) → Result Listed PageRefused
page_by rows moment ask token = secrets_page rows.secrets moment (record ask { token = token })

-- The pages from the first to the last show each secret that is listed, once and in order.
abbrev pub SecretsFollow : Type 0
SecretsFollow =
    (rows : Rows) → (moment : Moment) → (ask : PageAsk) → Sound rows → rows.next < 2 ^ 64 → 1 ≤ ask.max
    → (pages : List Listed) → Follow (page_by rows moment ask) None pages
    → all_shown pages ≡ serials_listed rows moment ask

-- There is a last page, where the filters are in their forms.
abbrev pub SecretsEnd : Type 0
SecretsEnd =
    (rows : Rows) → (moment : Moment) → (ask : PageAsk) → Sound rows → rows.next < 2 ^ 64 → 1 ≤ ask.max
    → first_fault 1 ask.filters ≡ None → (pages : List Listed) × Follow (page_by rows moment ask) None pages

-- ---- versions of a secret

-- the serials of all versions that are listed: of those without a label only where they are asked for
abbrev pub versions_listed : SecretRow → Bool → List ℕ
versions_listed row deprecated =
    map (λ (version : VersionRow). version.serial)
    (filter (λ (version : VersionRow). deprecated || is_labelled row.labels version.id) row.versions)

-- The pages from the first to the last show each version that is listed, once and in order of creation.
abbrev pub VersionsFollow : Type 0
VersionsFollow =
    (row : SecretRow) → (deprecated : Bool) → (max : ℕ) → RowSound row → row.next_version < 2 ^ 64 → 1 ≤ max
    → (pages : List Listed) → Follow (versions_page row deprecated max) None pages
    → all_shown pages ≡ versions_listed row deprecated

-- There is a last page.
abbrev pub VersionsEnd : Type 0
VersionsEnd =
    (row : SecretRow) → (deprecated : Bool) → (max : ℕ) → RowSound row → row.next_version < 2 ^ 64 → 1 ≤ max
    → (pages : List Listed) × Follow (versions_page row deprecated max) None pages
