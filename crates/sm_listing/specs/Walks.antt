-- What a walk that stops at the page's end has found.
use Rattle.std.specs.Prelude.{◌≡◌, ℕ, ◌-◌, ◌<◌, Bool, nat_lt, if◌then◌else◌, List, length, take, decimal, Option, None, MatchOption, option_map, slice_get, ◌^◌}
use Rattle.sm_listing.specs.declared.asks.Listed.{Listed}
use Rattle.sm_listing.specs.PageTokens.{spelled}

-- the first of the serials, and whether a further one follows
pub record IsPage (max : ℕ) (serials : List ℕ) (shown : List ℕ) (follows : Bool) : Type 0 where
  pub first : shown ≡ take max serials
  pub further : follows ≡ nat_lt max (length serials)

-- the page of what is shown
abbrev pub page_shown : ℕ → List ℕ → Bool → Listed
page_shown letter shown follows = record {
  serials = shown;
  next = if follows then option_map (spelled letter) (slice_get shown (length shown - 1)) else None;
}

-- the number whose decimal digits without leading zeros these are
abbrev pub IsNumber : List ℕ → Option ℕ → Type 0
IsNumber digits result = MatchOption result ((n : ℕ) → n < 2 ^ 64 → digits ≡ decimal n →
    ⊥) (λ n. (n < 2 ^ 64) × (digits ≡ decimal n))
