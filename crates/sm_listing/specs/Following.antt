-- Pages that follow one another by their tokens.
-- AWS Secrets Manager API Reference, ListSecrets and ListSecretVersionIds (NextToken).
use Rattle.std.specs.Prelude.{◌≡◌, ℕ, ◌<◌, ◌^◌, IsTrue, List, [], ◌∷◌, ◌++◌, Option, None, is_some, Result, Ok}
use Rattle.sm_listing.specs.declared.asks.Listed.{Listed}
use Rattle.sm_listing.specs.declared.asks.PageRefused.{PageRefused}

-- the pages from a token on: each has the token of the next, and the last has none
abbrev pub Follow : (Option (List ℕ) → Result Listed PageRefused) → Option (List ℕ) → List Listed → Type 0
Follow page token [] = ⊥
Follow page token (listed ∷ []) = (page token ≡ Ok listed) × (listed.next ≡ None)
Follow page token (listed ∷ pages) = (page token ≡ Ok listed) × IsTrue (is_some listed.next)
    × Follow page listed.next pages

-- the serials that pages show, one page after the other
abbrev pub all_shown : List Listed → List ℕ
all_shown [] = []
all_shown (listed ∷ pages) = listed.serials ++ all_shown pages

-- each is above the first
abbrev pub EachAbove : ℕ → List ℕ → Type 0
EachAbove first [] = Unit {0}
EachAbove first (serial ∷ serials) = (first < serial) × EachAbove first serials

-- serials that rise
abbrev pub Rise : List ℕ → Type 0
Rise [] = Unit {0}
Rise (serial ∷ serials) = EachAbove serial serials × Rise serials

-- numbers that a serial can be
abbrev pub AreSerials : List ℕ → Type 0
AreSerials [] = Unit {0}
AreSerials (serial ∷ serials) = (serial < 2 ^ 64) × AreSerials serials
