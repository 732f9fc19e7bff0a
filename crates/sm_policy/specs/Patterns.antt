-- When a pattern matches a text.
-- IAM User Guide, "IAM JSON policy elements: Resource" (wildcards in resource ARNs) and "IAM JSON policy elements:
-- Condition operators" (StringLike): `*` stands for any characters or none, `?` for any one character.
use Rattle.std.specs.Prelude.{◌≡◌, ◌≢◌, ◌⊎◌, ℕ, Bool, true, false, ◌&&◌, ◌||◌, ◌==◌, if◌then◌else◌, List, [], ◌∷◌, ◌++◌, map, chars}
use Rattle.std.specs.Char.{to_ascii_lowercase}
use Rattle.sm_policy.specs.declared.pattern.Case.{Case}
use Rattle.sm_policy.specs.declared.pattern.Case.TheVariants.{Exact, Folded}

-- a `*` and what follows it match a text that ends in what the rest matches
abbrev pub ManyMatch : ℕ → (List ℕ → Type 0) → List ℕ → Type 0
ManyMatch p Rest text = (p ≡ 42) × ((front : List ℕ) × ((back : List ℕ) × ((text ≡ front ++ back) × Rest back)))

-- a `?` and what follows it match one character and what the rest matches
abbrev pub OneMatches : ℕ → (List ℕ → Type 0) → List ℕ → Type 0
OneMatches p Rest text = (p ≡ 63) × ((c : ℕ) × ((back : List ℕ) × ((text ≡ c ∷ back) × Rest back)))

-- any other character and what follows it match itself and what the rest matches
abbrev pub SameMatches : ℕ → (List ℕ → Type 0) → List ℕ → Type 0
SameMatches p Rest text = (p ≢ 42) × ((p ≢ 63) × ((back : List ℕ) × ((text ≡ p ∷ back) × Rest back)))

-- the pattern matches the text; the empty one matches the empty text
abbrev pub Wild : List ℕ → List ℕ → Type 0
Wild [] text = text ≡ []
Wild (p ∷ rest) text = ManyMatch p (Wild rest) text ⊎ (OneMatches p (Wild rest) text ⊎ SameMatches p (Wild rest) text)

-- some end of the text, the whole and the empty one among them, passes
abbrev pub some_end : (List ℕ → Bool) → List ℕ → Bool
some_end test [] = test []
some_end test (c ∷ rest) = test (c ∷ rest) || some_end test rest

-- the first character is this one, or any for `?`, and the rest passes
abbrev pub first_then : ℕ → (List ℕ → Bool) → List ℕ → Bool
first_then p test [] = false
first_then p test (c ∷ rest) = (p == 63 || p == c) && test rest

abbrev pub is_empty : List ℕ → Bool
is_empty [] = true
is_empty (c ∷ rest) = false

-- the same as a test
unfoldable pub wild : List ℕ → List ℕ → Bool
wild [] text = is_empty text
wild (p ∷ rest) text = if p == 42 then some_end (wild rest) text else first_then p (wild rest) text

-- a character as it is compared
abbrev pub letter : Case → ℕ → ℕ
letter Exact c = c
letter Folded c = to_ascii_lowercase c

-- the characters of a text as they are compared
abbrev pub letters : Case → List ℕ → List ℕ
letters case text = map (letter case) (chars text)
