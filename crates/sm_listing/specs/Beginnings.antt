-- How texts begin: where they part, and what that tells of a text and one value when another is looked for.
use Rattle.std.specs.Prelude.{◌≡◌, ℕ, zero, suc, ◌+◌, ◌<◌, ◌≤◌, ◌==◌, nat_eq, nat_le, Bool, not, ◌&&◌, ◌||◌, if◌then◌else◌, List, [], ◌∷◌, ◌++◌, length, map, slice_index_or}
use Rattle.std.specs.List.{starts_with}
use Rattle.sm_model.specs.declared.request.Filter.{Filter}
use Rattle.sm_model.specs.declared.value.Tag.{Tag}
use Rattle.sm_listing.specs.declared.beginnings.Parted.{Parted}
use Rattle.sm_listing.specs.declared.beginnings.Sought.{Sought}
use Rattle.sm_listing.specs.declared.beginnings.TagPart.{TagPart}
use Rattle.sm_listing.specs.declared.beginnings.TagPart.TheVariants.{Key, Value}
use Rattle.sm_listing.specs.declared.beginnings.TheConstants.{MOST_VALUES}
use Rattle.sm_listing.specs.Filters.{some_begins}

-- with how many equal bytes two texts begin
abbrev pub alike : List ℕ → List ℕ → ℕ
alike [] others = 0
alike (byte ∷ bytes) [] = 0
alike (byte ∷ bytes) (other ∷ others) = if byte == other then alike bytes others + 1 else 0

-- the beginning that a value of a filter names: the value, or what stands behind its `!`
abbrev pub beginning_of : List ℕ → List ℕ
beginning_of [] = []
beginning_of (first ∷ rest) = if first == 33 then rest else first ∷ rest

-- the text of a tag that is looked at
abbrev pub text_of : TagPart → Tag → List ℕ
text_of Key tag = tag.key
text_of Value tag = tag.value

-- the values of filters, one filter after the other
abbrev pub values_of : List Filter → List (List ℕ)
values_of [] = []
values_of (filter ∷ filters) = filter.values ++ values_of filters

-- the byte at a place, counted from 1, or 0 behind the end
abbrev pub next_of : List ℕ → ℕ → ℕ
next_of [] place = 0
next_of (byte ∷ bytes) zero = byte + 1
next_of (byte ∷ bytes) (suc place) = next_of bytes place

-- how another text parts from one: with how many equal bytes both begin, and how the other goes on there
abbrev pub parting : List ℕ → List ℕ → Parted
parting one other = record { bytes = alike one other; next = next_of other (alike one other) }

-- how the beginnings that values name part from one
abbrev pub partings_with : List ℕ → List (List ℕ) → List Parted
partings_with beginning values = map (λ value. parting beginning (beginning_of value)) values

-- the same for each of some values
abbrev pub partings_among : List (List ℕ) → List (List ℕ) → List (List Parted)
partings_among ones values = map (λ one. partings_with (beginning_of one) values) ones

-- what is kept beside the values, of which there are some and not too many, is how any two of them part
abbrev pub IsSought : Sought → Type 0
IsSought sought =
    (sought.among ≡ partings_among sought.values sought.values)
    × (0 < length sought.values) × (length sought.values ≤ MOST_VALUES)

-- the values of these filters, and how any two of them part
abbrev pub IsSoughtOf : List Filter → Sought → Type 0
IsSoughtOf filters sought = (sought.values ≡ values_of filters) × IsSought sought

-- the beginning that the value at a place names
abbrev pub beginning_at : List (List ℕ) → ℕ → List ℕ
beginning_at values place = beginning_of (slice_index_or values place [])

-- ---- a value and a text that part from a third

-- the value ends within what the text has alike with the third
abbrev pub ends_within : Parted → Parted → Bool
ends_within value text = nat_eq value.next 0 && nat_le value.bytes text.bytes

-- the value parts from the third where the text does, and goes on as it does
abbrev pub goes_along : Parted → Parted → Bool
goes_along value text = nat_eq value.bytes text.bytes && nat_eq value.next text.next && not (nat_eq value.next 0)

-- ---- marks

-- the marks, and those of the values as which a text begins
abbrev pub marked : List ℕ → List (List ℕ) → List Bool → List Bool
marked text [] marks = marks
marked text (value ∷ values) [] = []
marked text (value ∷ values) (mark ∷ marks) =
    (mark || starts_with nat_eq text (beginning_of value)) ∷ marked text values marks

-- the mark of each value tells whether some of the texts begins as it says; more may stand behind
abbrev pub AreMarks : List (List ℕ) → List (List ℕ) → List Bool → Type 0
AreMarks texts [] marks = Unit {0}
AreMarks texts (value ∷ values) [] = ⊥
AreMarks texts (value ∷ values) (mark ∷ marks) =
    (mark ≡ some_begins texts (beginning_of value)) × AreMarks texts values marks

-- whether a value holds where some text begins as it says, or none does
abbrev pub holds_by : List ℕ → Bool → Bool
holds_by [] begins = begins
holds_by (first ∷ rest) begins = if first == 33 then not begins else begins
