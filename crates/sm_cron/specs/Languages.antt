-- Languages put together from small ones: whether a text is of a language, what it says, and whether it can begin one.
use Rattle.std.specs.Prelude.{◌≡◌, ℕ, ◌+◌, ◌-◌, ◌*◌, Bool, true, false, not, ◌&&◌, ◌||◌, ◌==◌, nat_eq, nat_lt, nat_le, if◌then◌else◌, List, [], ◌∷◌, ◌++◌, Option, Some, None}
use Rattle.std.specs.Char.{is_ascii_digit}
use Rattle.std.specs.Cmp.Lexicographic.{pointwise}
use Rattle.std.specs.List.{list_all, starts_with}
use Rattle.std.specs.Option.{is_some, option_map, option_map_or, option_and_then}
use Rattle.sm_cron.specs.declared.reading.Reading.{Reading}
use Rattle.sm_cron.specs.declared.reading.Reading.TheVariants.{Text, Front, Fault}

-- what the texts of a language say, and which bytes can begin one
pub record Language (V : Type 0) : Type 0 where
  pub value : List ℕ → Option V
  pub can_begin : List ℕ → Bool

-- Bytes can begin a text of the language exactly where some continuation of them is one.
pub record IsRight {V : Type 0} (language : Language V) : Type 0 where
  pub begins : (front : List ℕ) → language.can_begin front ≡ true
      → (rest : List ℕ) × (is_some (language.value (front ++ rest)) ≡ true)
  pub only : (front rest : List ℕ) → is_some (language.value (front ++ rest)) ≡ true
      → language.can_begin front ≡ true

-- no text
unfoldable pub nothing : {V : Type 0} → Language V
nothing = record { value = λ text. None; can_begin = λ front. false }

-- one word, which says this
unfoldable pub word : {V : Type 0} → List ℕ → V → Language V
word bytes says = record {
  value = λ text. if pointwise nat_eq text bytes then Some says else None;
  can_begin = λ front. starts_with nat_eq bytes front;
}

-- the one, or else the other
abbrev pub or_else : {V : Type 0} → Option V → Option V → Option V
or_else None other = other
or_else (Some says) other = Some says

-- the texts of two languages; what both have says what it says in the first
unfoldable pub either : {V : Type 0} → Language V → Language V → Language V
either one other = record {
  value = λ text. or_else (one.value text) (other.value text);
  can_begin = λ front. one.can_begin front || other.can_begin front;
}

-- the texts of a language where a test holds, and none elsewhere
unfoldable pub where_true : {V : Type 0} → Bool → Language V → Language V
where_true test language = if test then language else nothing

-- the texts of a language, with another meaning
unfoldable pub meaning : {V W : Type 0} → (V → W) → Language V → Language W
meaning f language = record {
  value = λ text. option_map f (language.value text);
  can_begin = language.can_begin;
}

-- the words of a list that stand for a number from low on, where the first stands for this number, the second for the
-- next, and so on
unfoldable pub words_of : ℕ → ℕ → List (List ℕ) → Language ℕ
words_of low number [] = nothing
words_of low number (name ∷ names) =
    either (where_true (nat_le low number) (word name number)) (words_of low (number + 1) names)

-- what stands before the first mark, and what behind it, where there is one
unfoldable pub parted : ℕ → List ℕ → Option (List ℕ × List ℕ)
parted mark [] = None
parted mark (byte ∷ rest) =
    if byte == mark then Some ([], rest)
    else option_map (λ parts. (byte ∷ parts.0, parts.1)) (parted mark rest)

-- a text of one language, a mark, and a text of another, which goes by what the first one says
unfoldable pub joined : {V W : Type 0} → ℕ → Language V → (V → Language W) → Language W
joined mark one other = record {
  value = λ text. option_and_then
      (λ parts. option_and_then (λ says. (other says).value parts.1) (one.value parts.0)) (parted mark text);
  can_begin = λ front. option_map_or
      (λ parts. option_map_or (λ says. (other says).can_begin parts.1) (one.value parts.0) false)
      (parted mark front) (one.can_begin front);
}

-- what the items of a list say, where one is begun with these bytes
unfoldable pub listed_values : {V : Type 0} → ℕ → Language V → List ℕ → List ℕ → Option (List V)
listed_values mark item begun [] = option_map (λ says. says ∷ []) (item.value begun)
listed_values mark item begun (byte ∷ rest) =
    if byte == mark then
    option_and_then (λ says. option_map (λ more. says ∷ more) (listed_values mark item [] rest)) (item.value begun)
    else listed_values mark item (begun ++ byte ∷ []) rest

-- whether bytes can go on such a list
unfoldable pub can_go_on : {V : Type 0} → ℕ → Language V → List ℕ → List ℕ → Bool
can_go_on mark item begun [] = item.can_begin begun
can_go_on mark item begun (byte ∷ rest) =
    if byte == mark then is_some (item.value begun) && can_go_on mark item [] rest
    else can_go_on mark item (begun ++ byte ∷ []) rest

-- one text of a language or more, with a mark between each two
unfoldable pub listed : {V : Type 0} → ℕ → Language V → Language (List V)
listed mark item = record { value = listed_values mark item []; can_begin = can_go_on mark item [] }

-- the number that so many digits make, behind those of another
unfoldable pub number_from : ℕ → List ℕ → ℕ
number_from number [] = number
number_from number (byte ∷ rest) = number_from (10 * number + (byte - 48)) rest

abbrev pub is_empty : List ℕ → Bool
is_empty [] = true
is_empty (byte ∷ rest) = false

-- decimal digits without leading zeros
abbrev pub is_number : List ℕ → Bool
is_number [] = false
is_number (byte ∷ rest) =
    list_all is_ascii_digit (byte ∷ rest) && (not (byte == 48) || is_empty rest)

abbrev pub number_of : List ℕ → ℕ
number_of text = number_from 0 text

abbrev pub is_between : ℕ → ℕ → ℕ → Bool
is_between low greatest number = nat_le low number && nat_le number greatest

-- the number is between two others, or would be with a further digit
abbrev pub is_near : ℕ → ℕ → ℕ → Bool
is_near low greatest number = is_between low greatest number
    || (nat_lt 0 number && nat_le low (10 * number + 9) && nat_le (10 * number) greatest)

-- the numbers between two others
unfoldable pub numbers : ℕ → ℕ → Language ℕ
numbers low greatest = record {
  value = λ text. if is_number text && is_between low greatest (number_of text) then Some (number_of text) else None;
  can_begin = λ front. is_empty front || (is_number front && is_near low greatest (number_of front));
}

-- ---- what a text is to a language

abbrev pub reading : {V : Type 0} → Option V → Bool → Reading V
reading (Some says) can_begin = Text says
reading None true = Front
reading None false = Fault

-- a text of the language, the front of one, or neither
unfoldable pub reading_of : {V : Type 0} → Language V → List ℕ → Reading V
reading_of language text = reading (language.value text) (language.can_begin text)

-- of two languages
abbrev pub or_reading : {V : Type 0} → Reading V → Reading V → Reading V
or_reading (Text says) other = Text says
or_reading Front (Text says) = Text says
or_reading Front Front = Front
or_reading Front Fault = Front
or_reading Fault other = other

-- of a language whose texts go on
abbrev pub unfinished : {V W : Type 0} → Reading V → Reading W
unfinished (Text says) = Front
unfinished Front = Front
unfinished Fault = Fault
