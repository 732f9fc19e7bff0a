-- The classes of characters that a password may have.
-- AWS Secrets Manager API Reference, GetRandomPassword (ExcludeCharacters, ExcludeLowercase, ExcludeNumbers,
-- ExcludePunctuation, ExcludeUppercase, IncludeSpace).
use Rattle.std.specs.Prelude.{ℕ, Bool, not, ◌&&◌, ◌==◌, if◌then◌else◌, List, [], ◌∷◌, ◌++◌, codes}
use Rattle.std.specs.List.{filter, list_any}
use Rattle.std.specs.Char.{is_ascii_lowercase, is_ascii_uppercase, is_ascii_digit, is_ascii_punctuation}
use Rattle.std.specs.Str.{chars}
use Rattle.sm_password.specs.declared.ask.Asked.{Asked}
use Rattle.sm_password.specs.declared.ask.PasswordAsk.{PasswordAsk}
use Rattle.sm_password.specs.declared.class.Class.{Class}
use Rattle.sm_password.specs.declared.class.Class.TheVariants.{Lower, Upper, Digits, Punctuation, Space}

-- the characters of a class, in ascending order
unfoldable pub characters_of : Class → List ℕ
characters_of Lower = codes "abcdefghijklmnopqrstuvwxyz"
characters_of Upper = codes "ABCDEFGHIJKLMNOPQRSTUVWXYZ"
characters_of Digits = codes "0123456789"
characters_of Punctuation = codes "!\"#$%&'()*+,-./:;<=>?@[\\]^_`{|}~"
characters_of Space = codes " "

-- the character is not among the excluded ones, which are characters of Unicode
abbrev pub is_left : List ℕ → ℕ → Bool
is_left exclude character = not (list_any (λ excluded. excluded == character) (chars exclude))

-- the class without the excluded characters
unfoldable pub kept : List ℕ → Class → List ℕ
kept exclude class = filter (is_left exclude) (characters_of class)

-- the list, unless it is empty
abbrev pub unless_empty : List ℕ → List (List ℕ)
unless_empty [] = []
unless_empty (c ∷ cs) = (c ∷ cs) ∷ []

-- a class where it is asked for, without the excluded characters; it is passed over where none is left
abbrev pub asked_class : List ℕ → Bool → Class → List (List ℕ)
asked_class exclude asked class = if asked then unless_empty (kept exclude class) else []

-- the classes asked for, in order, without the excluded characters
abbrev pub classes_left : List ℕ → Asked → List (List ℕ)
classes_left exclude asked =
    asked_class exclude asked.lower Lower
    ++ (asked_class exclude asked.upper Upper
    ++ (asked_class exclude asked.digits Digits
    ++ (asked_class exclude asked.punctuation Punctuation
    ++ asked_class exclude asked.space Space)))

-- the same of what is asked of a password
abbrev pub classes : PasswordAsk → List (List ℕ)
classes ask =
    classes_left ask.exclude (record {
      lower = ask.lower;
      upper = ask.upper;
      digits = ask.digits;
      punctuation = ask.punctuation;
      space = ask.space;
    })

-- ---- in words of their own

-- the character is in the class
abbrev pub is_in_class : Class → ℕ → Bool
is_in_class Lower character = is_ascii_lowercase character
is_in_class Upper character = is_ascii_uppercase character
is_in_class Digits character = is_ascii_digit character
is_in_class Punctuation character = is_ascii_punctuation character
is_in_class Space character = character == 32

-- the class is asked for
abbrev pub is_asked : PasswordAsk → Class → Bool
is_asked ask Lower = ask.lower
is_asked ask Upper = ask.upper
is_asked ask Digits = ask.digits
is_asked ask Punctuation = ask.punctuation
is_asked ask Space = ask.space

-- the character is of the class, which is asked for, and not excluded
abbrev pub is_asked_in : PasswordAsk → ℕ → Class → Bool
is_asked_in ask character class = is_asked ask class && is_in_class class character && is_left ask.exclude character

abbrev pub every_class : List Class
every_class = Lower ∷ Upper ∷ Digits ∷ Punctuation ∷ Space ∷ []

-- the character is of a class that is asked for, and not excluded
abbrev pub may_have : PasswordAsk → ℕ → Bool
may_have ask character = list_any (is_asked_in ask character) every_class
