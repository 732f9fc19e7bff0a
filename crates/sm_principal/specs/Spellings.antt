-- How the line of a person is spelled.
use Rattle.std.specs.Prelude.{◌≡◌, ℕ, Bool, true, false, List, [], ◌∷◌, ◌++◌, codes, Option, Some, None}
use Rattle.sm_base.specs.PersonArn.{is_person_arn}
use Rattle.sm_principal.specs.Persons.{Known}
use Rattle.sm_principal.specs.Lines.{is_key, fits, known_of}

-- full or guest
abbrev pub kind_text : Bool → List ℕ
kind_text true = codes "full"
kind_text false = codes "guest"

-- a secret stands behind a space, where there is one
abbrev pub secret_text : Option (List ℕ) → List ℕ
secret_text None = []
secret_text (Some secret) = 32 ∷ secret

-- the line of a person: <key> full|guest <ARN> and, if wanted, <secret>
abbrev pub line_text : Known → List ℕ
line_text one =
    one.person.key ++ 32 ∷ (kind_text one.person.full ++ 32 ∷ (one.person.arn ++ secret_text one.secret))

-- each part is in its form
pub record IsFormed (one : Known) : Type 0 where
  pub key : is_key one.person.key ≡ true
  pub arn : is_person_arn one.person.arn ≡ true
  pub secret : fits one.secret ≡ true

-- what such a line spells is the person that is read of it
abbrev pub ReadsLines : Type 0
ReadsLines = (one : Known) → IsFormed one → known_of (line_text one) ≡ Some one

-- and a line of which a person is read is that person's
abbrev pub ReadsNoOther : Type 0
ReadsNoOther = (line : List ℕ) (one : Known) → known_of line ≡ Some one → (line ≡ line_text one) × IsFormed one
