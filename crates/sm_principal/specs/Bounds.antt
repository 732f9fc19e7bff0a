-- How long the texts of persons are.
use Rattle.std.specs.Prelude.{◌≡◌, ℕ, ◌≤◌, List, length, All, Option, IfSome, Ok, ⊤}
use Rattle.sm_base.specs.declared.limits.TheConstants.{KEY_LIMIT}
use Rattle.sm_model.specs.declared.person.Person.{Person}
use Rattle.sm_principal.specs.Persons.{Known}
use Rattle.sm_principal.specs.declared.known.TheConstants.{SECRET_LIMIT}
use Rattle.sm_principal.specs.declared.people.People.{People}
use Rattle.sm_principal.specs.declared.people.People.TheVariants.{Everybody, Listed}
use Rattle.sm_principal.specs.Callers.{people_of, caller_of}

-- the key has at most KEY_LIMIT bytes
abbrev pub HasShortKey : Person → Type 0
HasShortKey person = length person.key ≤ KEY_LIMIT

-- a secret has at most SECRET_LIMIT bytes, where there is one
abbrev pub HasShortSecret : Known → Type 0
HasShortSecret one = IfSome one.secret (λ secret. length secret ≤ SECRET_LIMIT)

-- and the ARN at most 154
abbrev pub IsShort : Known → Type 0
IsShort one = HasShortKey one.person × (length one.person.arn ≤ 154) × HasShortSecret one

abbrev pub AreShort : People → Type 0
AreShort Everybody = ⊤
AreShort (Listed known) = All IsShort known

-- the persons of a people text are short
abbrev pub ReadsShort : Type 0
ReadsShort = (text : List ℕ) (people : People) → people_of text ≡ Ok people → AreShort people

-- who asks has a short key, whoever may ask
abbrev pub AsksShort : Type 0
AsksShort = (people : People) (header : Option (List ℕ)) (person : Person) → caller_of people header ≡ Ok person
    → HasShortKey person
