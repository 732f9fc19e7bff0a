-- Who asks: the person that the Authorization field of a message names.
-- IAM User Guide, "Create a signed AWS API request": Credential=<access key id>/<date>/<region>/<service>/aws4_request.
use Rattle.std.specs.Prelude.{◌≡◌, ℕ, Bool, true, false, is_some, nat_eq, if◌then◌else◌, List, [], ◌∷◌, take, drop, codes, Option, Some, None, option_and_then, Result, Ok, Err, ⊤}
use Rattle.std.specs.List.{list_any}
use Rattle.std.specs.Cmp.Lexicographic.{pointwise}
use Rattle.sm_base.specs.Texts.{same_text}
use Rattle.sm_model.specs.declared.person.Person.{Person}
use Rattle.sm_principal.specs.Persons.{Known}
use Rattle.sm_principal.specs.declared.caller.CallerRefused.{CallerRefused}
use Rattle.sm_principal.specs.declared.caller.CallerRefused.TheVariants as refused
use Rattle.sm_principal.specs.declared.people.People.{People}
use Rattle.sm_principal.specs.declared.people.People.TheVariants.{Everybody, Listed}
use Rattle.sm_principal.specs.declared.people.PeopleRefused.{PeopleRefused}
use Rattle.sm_principal.specs.declared.people.PeopleRefused.TheVariants.{BadLine, Memory}
use Rattle.sm_principal.specs.Lines.{is_key, person_with, parted, persons_of}

-- the people of persons, or the first bad line
abbrev pub listed : Result (List Known) ℕ → Result People ℕ
listed (Ok known) = Ok (Listed known)
listed (Err number) = Err number

-- the people of a text; the empty one is everybody
abbrev pub people_of : List ℕ → Result People ℕ
people_of [] = Ok Everybody
people_of (c ∷ text) = listed (persons_of (c ∷ text))

-- out of memory, or the persons known, or the first bad line
abbrev pub IsKnown : Result (List Known) PeopleRefused → Result (List Known) ℕ → Type 0
IsKnown (Ok known) is = is ≡ Ok known
IsKnown (Err (BadLine number)) is = is ≡ Err number
IsKnown (Err Memory) is = ⊤

-- the answer, or none where memory is wanted
abbrev pub told : Result People PeopleRefused → Option (Result People ℕ)
told (Ok people) = Some (Ok people)
told (Err (BadLine number)) = Some (Err number)
told (Err Memory) = None

-- the person that everybody is where there are no people
unfoldable pub root_arn : List ℕ
root_arn = codes "arn:aws:iam::000000000000:root"

abbrev pub root : Person
root = person_with [] true root_arn

-- the text begins with `Credential=`
unfoldable pub begins : List ℕ → Bool
begins text = pointwise nat_eq (take 11 text) (codes "Credential=")

-- what stands behind the first `Credential=`
abbrev pub after_credential : List ℕ → Option (List ℕ)
after_credential [] = None
after_credential (c ∷ text) = if begins (c ∷ text) then Some (drop 11 (c ∷ text)) else after_credential text

-- the key that stands up to the next `/`
abbrev pub key_if : Option (List ℕ × List ℕ) → Option (List ℕ)
key_if None = None
key_if (Some parts) = if is_key parts.0 then Some parts.0 else None

abbrev pub key_of : List ℕ → Option (List ℕ)
key_of text = key_if (parted 47 text)

abbrev pub key_in : List ℕ → Option (List ℕ)
key_in header = option_and_then key_of (after_credential header)

-- why nobody asks: there is no key, or nobody has it
pub data Nobody : Type 0 where
  no_credential : Nobody
  unknown : List ℕ → Nobody

-- the person with the key, and the secret, where there is one
abbrev pub known_named : List ℕ → List Known → Option Known
known_named key [] = None
known_named key (one ∷ known) = if same_text one.person.key key then Some one else known_named key known

abbrev pub known_or : List ℕ → Option Known → Result Person Nobody
known_or key None = Err (unknown key)
known_or key (Some one) = Ok one.person

abbrev pub caller_named : List Known → Option (List ℕ) → Result Person Nobody
caller_named known None = Err no_credential
caller_named known (Some key) = known_or key (known_named key known)

-- who asks by an Authorization field, or none
abbrev pub caller_of : People → Option (List ℕ) → Result Person Nobody
caller_of Everybody header = Ok root
caller_of (Listed known) header = caller_named known (option_and_then key_in header)

-- the secret of the person with a key, where that line has one
abbrev pub secret_in : Option Known → Option (List ℕ)
secret_in None = None
secret_in (Some one) = one.secret

abbrev pub secret_of : People → List ℕ → Option (List ℕ)
secret_of Everybody key = None
secret_of (Listed known) key = secret_in (known_named key known)

-- some line has a secret
abbrev pub has_secret : Known → Bool
has_secret one = is_some one.secret

abbrev pub has_secrets : People → Bool
has_secrets Everybody = false
has_secrets (Listed known) = list_any has_secret known

-- the answer, or none where memory is wanted
abbrev pub told_caller : Result Person CallerRefused → Option (Result Person Nobody)
told_caller (Ok person) = Some (Ok person)
told_caller (Err refused.NoCredential) = Some (Err no_credential)
told_caller (Err (refused.Unknown key)) = Some (Err (unknown key))
told_caller (Err refused.Memory) = None
