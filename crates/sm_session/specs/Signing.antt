-- Laws of who must sign.
use Rattle.std.specs.Prelude.{◌≡◌, ◌↔◌, ℕ, List, Some, None, Ok, Err, option_and_then}
use Rattle.sm_model.specs.declared.person.Person.{Person}
use Rattle.sm_model.specs.declared.why.Why.TheVariants as whys
use Rattle.sm_http.specs.Messages.{Message}
use Rattle.sm_json.specs.declared.operation.Operation.{Operation}
use Rattle.sm_principal.specs.declared.people.People.{People}
use Rattle.sm_principal.specs.Callers.{caller_of, secret_of}
use Rattle.sm_sigv4.specs.declared.part.Part.{Part as Signed}
use Rattle.sm_sigv4.specs.Authorizations.{Authorization, authorization_in}
use Rattle.sm_sigv4.specs.Signatures.{signed}
use Rattle.sm_session.specs.Answer.{Asked, heard, operation_in}
use Rattle.sm_session.specs.Askers.{authorization_of, part_of}

-- A message fails by this part of its signature: it names an operation, the caller is known and has a secret, and the
-- part is the first that is not as the secret signs it.
pub record FailsBy (people : People) (message : Message) (part : Signed) : Type 0 where
  pub operation : Operation
  pub named : operation_in message ≡ Some operation
  pub person : Person
  pub known : caller_of people (authorization_of message) ≡ Ok person
  pub secret : List ℕ
  pub has : secret_of people person.key ≡ Some secret
  pub fails : signed secret message ≡ Some part

-- these messages are refused for their signature, and no others
abbrev pub RefusesUnsigned : Type 0
RefusesUnsigned = (people : People) (message : Message) (part : Signed)
    → (heard people message ≡ Err (whys.BadSignature (part_of part))) ↔ FailsBy people message part

-- whoever asks and has a secret has signed by it
abbrev pub HearsSigned : Type 0
HearsSigned = (people : People) (message : Message) (asked : Asked) (secret : List ℕ)
    → heard people message ≡ Ok asked → secret_of people asked.person.key ≡ Some secret
    → signed secret message ≡ None

-- and the key that the signature is of is the key of the person who asks
abbrev pub HearsOneKey : Type 0
HearsOneKey = (people : People) (message : Message) (asked : Asked) (secret : List ℕ) (a : Authorization)
    → heard people message ≡ Ok asked → secret_of people asked.person.key ≡ Some secret
    → option_and_then authorization_in (authorization_of message) ≡ Some a → a.scope.key ≡ asked.person.key
