-- Who asks by a message.
-- IAM User Guide, "Create a signed AWS API request": the credential names who asks, and the signature shows it.
use Rattle.std.specs.Prelude.{◌≡◌, ℕ, List, codes, Option, Some, None, Result, Ok, Err, ⊤}
use Rattle.sm_model.specs.declared.person.Person.{Person}
use Rattle.sm_model.specs.declared.why.Part.{Part}
use Rattle.sm_model.specs.declared.why.Part.TheVariants as named
use Rattle.sm_model.specs.declared.why.Why.{Why}
use Rattle.sm_model.specs.declared.why.Why.TheVariants as whys
use Rattle.sm_http.specs.Heads.{field_of}
use Rattle.sm_http.specs.Messages.{Message}
use Rattle.sm_principal.specs.declared.people.People.{People}
use Rattle.sm_principal.specs.Callers.{Nobody, no_credential, unknown, caller_of, secret_of}
use Rattle.sm_sigv4.specs.declared.part.Part.{Part as Signed}
use Rattle.sm_sigv4.specs.declared.part.Part.TheVariants as parts
use Rattle.sm_sigv4.specs.Signatures.{signed}
use Rattle.sm_session.specs.declared.asking.Asker.{Asker}
use Rattle.sm_session.specs.declared.asking.Asker.TheVariants.{Is, Refused, Memory}

-- a part of a signature, as a cause names it
abbrev pub part_of : Signed → Part
part_of parts.Authorization = named.Authorization
part_of parts.SignedHeaders = named.SignedHeaders
part_of parts.Date = named.Date
part_of parts.Signature = named.Signature

-- why nobody asks
abbrev pub why_nobody : Nobody → Why
why_nobody no_credential = whys.NoCredential
why_nobody (unknown key) = whys.UnknownKey key

-- the person, or the first part of the signature that fails
abbrev pub unless_bad : Person → Option Signed → Result Person Why
unless_bad person None = Ok person
unless_bad person (Some part) = Err (whys.BadSignature (part_of part))

-- the person, where there is no secret, or the message is signed by it
abbrev pub signed_by : Person → Option (List ℕ) → Message → Result Person Why
signed_by person None message = Ok person
signed_by person (Some secret) message = unless_bad person (signed secret message)

-- the person whom the credential names, where whoever has a secret has signed by it
abbrev pub asker_named : People → Result Person Nobody → Message → Result Person Why
asker_named people (Err nobody) message = Err (why_nobody nobody)
asker_named people (Ok person) message = signed_by person (secret_of people person.key) message

-- the value of a message's Authorization field
abbrev pub authorization_of : Message → Option (List ℕ)
authorization_of message = field_of (codes "authorization") message.fields

-- who asks by a message, or why nobody does
unfoldable pub asker_of : People → Message → Result Person Why
asker_of people message = asker_named people (caller_of people (authorization_of message)) message

-- out of memory, or who asks, or why nobody does
abbrev pub IsAsker : Asker → Result Person Why → Type 0
IsAsker (Is person) wanted = wanted ≡ Ok person
IsAsker (Refused why) wanted = wanted ≡ Err why
IsAsker Memory wanted = ⊤

-- a fact about who asks, where somebody does
abbrev pub IfAsker : Asker → (Person → Type 0) → Type 0
IfAsker (Is person) P = P person
IfAsker (Refused why) P = ⊤
IfAsker Memory P = ⊤
