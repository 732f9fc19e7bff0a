-- What the code heard, beside what is to be heard.
use Rattle.std.specs.Prelude.{◌≡◌, Result, Ok, Err, ⊤}
use Rattle.sm_model.specs.declared.person.Person.{Person}
use Rattle.sm_model.specs.declared.request.Request.{Request}
use Rattle.sm_model.specs.declared.why.Why.{Why}
use Rattle.sm_session.specs.declared.heard.Heard.{Heard}
use Rattle.sm_session.specs.declared.heard.Heard.TheVariants.{Ask, Refused, Memory}
use Rattle.sm_session.specs.Answer.{Asked}

-- out of memory, or who asks for what, or the refusal
abbrev pub Hears : Heard → Result Asked Why → Type 0
Hears (Ask person request) wanted = wanted ≡ Ok (record { person = person; request = request })
Hears (Refused why) wanted = wanted ≡ Err why
Hears Memory wanted = ⊤

-- a fact about who asks, where somebody does
abbrev pub IfAsks : Heard → (Person → Type 0) → Type 0
IfAsks (Ask person request) P = P person
IfAsks (Refused why) P = ⊤
IfAsks Memory P = ⊤
