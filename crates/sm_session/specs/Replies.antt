-- The code's replies beside the model's.
use Rattle.std.specs.Prelude.{◌≡◌, ◌⊎◌, ℕ, List, ⊤}
use Rattle.sm_account.specs.declared.handled.Handled.{Handled}
use Rattle.sm_account.specs.declared.handled.Handled.TheVariants as handled
use Rattle.sm_base.specs.declared.bad_kind.BadKind.{BadKind}
use Rattle.sm_model.specs.declared.why.Why.TheVariants as whys
use Rattle.sm_http.specs.Framed.{framed}
use Rattle.sm_reply.specs.Shown.{Answered, shown, refused}
use Rattle.sm_session.specs.declared.said.Said.{Said}
use Rattle.sm_session.specs.declared.said.Said.TheVariants.{Reply, Memory}

-- the reply where memory ran out
abbrev pub unavailable : Answered
unavailable = refused whys.Memory

-- what was said: a lack of memory has a reply of its own
abbrev pub reply_of : Said → Answered
reply_of (Reply status body) = record { status = status; body = body }
reply_of Memory = unavailable

-- out of memory, or this reply
abbrev pub Says : Said → Answered → Type 0
Says (Reply status body) answer = (status ≡ answer.status) × (body ≡ answer.body)
Says Memory answer = ⊤

-- what an account answered, as a reply
abbrev pub SaysHandled : Handled → Said → Type 0
SaysHandled (handled.Answered reply) said = Says said (shown reply)
SaysHandled (handled.Refused why) said = Says said (refused why)
SaysHandled handled.DiskFault said = Says said (refused whys.DiskFault)
SaysHandled handled.Memory said = said ≡ Memory

-- a reply's bytes
abbrev pub framed_answer : Answered → List ℕ
framed_answer answer = framed answer.status answer.body

-- the reply to a bad message: that of its fault, or the one where memory ran out in its place
abbrev pub IsBadReply : BadKind → Answered → Type 0
IsBadReply kind answer = (answer ≡ refused (whys.Http kind)) ⊎ (answer ≡ unavailable)
