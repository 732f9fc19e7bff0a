-- Replies that were made, and the one where memory ran out.
use Rattle.std.proofs.Common.{◌≡◌, ◌⊎◌, ℕ, List, refl, ap, ◌∙◌, inl, inr, codes}
use Rattle.serde_json.proofs.OnLiterals.{serde_json_on_literals}
use Rattle.sm_base.specs.declared.bad_kind.BadKind.{BadKind}
use Rattle.sm_model.specs.declared.why.Why.TheVariants as whys
use Rattle.sm_http.specs.Framed.{framed}
use Rattle.sm_reply.specs.Shown.{Answered, refused}
use Rattle.sm_session.specs.declared.said.Said.{Said}
use Rattle.sm_session.specs.declared.said.Said.TheVariants.{Reply, Memory}
use Rattle.sm_session.specs.Replies.{Says, IsBadReply, unavailable, reply_of, framed_answer}

-- a reply that was made is the model's, or it stands where memory ran out
pub reply_said : (said : Said) (answer : Answered) → Says said answer
    → (reply_of said ≡ answer) ⊎ (reply_of said ≡ unavailable)
reply_said (Reply status body) answer is =
    let of : ℕ → List ℕ → Answered = λ status body. record { status = status; body = body } in
    inl (ap (λ n. of n body) is.0 ∙ ap (of answer.status) is.1)
reply_said Memory answer is = inr refl

pub bad_reply : (said : Said) (kind : BadKind) → Says said (refused (whys.Http kind))
    → IsBadReply kind (reply_of said)
bad_reply said kind is = reply_said said (refused (whys.Http kind)) is

-- the reply where memory ran out, as it stands in the code
unavailable_body : unavailable.body ≡ codes "{\"Message\":\"out of memory\",\"__type\":\"ServiceUnavailable\"}"
unfolding serde_json_on_literals
unavailable_body = refl

pub unavailable_text : framed_answer unavailable
    ≡ framed 503 (codes "{\"Message\":\"out of memory\",\"__type\":\"ServiceUnavailable\"}")
unavailable_text = ap (framed 503) unavailable_body
