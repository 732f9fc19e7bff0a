-- The replies of a caching reader.
use Rattle.std.specs.Prelude.{ℕ, List, ◌++◌, codes, Option, Some, None, Result, Err, if◌then◌else◌, Bool}
use Rattle.sm_base.specs.Texts.{same_text}
use Rattle.sm_agent.specs.declared.agent.Given.{Given}
use Rattle.sm_agent.specs.declared.agent.Given.TheVariants as given
use Rattle.sm_agent.specs.declared.answer.Answer.{Answer}
use Rattle.sm_agent.specs.declared.path.QueryRefused.{QueryRefused}
use Rattle.sm_agent.specs.declared.path.QueryRefused.TheVariants as refused
use Rattle.sm_agent.specs.declared.question.Question.{Question}
use Rattle.sm_agent.specs.Messages.{refusal_body}
use Rattle.sm_agent.specs.Queries.{query_of}

-- an answer of its status and its body
abbrev pub reply : ℕ → List ℕ → Answer
reply status body = record { status = status; body = body }

-- the reply to a request that asks for nothing
unfoldable pub bad_request : List ℕ → Answer
bad_request what = reply 400 (refusal_body (codes "agent: " ++ what) (codes "InvalidParameterException"))

-- and to one at which the upstream failed
unfoldable pub upstream_fault : Answer
upstream_fault = reply 500 (refusal_body (codes "upstream fault") (codes "InternalServiceError"))

-- the word for a path that answers no questions
unfoldable pub path_word : List ℕ
path_word = codes "path"

-- the reply to what was refused; none where memory was wanted
abbrev pub refused_reply : QueryRefused → Option Answer
refused_reply refused.Path = Some (bad_request path_word)
refused_reply (refused.Key key) = Some (bad_request key)
refused_reply refused.Memory = None

-- the reply to a question, by what was given
abbrev pub given_reply : Given → Option Answer
given_reply (given.Kept status body at) = Some (reply status body)
given_reply (given.Asked status body) = Some (reply status body)
given_reply given.Failed = Some upstream_fault
given_reply given.Memory = None

-- the method of a question
unfoldable pub is_get_method : List ℕ → Bool
is_get_method method = same_text method (codes "GET")

-- what a request asks for: one of another method is as one of another path
abbrev pub request_of : List ℕ → List ℕ → Result (Question × Bool) QueryRefused
request_of method path = if is_get_method method then query_of path else Err refused.Path
