-- An upstream that answers from a list.
use Rattle.std.specs.Prelude.{ℕ, IsTrue, ⊤, List, [], ◌∷◌, ◌++◌, drop, Option, None, Some, if◌then◌else◌}
use Rattle.sm_io.specs.declared.calls.Calls.{Calls}
use Rattle.sm_io.specs.Calls.{fails_next, after_call, after_fault}
use Rattle.sm_agent.specs.declared.answer.Answer.{Answer}
use Rattle.sm_agent.specs.declared.question.Question.{Question}
use Rattle.sm_agent.specs.declared.upstream.Told.{Told}
use Rattle.sm_agent.specs.declared.upstream.Upped.{Upped}
use Rattle.sm_agent.specs.declared.upstream.Upped.TheVariants.{Got, Failed, Memory}
use Rattle.sm_agent.specs.Upstreams.{is_status, answered, unanswered}

-- the replies that are left, the calls, and what was asked
pub record ScriptState : Type 0 where
  pub replies : List (ℕ × List ℕ)
  pub calls : Calls
  pub told : List Told

-- each has a status of a reply
abbrev pub AreReplies : List (ℕ × List ℕ) → Type 0
AreReplies [] = ⊤
AreReplies (reply ∷ replies) = IsTrue (is_status reply.0) × AreReplies replies

-- the first reply
abbrev pub first_answer : List (ℕ × List ℕ) → Option Answer
first_answer [] = None
first_answer (reply ∷ replies) = Some (record { status = reply.0; body = reply.1 })

-- the answer to the next question: the first reply; none where the call is told to fail or no reply is left
abbrev pub script_answer : ScriptState → Option Answer
script_answer state = if fails_next state.calls then None else first_answer state.replies

-- with a question and its answer at the end of those that were asked
abbrev pub with_told : ScriptState → Question → Option Answer → ScriptState
with_told state question answer =
    record state { told = state.told ++ record { question = question; answer = answer } ∷ [] }

-- what is left behind a question that was answered so: where there was no memory, the reply is still there
abbrev pub after_ask : ScriptState → Question → Upped → ScriptState
after_ask state question (Got status body) = record state {
  replies = drop 1 state.replies;
  calls = after_call state.calls;
  told = state.told ++ answered question status body ∷ [];
}
after_ask state question Failed =
    record state { calls = after_fault state.calls; told = state.told ++ unanswered question ∷ [] }
after_ask state question Memory = record state { calls = after_call state.calls }
