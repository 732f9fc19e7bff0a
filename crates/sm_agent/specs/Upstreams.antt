-- What an upstream answers, and what it tells of the questions that were asked.
use Rattle.std.specs.Prelude.{◌≡◌, ℕ, Bool, ◌||◌, ◌==◌, List, [], ◌∷◌, ◌++◌, Option, None, Some, ⊤}
use Rattle.sm_agent.specs.declared.answer.Answer.{Answer}
use Rattle.sm_agent.specs.declared.question.Question.{Question}
use Rattle.sm_agent.specs.declared.upstream.Told.{Told}
use Rattle.sm_agent.specs.declared.upstream.Upped.{Upped}
use Rattle.sm_agent.specs.declared.upstream.Upped.TheVariants.{Got, Failed, Memory}

-- a status of a reply
abbrev pub is_status : ℕ → Bool
is_status status = status == 200 || status == 400 || status == 413 || status == 500 || status == 503

-- a fact of the answer's status and body, where there is one
abbrev pub IfGot : Upped → (ℕ → List ℕ → Type 0) → Type 0
IfGot (Got status body) P = P status body
IfGot Failed P = ⊤
IfGot Memory P = ⊤

-- a fact where there was a fault
abbrev pub OnFailed : Upped → Type 0 → Type 0
OnFailed (Got status body) P = ⊤
OnFailed Failed P = P
OnFailed Memory P = ⊤

-- the count stays, but where there was a fault
abbrev pub StaysUnlessFailed : Upped → ℕ → ℕ → Type 0
StaysUnlessFailed (Got status body) old new = new ≡ old
StaysUnlessFailed Failed old new = ⊤
StaysUnlessFailed Memory old new = new ≡ old

-- the answer, none where there was a fault; not told where memory was wanted
abbrev pub answer_in : Upped → Option (Option Answer)
answer_in (Got status body) = Some (Some (record { status = status; body = body }))
answer_in Failed = Some None
answer_in Memory = None

-- a question with its answer
abbrev pub answered : Question → ℕ → List ℕ → Told
answered question status body = record { question = question; answer = Some (record { status = status; body = body }) }

-- a question at which there was a fault
abbrev pub unanswered : Question → Told
unanswered question = record { question = question; answer = None }

-- what was told, where something is, and then this
abbrev pub told_more : Option (List Told) → Told → Option (List Told)
told_more None more = None
told_more (Some told) more = Some (told ++ more ∷ [])

-- what is told after a question that was asked once; where there was no memory, nothing more is
abbrev pub told_after : Question → Upped → Option (List Told) → Option (List Told)
told_after question (Got status body) told = told_more told (answered question status body)
told_after question Failed told = told_more told (unanswered question)
told_after question Memory told = told
