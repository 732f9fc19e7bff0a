-- What is said of a rotator's answer.
use Rattle.std.specs.Prelude.{◌≡◌, ⊤}
use Rattle.sm_model.specs.declared.entry.Answer.{Answer}
use Rattle.sm_model.specs.declared.entry.Answer.TheVariants.{Failed}
use Rattle.sm_rotator.specs.declared.rotator.Asked.{Asked}
use Rattle.sm_rotator.specs.declared.rotator.Asked.TheVariants.{Answered, Memory}

-- a fact of the answer, where there is one
abbrev pub IfAnswered : Asked → (Answer → Type 0) → Type 0
IfAnswered (Answered answer) P = P answer
IfAnswered Memory P = ⊤

-- a fact where the step failed
abbrev pub OnFailed : Asked → Type 0 → Type 0
OnFailed (Answered answer) P = answer ≡ Failed → P
OnFailed Memory P = ⊤
