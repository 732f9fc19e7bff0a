-- What is said of a judgement.
use Rattle.std.specs.Prelude.{Option, Some, None, ⊤}
use Rattle.sm_model.specs.declared.entry.Change.{Change}
use Rattle.sm_model.specs.declared.why.Why.{Why}
use Rattle.sm_judge_common.specs.declared.judged.Judged.{Judged}
use Rattle.sm_judge_common.specs.declared.judged.Judged.TheVariants.{Accept, Refuse, Memory}

-- the judgement, or none where memory is wanted
abbrev pub judged_told : Judged → Option Judged
judged_told (Accept reply change) = Some (Accept reply change)
judged_told (Refuse why) = Some (Refuse why)
judged_told Memory = None

-- the refusal, or that there is none; none of either where memory is wanted
abbrev pub refusal_told : Judged → Option (Option Why)
refusal_told (Accept reply change) = Some None
refusal_told (Refuse why) = Some (Some why)
refusal_told Memory = None

-- a fact of what an accepted request changes, if it changes anything
abbrev pub IfAccepted : Judged → (Option Change → Type 0) → Type 0
IfAccepted (Accept reply change) P = P change
IfAccepted (Refuse why) P = ⊤
IfAccepted Memory P = ⊤

-- a fact of the change, where there is one
abbrev pub IfChange : Judged → (Change → Type 0) → Type 0
IfChange (Accept reply None) P = ⊤
IfChange (Accept reply (Some change)) P = P change
IfChange (Refuse why) P = ⊤
IfChange Memory P = ⊤
