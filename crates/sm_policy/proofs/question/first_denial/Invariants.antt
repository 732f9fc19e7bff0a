use Rattle.std.proofs.Common.{◌≡◌, drop}
use Rattle.sm_policy.specs.Decisions.{plain_question, denies, first_number}
use Rattle.sm_policy.proofs.question.first_denial.Given as goal

-- none of those that were passed does
abbrev pub invariant-loop-place : goal.invariant-loop-place
invariant-loop-place l =
    first_number (denies (plain_question l.asked.question.now)) 0 l.statements
    ≡ first_number (denies (plain_question l.asked.question.now)) l.place (drop l.place l.statements)
