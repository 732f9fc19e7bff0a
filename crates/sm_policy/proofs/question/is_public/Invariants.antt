use Rattle.std.proofs.Common.{◌≡◌, drop}
use Rattle.sm_policy.specs.Decisions.{is_open, first_number}
use Rattle.sm_policy.proofs.question.is_public.Given as goal

-- none of those that were passed is
abbrev pub invariant-loop-place : goal.invariant-loop-place
invariant-loop-place l =
    first_number is_open 0 l.statement-items ≡ first_number is_open l.place (drop l.place l.statement-items)
