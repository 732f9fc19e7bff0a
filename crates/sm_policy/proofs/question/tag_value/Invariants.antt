use Rattle.std.proofs.Common.{◌≡◌, drop}
use Rattle.sm_policy.specs.Decisions.{tag_value}
use Rattle.sm_policy.proofs.question.tag_value.Given as goal

-- none of those that were passed has the key
abbrev pub invariant-loop-tag : goal.invariant-loop-tag
invariant-loop-tag l = tag_value l.tags l.key ≡ tag_value (drop l.tag-index l.tags) l.key
