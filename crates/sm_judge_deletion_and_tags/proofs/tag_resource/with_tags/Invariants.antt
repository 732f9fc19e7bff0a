use Rattle.std.proofs.Common.{◌≡◌, take}
use Rattle.sm_judge_deletion_and_tags.specs.TagResource.{with_tags}
use Rattle.sm_judge_deletion_and_tags.proofs.tag_resource.with_tags.Given as goal

-- the tags so far are those of the secret with the given ones so far
abbrev pub invariant-loop-tag : goal.invariant-loop-tag
invariant-loop-tag l = l.tags.items ≡ with_tags l.kept (take l.tag-index l.given)
