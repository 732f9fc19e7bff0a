use Rattle.std.proofs.Common.{◌≡◌, drop}
use Rattle.sm_versions.specs.Texts.{once}
use Rattle.sm_versions.specs.Sound.{tag_keys}
use Rattle.sm_forms.proofs.key_order.once_in_pairs.Given as goal

-- what is asked of all keys is asked of those that are left
abbrev pub invariant-loop-index : goal.invariant-loop-index
invariant-loop-index l = once (tag_keys l.tags) ≡ once (tag_keys (drop l.index l.tags))
