use Rattle.std.proofs.Common.{◌≡◌}
use Rattle.serde_json.specs.View.{members_view}
use Rattle.sm_policy_text.specs.Kinds.{all_members}
use Rattle.sm_policy_text.proofs.ItemLemmas.{with_front}
use Rattle.sm_policy_text.proofs.condition.all_members.Given as goal

-- the members so far, and those to come
abbrev pub invariant-loop-key : goal.invariant-loop-key
invariant-loop-key g l = all_members g.R.MemberReader.reads (members_view l.fn.members.entries) ≡ with_front l.parts
    (all_members g.R.MemberReader.reads (members_view l.key-iterator))
