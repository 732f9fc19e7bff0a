use Rattle.std.proofs.Common.{◌≡◌}
use Rattle.serde_json.specs.View.{members_view}
use Rattle.sm_policy_text.specs.Members.{first_unknown}
use Rattle.sm_policy_text.proofs.read.first_unknown.Given as goal

-- none of those that were passed is unknown
abbrev pub invariant-loop-key : goal.invariant-loop-key
invariant-loop-key l = first_unknown l.known (members_view l.fn.members.entries)
    ≡ first_unknown l.known (members_view l.key-iterator)
