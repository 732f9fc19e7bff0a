use Rattle.std.proofs.Common.{option_copied}
use Rattle.sm_agent.specs.Queries.{pairs_of}
use Rattle.sm_agent.proofs.QueryLemmas.{Comes, left_size}
use Rattle.sm_agent.proofs.path.members_of.Given as goal

-- what was read is fine, and gives the members
abbrev pub invariant-loop-left : goal.invariant-loop-left
invariant-loop-left l = Comes (pairs_of l.query) l.members (option_copied l.left)

abbrev pub decreases-loop-left : goal.decreases-loop-left
decreases-loop-left l = left_size (option_copied l.left)
