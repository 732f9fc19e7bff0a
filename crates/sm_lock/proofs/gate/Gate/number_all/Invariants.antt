use Rattle.std.proofs.Common.{◌≡◌, ◌+◌, [], All, map, vec_len, vec_capacity}
use Rattle.std.specs.List.{range_with_len}
use Rattle.sm_lock.specs.View.{builders}
use Rattle.sm_lock.specs.Handles.{built_with, number, seen, mine, IsIn}
use Rattle.sm_lock.proofs.gate.Gate.number_all.Given as goal

-- the passes have the numbers below the builder's next
abbrev pub invariant-loop-number : goal.invariant-loop-number
invariant-loop-number g l =
    let value = built_with l.self in
    (l.builder.table_id ≡ l.self.board.shared.table_id)
    × (l.builder.me ≡ (builders (g.T.Storied.origin value) (g.T.Storied.story value) l.number, []))
    × (vec_len l.passes + 1 ≡ l.number)
    × (vec_capacity l.passes ≡ vec_capacity l.fn.passes)
    × (map number l.passes.items ≡ range_with_len 1 (vec_len l.passes))
    × All (λ pass. IsIn l.self pass × (seen pass ≡ g.T.Storied.story value) × (mine pass ≡ [])) l.passes.items
