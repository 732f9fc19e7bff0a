use Rattle.std.proofs.Common.{◌≤◌, nat_eq}
use Rattle.std.specs.Cmp.Lexicographic.{pointwise}
use Rattle.std.specs.List.{position_or_len}
use Rattle.sm_base.proofs.front.Front.position_among.Given as goal

abbrev pub invariant-loop-place : goal.invariant-loop-place
invariant-loop-place g l = l.place ≤ position_or_len (λ item. pointwise nat_eq (g.T.Keyed.key item) l.key) l.self
