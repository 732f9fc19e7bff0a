use Rattle.std.proofs.Common.{◌≤◌, nat_eq}
use Rattle.std.specs.Cmp.Lexicographic.{pointwise}
use Rattle.std.specs.List.{position_or_len}
use Rattle.sm_base.proofs.shared_list.position_of.Given as goal

abbrev pub invariant-loop-at : goal.invariant-loop-at
invariant-loop-at g l = l.at ≤ position_or_len (λ item. pointwise nat_eq (g.T.Keyed.key item) l.key) l.entries
