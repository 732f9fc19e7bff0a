use Rattle.std.proofs.Common.{◌≡◌, ◌==◌, ◌&&◌, nat_eq, length, drop}
use Rattle.std.specs.Cmp.Lexicographic.{pointwise}
use Rattle.sm_sigv4.proofs.digits.are_same.Given as goal

-- the difference so far is 0 where the bytes so far are the same
abbrev pub invariant-loop-place : goal.invariant-loop-place
invariant-loop-place l =
    (length l.one ≡ length l.other)
    × (((l.difference == 0) && pointwise nat_eq (drop l.place l.one) (drop l.place l.other)) ≡ pointwise nat_eq l.one
    l.other)
