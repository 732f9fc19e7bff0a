use Rattle.std.proofs.Common.{◌≡◌, ◌+◌, ◌≤◌, length, Ok, []}
use Rattle.sm_principal.specs.Lines.{lines_of, persons_from}
use Rattle.sm_principal.proofs.people.persons_of.Given as goal

-- the persons so far, and the lines to come
abbrev pub invariant-loop-line : goal.invariant-loop-line
invariant-loop-line l =
    (persons_from 1 (Ok []) (lines_of l.text) ≡ persons_from l.number (Ok l.known) (lines_of l.left))
    × (l.number + length l.left ≤ length l.text + 1)

abbrev pub decreases-loop-line : goal.decreases-loop-line
decreases-loop-line l = length l.left
