use Rattle.std.proofs.Common.{◌≡◌, ◌<◌, length, All}
use Rattle.sm_http.specs.Heads.{blank_line}
use Rattle.sm_http.proofs.HeadLemmas.{line_at}
use Rattle.sm_http.proofs.head.first_blank_line.Given as goal

-- the line is at the first of the places that are left where it stands
abbrev pub invariant-loop-place : goal.invariant-loop-place
invariant-loop-place l = (blank_line l.bytes ≡ line_at l.bytes l.place-iterator)
    × All (λ place. place < length l.bytes) l.place-iterator
