-- Replies that are counted one after the other.
use Rattle.std.proofs.Common.{◌≡◌, ◌+◌, ◌==◌, if◌then◌else◌, List, [], ◌∷◌, ◌++◌, length, slice_get, Some, refl, arith}
use Rattle.sm_reply.specs.Shown.{Answered}
use Rattle.sm_drill.specs.Lines.{refused_count}

-- one reply more
pub refused_push : (replies : List Answered) (reply : Answered)
    → refused_count (replies ++ reply ∷ []) ≡ refused_count replies + (if reply.status == 200 then 0 else 1)
refused_push [] reply = omega arith
refused_push (r ∷ rs) reply = omega (arith, refused_push rs reply)

-- the reply behind these
pub got_last : (replies : List Answered) (reply : Answered)
    → slice_get (replies ++ reply ∷ []) (length replies) ≡ Some reply
got_last [] reply = refl
got_last (r ∷ rs) reply = got_last rs reply
