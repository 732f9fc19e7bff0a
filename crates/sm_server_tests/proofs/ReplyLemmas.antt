-- Lists of replies.
use Rattle.std.proofs.Common.{◌≡◌, ℕ, true, List, [], ◌∷◌, ◌++◌}
use Rattle.sm_agent.specs.Scripts.{AreReplies}
use Rattle.sm_agent.specs.Upstreams.{is_status}

pub one_more : (replies : List (ℕ × List ℕ)) (reply : ℕ × List ℕ) → AreReplies replies → is_status reply.0 ≡ true
    → AreReplies (replies ++ reply ∷ [])
one_more [] reply all here = (here, tt)
one_more (first ∷ replies) reply all here = (all.0, one_more replies reply all.1 here)
