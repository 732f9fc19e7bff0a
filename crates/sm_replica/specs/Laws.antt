-- A replica is a prefix: what holds of a replica that takes a primary's frames.
use Rattle.std.specs.Prelude.{ℕ, ◌+◌, ◌≤◌, List, length}
use Rattle.sm_replication.specs.declared.frame.Frame.{Frame}
use Rattle.sm_model.specs.declared.entry.Entry.{Entry}
use Rattle.sm_record.specs.declared.base.Base.{Base}
use Rattle.sm_replica.specs.Histories.{IsHistory, IsAt, AreFrom, IsOf, Step, TakesAll, EachOf, Climbs, held_after, frames_in, HasMemory}
use Rattle.sm_replica.specs.Shipping.{Ships}
use Rattle.std.specs.Prelude.{⊤, [], ◌∷◌}

-- Frames of a history, lost, repeated and in any order, leave a replica that held what so many first entries make with
-- what so many make, and never fewer; each answer tells how many.
abbrev pub FollowsHistory : Type 0
FollowsHistory = (history : List Entry) (n : ℕ) (old : Base) (steps : List Step) → IsHistory history
    → IsAt history n old → EachOf history steps → TakesAll old steps → Climbs history n steps

abbrev pub AllOf : List Entry → List Frame → Type 0
AllOf history [] = ⊤
AllOf history (frame ∷ frames) = IsOf history frame × AllOf history frames

-- The frames of an account tell of the history: its base is what so many first entries make, and its entries are the
-- next ones.
abbrev pub ShipsOfHistory : Type 0
ShipsOfHistory = (history : List Entry) (n : ℕ) (base : Base) (entries : List Entry) (position : ℕ)
    (frames : List Frame) → IsAt history n base → AreFrom history n entries → Ships base entries position frames
    → AllOf history frames

-- The frames of an account from a replica's position, all of them in order, bring it to the account's end, where the
-- replica is not past that and no memory is wanted.
abbrev pub CatchesUp : Type 0
CatchesUp = (history : List Entry) (n : ℕ) (base : Base) (entries : List Entry) (position : ℕ) (old : Base)
    (steps : List Step) → IsHistory history → IsAt history n base → AreFrom history n entries
    → IsAt history position old → position ≤ n + length entries → Ships base entries position (frames_in steps)
    → TakesAll old steps → HasMemory steps → IsAt history (n + length entries) (held_after old steps)
