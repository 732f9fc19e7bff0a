-- Labels by the ids of their versions, in the order of the ids.
use Rattle.std.specs.Prelude.{ℕ, List, [], ◌∷◌}
use Rattle.std.specs.Borrow.{Bor}
use Rattle.serde_json.specs.Data.{Members, no_members, member}
use Rattle.sm_reply.specs.Shown.{labels_shown}

abbrev pub staged_members : List (Bor (List ℕ) × Bor (List (List ℕ))) → Members
staged_members [] = no_members
staged_members (entry ∷ entries) = member entry.0.now (labels_shown entry.1.now) (staged_members entries)
