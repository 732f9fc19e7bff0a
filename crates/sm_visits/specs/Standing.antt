-- What stands at the front of what waits.
use Rattle.std.specs.Prelude.{◌≡◌, ℕ, ◌≤◌, List, length, drop}
use Rattle.sm_http.specs.Messages.{Message, IsMessage, StartsBadly, IsPartial}
use Rattle.sm_visits.specs.declared.standing.Standing.{Standing}
use Rattle.sm_visits.specs.declared.standing.Standing.TheVariants as standing

-- the answer is what the bytes begin with
abbrev pub Stands : List ℕ → Standing → Type 0
Stands bytes (standing.Message used closing) = (message : Message) × IsMessage bytes message (drop used bytes)
    × (message.closing ≡ closing) × (used ≤ length bytes)
Stands bytes (standing.Fault kind) = StartsBadly bytes kind
Stands bytes standing.Partial = IsPartial bytes
