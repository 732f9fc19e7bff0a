-- Runs of calls, each with its outcome.
use Rattle.std.specs.Prelude.{List}
use Rattle.sm_rotation.specs.Vouched.{Replies}
use Rattle.sm_drive.specs.Stands.{Stand}
use Rattle.sm_drive.specs.Steps.{Goes}
use Rattle.sm_drive.specs.Turns.{InTurn}
use Rattle.sm_drive.specs.declared.call.Call.{Call}
use Rattle.sm_drive.specs.declared.outcome.Outcome.{Outcome}

-- one call after the other, and one outcome a call
abbrev pub Runs : Replies → List Call → List Outcome → Stand → Stand → Type 0
Runs replies calls outs first last = InTurn (Goes replies) calls outs first last
