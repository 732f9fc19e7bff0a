-- Calls that make one entry at most.
use Rattle.std.specs.Prelude.{Option, Some, None}
use Rattle.sm_model.specs.declared.entry.Entry.{Entry}
use Rattle.sm_account.specs.declared.entering.Passed.{Passed}

-- What such a call comes to: no entry is due, for a reason; one would pass a limit; or one is due.
pub data Effort (A : Type 0) : Type 0 where
  Undue : A → Effort A
  Over : Passed → Effort A
  Due : Entry → Effort A

-- an entry is due unless it would pass a limit
abbrev pub effort_within : {A : Type 0} → Option Passed → Entry → Effort A
effort_within None entry = Due entry
effort_within (Some passed) entry = Over passed
