-- The limits that one entry more would pass.
-- AWS Secrets Manager User Guide: "AWS Secrets Manager quotas".
use Rattle.std.specs.Prelude.{◌≡◌, ⊤, ◌+◌, nat_lt, if◌then◌else◌, Option, Some, None, Result, Ok, Err}
use Rattle.sm_base.specs.declared.memory.NoMemory.{NoMemory}
use Rattle.sm_model.specs.declared.entry.Entry.{Entry}
use Rattle.sm_base.specs.declared.limits.TheConstants.{ENTRIES_LIMIT}
use Rattle.sm_model.specs.declared.why.What.TheVariants.{Entries, JournalBytes}
use Rattle.sm_model.specs.declared.why.Why.{Why}
use Rattle.sm_model.specs.declared.why.Why.TheVariants as whys
use Rattle.sm_account.specs.declared.entering.Entered.{Entered}
use Rattle.sm_account.specs.declared.entering.Entered.TheVariants as ends
use Rattle.sm_account.specs.declared.entering.Passed.{Passed}
use Rattle.sm_account.specs.CallOutcomes.{CallOutcome, Nothing, Made, Failed}
use Rattle.sm_account.specs.Outcome.{is_full}
use Rattle.sm_account.specs.States.{State, size_of}

-- so many entries, or else so long a journal
abbrev pub passed_at : State → Entry → Option Passed
passed_at state entry =
    if is_full state then Some (record { limit = ENTRIES_LIMIT; what = Entries })
    else (if nat_lt state.limit (state.bytes + size_of entry)
    then Some (record { limit = state.limit; what = JournalBytes })
    else None)

-- the refusal of a request by such a limit
abbrev pub why_passed : Option Passed → Option Why
why_passed None = None
why_passed (Some passed) = Some (whys.Limit passed.limit passed.what)

-- an entry is made, or the disk fails at it, only where it passes no limit
abbrev pub EntersAs : Entered → Option Passed → Type 0
EntersAs ends.Made None = ⊤
EntersAs ends.Made (Some passed) = ⊥
EntersAs (ends.Over passed) None = ⊥
EntersAs (ends.Over passed) (Some wanted) = passed ≡ wanted
EntersAs ends.DiskFault None = ⊤
EntersAs ends.DiskFault (Some passed) = ⊥

-- what was done with the entry
abbrev pub entered_by : Entered → Entry → CallOutcome
entered_by ends.Made entry = Made entry
entered_by (ends.Over passed) entry = Nothing
entered_by ends.DiskFault entry = Failed entry

abbrev pub tried_entry : Result Entered NoMemory → Entry → CallOutcome
tried_entry (Ok entered) entry = entered_by entered entry
tried_entry (Err e) entry = Nothing
