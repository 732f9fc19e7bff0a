-- What a call comes to, by the rules of the account's own call.
use Rattle.std.specs.Prelude.{Bool, true, false, if◌then◌else◌, Option, Some, None, slice_get}
use Rattle.sm_base.specs.declared.moment.Moment.{Moment}
use Rattle.sm_model.specs.declared.entry.Entry.{Entry}
use Rattle.sm_model.specs.declared.rows.SecretRow.{SecretRow}
use Rattle.sm_model.specs.declared.why.Why.{Why}
use Rattle.sm_model.specs.declared.why.Why.TheVariants as whys
use Rattle.sm_rotator.specs.declared.told.Told.{Told}
use Rattle.sm_core.specs.Histories.{later}
use Rattle.sm_account.specs.Claims.{ready_at}
use Rattle.sm_account.specs.Efforts.{Effort, Undue, Over, Due as due}
use Rattle.sm_account.specs.Outcome.{Outcome as ends, Refuses, Replies, outcome}
use Rattle.sm_account.specs.Report.{report_at}
use Rattle.sm_account.specs.StartDue.{start_at}
use Rattle.sm_account.specs.States.{State}
use Rattle.sm_drive.specs.Stands.{Stand, base_at, state_here}
use Rattle.sm_drive.specs.declared.call.Call.{Call}
use Rattle.sm_drive.specs.declared.call.Call.TheVariants.{Handle, Work, Report, Due, Restart}
use Rattle.sm_drive.specs.declared.outcome.Outcome.{Outcome}
use Rattle.sm_drive.specs.declared.outcome.Outcome.TheVariants.{Quiet, Refused, Stale, Limit, Nothing}

-- An entry is due; or a step of this secret's rotation is ready at the moment; or the account is opened again; or
-- nothing is done, with this outcome.
pub data Aim : Type 0 where
  Enters : Entry → Aim
  Claims : SecretRow → Moment → Aim
  Reopens : Aim
  Stops : Outcome → Aim

abbrev pub is_limit : Why → Bool
is_limit (whys.Limit most what) = true
is_limit why = false

-- a refusal by a limit is told apart
abbrev pub refused_as : Why → Outcome
refused_as why = if is_limit why then Limit else Refused

-- a request: its entry, or a reply that needs none, or a refusal
abbrev pub aim_asked : ends → Aim
aim_asked (Replies reply (Some entry)) = Enters entry
aim_asked (Replies reply None) = Stops Quiet
aim_asked (Refuses why) = Stops (refused_as why)

-- a claim of the step that is ready, if there is one
abbrev pub aim_ready : Option SecretRow → Moment → Aim
aim_ready (Some row) moment = Claims row moment
aim_ready None moment = Stops Nothing

-- an entry that is due, or none is, with this outcome, or it would pass a limit
abbrev pub aim_within : {A : Type 0} → Outcome → Effort A → Aim
aim_within undue (Undue why) = Stops undue
aim_within undue (Over passed) = Stops Limit
aim_within undue (due entry) = Enters entry

-- the verdict that was kept, if there is one, as it holds now
abbrev pub aim_told : State → Moment → Option Told → Aim
aim_told state now None = Stops Nothing
aim_told state now (Some told) = aim_within Stale (report_at state now told.work told.answer)

abbrev pub aim : Stand → Call → Aim
aim stand (Handle person now drawn request) =
    aim_asked (outcome (state_here stand)
    (record { person = person; now = now; drawn = drawn; request = request }))
aim stand (Work now) =
    let moment = later (state_here stand).last now in
    aim_ready (ready_at (base_at stand) stand.history moment) moment
aim stand (Report place now) = aim_told (state_here stand) now (slice_get stand.kept place)
aim stand (Due now drawn) = aim_within Nothing (start_at (state_here stand) now drawn)
aim stand Restart = Reopens
