-- The start of a rotation that is due.
-- AWS Secrets Manager User Guide: "Rotation schedules".
use Rattle.std.specs.Prelude.{◌≡◌, ⊤, ℕ, true, List, [], Option, Some, None}
use Rattle.sm_base.specs.Drawn.{drawn_token}
use Rattle.sm_base.specs.declared.moment.Moment.{Moment}
use Rattle.sm_model.specs.declared.entry.Act.TheVariants.{Begun}
use Rattle.sm_model.specs.declared.entry.Entry.{Entry}
use Rattle.sm_model.specs.declared.rows.SecretRow.{SecretRow}
use Rattle.sm_claims.specs.Due.{first_due}
use Rattle.sm_core.specs.Histories.{later}
use Rattle.sm_account.specs.declared.start_due.DueStart.{DueStart}
use Rattle.sm_account.specs.declared.start_due.StartedDue.{StartedDue}
use Rattle.sm_account.specs.declared.start_due.StartedDue.TheVariants as started
use Rattle.sm_account.specs.CallOutcomes.{CallOutcome, Nothing, Made, Failed}
use Rattle.sm_account.specs.Efforts.{Effort, Undue, Over, Due, effort_within}
use Rattle.sm_account.specs.Limits.{passed_at}
use Rattle.sm_account.specs.States.{State}

-- the entry that starts the rotation of the secret with this ARN
abbrev pub begun_entry : Moment → List ℕ → List ℕ → Entry
begun_entry moment drawn arn =
    record { moment = moment; caller = []; by = []; drawn = drawn; act = Begun arn; prunes = true }

-- the start of the rotation of this secret
abbrev pub start_for : Moment → List ℕ → SecretRow → DueStart
start_for moment drawn row = record { arn = row.arn; entry = begun_entry moment drawn row.arn }

-- the first secret that is due for the token of the random bytes, in order of creation
abbrev pub due_at : State → Moment → List ℕ → Option SecretRow
due_at state moment drawn = first_due state.rows.secrets moment (drawn_token drawn)

-- nothing is due, or the rotation of this secret
abbrev pub start_of : State → Moment → List ℕ → Option SecretRow → Effort (Unit {0})
start_of state moment drawn None = Undue tt
start_of state moment drawn (Some row) =
    let entry = begun_entry moment drawn row.arn in effort_within (passed_at state entry) entry

-- what a start comes to at a reading of the clock
abbrev pub start_at : State → Moment → List ℕ → Effort (Unit {0})
start_at state now drawn =
    let moment = later state.last now in start_of state moment drawn (due_at state moment drawn)

-- the ARN is that of the entry
abbrev pub Starts : List ℕ → Entry → Type 0
Starts arn entry = entry.act ≡ Begun arn

-- The answer is what the start comes to; the disk fails only where an entry is due; memory may be wanted.
abbrev pub StartsAs : StartedDue → Effort (Unit {0}) → Type 0
StartsAs (started.Started arn) (Due entry) = Starts arn entry
StartsAs (started.Started arn) (Undue none) = ⊥
StartsAs (started.Started arn) (Over passed) = ⊥
StartsAs started.None (Undue none) = ⊤
StartsAs started.None (Due entry) = ⊥
StartsAs started.None (Over passed) = ⊥
StartsAs (started.Limit limit) (Over passed) = limit ≡ passed.limit
StartsAs (started.Limit limit) (Undue none) = ⊥
StartsAs (started.Limit limit) (Due entry) = ⊥
StartsAs started.DiskFault (Due entry) = ⊤
StartsAs started.DiskFault (Undue none) = ⊥
StartsAs started.DiskFault (Over passed) = ⊥
StartsAs started.Memory wanted = ⊤

-- what an answer did with the entry that is due
abbrev pub started_by : StartedDue → Effort (Unit {0}) → CallOutcome
started_by (started.Started arn) (Due entry) = Made entry
started_by started.DiskFault (Due entry) = Failed entry
started_by answer wanted = Nothing
