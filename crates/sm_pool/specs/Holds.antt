-- What a rotation turn does in one hold of the account.
-- AWS Secrets Manager User Guide: "Lambda rotation functions", "Rotation schedules".
use Rattle.std.specs.Prelude.{◌≡◌, ⊤, ℕ, Bool, true, false, List, [], ◌∷◌, ◌++◌, None, IsSomeAnd}
use Rattle.sm_base.specs.declared.moment.Moment.{Moment}
use Rattle.sm_model.specs.declared.entry.Answer.{Answer}
use Rattle.sm_model.specs.declared.entry.Mark.{Mark}
use Rattle.sm_model.specs.declared.entry.Mark.TheVariants.{Claim}
use Rattle.sm_claims.specs.Due.{has_due}
use Rattle.sm_claims.specs.Works.{IsWorkOf}
use Rattle.sm_core.specs.Histories.{later}
use Rattle.sm_rotator.specs.declared.work.Work.{Work}
use Rattle.sm_account.specs.declared.report.Reported.{Reported}
use Rattle.sm_account.specs.declared.start_due.StartedDue.{StartedDue}
use Rattle.sm_account.specs.Claims.{ready_at}
use Rattle.sm_account.specs.CallOutcomes.{CallOutcome, marks_by}
use Rattle.sm_account.specs.History.{by_seat}
use Rattle.sm_account.specs.Report.{ReportsAs, report_at, reported_by}
use Rattle.sm_account.specs.StartDue.{StartsAs, start_at, started_by}
use Rattle.sm_account.specs.States.{Base, State, state_at}
use Rattle.sm_account.specs.SeatTraces.{History, Shape}
use Rattle.sm_table.specs.Sound.{Sound}
use Rattle.sm_pool.specs.declared.holds.Found.{Found}
use Rattle.sm_pool.specs.Found.{FoundAs, found_by}

-- the history before a hold, the clock's reading in it, and the marks that it added
pub record Hold : Type 0 where
  pub before : History
  pub now : Moment
  pub marks : List Mark

abbrev pub hold_shape : Shape Hold
hold_shape = record { before = λ hold. hold.before; marks = λ hold. hold.marks }

-- the state at a hold, and the moment: the greater of the last entry's and the reading
abbrev pub state_in : Base → Hold → State
state_in base hold = state_at base hold.before

abbrev pub moment_in : Base → Hold → Moment
moment_in base hold = later (state_in base hold).last hold.now

-- whether some rotation is due there
abbrev pub is_due_in : Base → Hold → Bool
is_due_in base hold = has_due (state_in base hold).rows.secrets (moment_in base hold)

-- no step is ready there, and nothing was added
abbrev pub FindsNothing : Base → Hold → Type 0
FindsNothing base hold = (ready_at base hold.before (moment_in base hold) ≡ None) × (hold.marks ≡ [])

-- the first step that is ready there was claimed, and this is its work, with the values as they stand
abbrev pub FindsWork : Base → Hold → Work → Type 0
FindsWork base hold work =
    IsSomeAnd (ready_at base hold.before (moment_in base hold)) (λ row. IsWorkOf row work)
    × (hold.marks ≡ Claim work.arn work.at (moment_in base hold) ∷ [])

-- the start of a due rotation with these random bytes came to this there
abbrev pub StartsIn : Base → Hold → List ℕ → StartedDue → Type 0
StartsIn base hold drawn started =
    let wanted = start_at (state_in base hold) hold.now drawn in
    StartsAs started wanted × (hold.marks ≡ marks_by (started_by started wanted))

-- the report of an answer to the work came to this there
abbrev pub ReportsIn : Base → Hold → Work → Answer → Reported → Type 0
ReportsIn base hold work answer reported =
    let wanted = report_at (state_in base hold) hold.now work answer in
    ReportsAs reported wanted × (hold.marks ≡ marks_by (reported_by reported wanted))

-- A hold of a seat between what it had seen and what it has seen then: a gap lies before it, and its marks behind it.
pub record HeldAt (gap : History → History → Type 0) (seat : ℕ) (from to : History) (hold : Hold) : Type 0 where
  pub comes : gap from hold.before
  pub stands : to ≡ hold.before ++ by_seat seat hold.marks

-- the hold with the mark of this outcome
abbrev pub hold_of : History → Moment → CallOutcome → Hold
hold_of before now call_outcome = record { before = before; now = now; marks = marks_by call_outcome }

-- such holds at an account that was opened over the base
module _ (base : Base) (gap : History → History → Type 0) (seat : ℕ) (from to : History) (now : Moment) where
  -- in which somebody looked what there is to do
  pub record LookHeld (found : Found) : Type 0 where
    pub before : History
    pub sound : Sound (state_at base before).rows
    pub finds : FoundAs base before (later (state_at base before).last now) found
    pub held : HeldAt gap seat from to (hold_of before now (found_by found (later (state_at base before).last now)))

  -- in which a due rotation was to be started with these random bytes
  pub record StartHeld (drawn : List ℕ) (started : StartedDue) : Type 0 where
    pub before : History
    pub starts : StartsAs started (start_at (state_at base before) now drawn)
    pub held : HeldAt gap seat from to
        (hold_of before now (started_by started (start_at (state_at base before) now drawn)))

  -- in which an answer to the work was reported
  pub record ReportHeld (work : Work) (answer : Answer) (reported : Reported) : Type 0 where
    pub before : History
    pub reports : ReportsAs reported (report_at (state_at base before) now work answer)
    pub held : HeldAt gap seat from to
        (hold_of before now (reported_by reported (report_at (state_at base before) now work answer)))
