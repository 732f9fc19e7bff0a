-- Rotation turns: at most one step of a rotation, or the start of one that is due.
-- AWS Secrets Manager User Guide: "Lambda rotation functions", "Rotation schedules".
use Rattle.std.specs.Prelude.{◌≡◌, ⊤, ℕ, true, false, List, [], ◌∷◌, ◌++◌, length, Option}
use Rattle.std.specs.Io.KnownBytes.{append_known}
use Rattle.sm_base.specs.Faults.{Rose}
use Rattle.sm_model.specs.declared.entry.Answer.{Answer}
use Rattle.sm_model.specs.declared.entry.Answer.TheVariants as answers
use Rattle.sm_rotation.specs.Vouched.{Replies}
use Rattle.sm_rotator.specs.declared.work.Work.{Work}
use Rattle.sm_rotator.specs.declared.told.Told.{Told}
use Rattle.sm_account.specs.declared.report.Reported.{Reported}
use Rattle.sm_account.specs.declared.report.Reported.TheVariants as reports
use Rattle.sm_account.specs.declared.start_due.StartedDue.{StartedDue}
use Rattle.sm_account.specs.History.{by_seat, entries_in}
use Rattle.sm_account.specs.States.{Base}
use Rattle.sm_pool.specs.declared.done.Done.{Done}
use Rattle.sm_pool.specs.declared.done.Done.TheVariants as ends
use Rattle.sm_pool.specs.declared.done.Trouble.{Trouble}
use Rattle.sm_pool.specs.declared.done.Trouble.TheVariants as troubles
use Rattle.sm_account.specs.SeatTraces.{History, SeatTrace}
use Rattle.sm_pool.specs.Asking.{Asking, Asks}
use Rattle.sm_pool.specs.Ends.{due_ends, report_ends}
use Rattle.sm_pool.specs.Holds.{Hold, FindsNothing, FindsWork, ReportsIn, StartsIn, hold_shape, is_due_in}

-- what an object of the outside told before and after, where it tells something
pub record Telling : Type 0 where
  pub before : Option (List ℕ)
  pub after : Option (List ℕ)

-- how often an object of the outside had failed, before and after
pub record Count : Type 0 where
  pub before : ℕ
  pub after : ℕ

abbrev pub HasRisen : Count → Type 0
HasRisen count = Rose count.before count.after

-- it told this
abbrev pub Tells : Telling → List ℕ → Type 0
Tells telling told = telling.after ≡ append_known telling.before told

abbrev pub readings_of : List Hold → List ℕ
readings_of [] = []
readings_of (hold ∷ holds) = hold.now.0 ∷ readings_of holds

-- ---- a work whose step is claimed

-- The rotator was not asked, where memory ran out; or it gave an answer, which was reported in a hold.
pub data WorkCourse : Type 0 where
  Unasked : WorkCourse
  Asked : Answer → Hold → Reported → WorkCourse

-- the answer is one that the rotator may give to the work
abbrev pub IsWorkCourse : Replies → Base → Work → WorkCourse → Type 0
IsWorkCourse replies base work Unasked = ⊤
IsWorkCourse replies base work (Asked answer hold reported) =
    (replies work.arn work.at work.current work.pending answer ≡ true) × ReportsIn base hold work answer reported

abbrev pub work_holds : WorkCourse → List Hold
work_holds Unasked = []
work_holds (Asked answer hold reported) = hold ∷ []

abbrev pub work_ends : Work → WorkCourse → Done
work_ends work Unasked = ends.Trouble troubles.Memory
work_ends work (Asked answer hold reported) = report_ends work reported

-- what the rotator was asked for
abbrev pub work_asks : Work → WorkCourse → List Told
work_asks work Unasked = []
work_asks work (Asked answer hold reported) = record { work = work; answer = answer } ∷ []

-- a fact where the rotator answered that it failed
abbrev pub WorkFailed : WorkCourse → Type 0 → Type 0
WorkFailed Unasked P = ⊤
WorkFailed (Asked answer hold reported) P = answer ≡ answers.Failed → P

-- The course of a work: it ends so, the clock told these readings, the rotator was asked for this work once, or not at
-- all, and it failed only where its count rose.
pub record DoesWork (replies : Replies) (base : Base) (work : Work) (clock : Telling) (asking : Asking)
    (rotator : Count) (course : WorkCourse) (done : Done) : Type 0 where
  pub is : IsWorkCourse replies base work course
  pub done_is : done ≡ work_ends work course
  pub readings : Tells clock (readings_of (work_holds course))
  pub asks : Asks asking (work_asks work course)
  pub failed : WorkFailed course (HasRisen rotator)

-- A work between what a seat had seen and what it has seen then, with these gaps around its holds.
pub record WorkDone (replies : Replies) (base : Base) (gap : History → History → Type 0) (seat : ℕ) (work : Work)
    (clock : Telling) (asking : Asking) (rotator : Count) (from to : History) (done : Done) : Type 0 where
  pub course : WorkCourse
  pub does : DoesWork replies base work clock asking rotator course done
  pub seat_trace : SeatTrace hold_shape gap seat (λ hold. ⊤) from (work_holds course) to

-- ---- a due rotation

-- No random bytes were drawn; or some were, and the rotation that is due for their token was to be started in a hold.
pub data StartCourse : Type 0 where
  Undrawn : Trouble → StartCourse
  Begins : List ℕ → Hold → StartedDue → StartCourse

-- a draw that gives no random bytes has failed, or wants memory
abbrev pub IsOfDraw : Trouble → Type 0
IsOfDraw troubles.Disk = ⊥
IsOfDraw troubles.Words = ⊤
IsOfDraw troubles.Memory = ⊤
IsOfDraw (troubles.Limit limit) = ⊥

abbrev pub IsStartCourse : Base → StartCourse → Type 0
IsStartCourse base (Undrawn trouble) = IsOfDraw trouble
IsStartCourse base (Begins drawn hold started) = (length drawn ≡ 16) × StartsIn base hold drawn started

abbrev pub start_holds : StartCourse → List Hold
start_holds (Undrawn trouble) = []
start_holds (Begins drawn hold started) = hold ∷ []

abbrev pub start_drawn : StartCourse → List ℕ
start_drawn (Undrawn trouble) = []
start_drawn (Begins drawn hold started) = drawn

abbrev pub start_ends : StartCourse → Done
start_ends (Undrawn trouble) = ends.Trouble trouble
start_ends (Begins drawn hold started) = due_ends started

-- a fact where the random source failed
abbrev pub OnRandom : Trouble → Type 0 → Type 0
OnRandom troubles.Disk P = ⊤
OnRandom troubles.Words P = P
OnRandom troubles.Memory P = ⊤
OnRandom (troubles.Limit limit) P = ⊤

abbrev pub StartFailed : StartCourse → Type 0 → Type 0
StartFailed (Undrawn trouble) P = OnRandom trouble P
StartFailed (Begins drawn hold started) P = ⊤

-- The course of a start: it ends so, these readings and random bytes were told, and the random source failed only where
-- its count rose.
pub record StartsOne (base : Base) (clock words : Telling) (failures : Count) (course : StartCourse) (done : Done)
    : Type 0 where
  pub is : IsStartCourse base course
  pub done_is : done ≡ start_ends course
  pub readings : Tells clock (readings_of (start_holds course))
  pub drawn : Tells words (start_drawn course)
  pub failed : StartFailed course (HasRisen failures)

-- a start between what a seat had seen and what it has seen then
pub record StartDone (base : Base) (gap : History → History → Type 0) (seat : ℕ) (clock words : Telling)
    (failures : Count) (from to : History) (done : Done) : Type 0 where
  pub course : StartCourse
  pub starts : StartsOne base clock words failures course done
  pub seat_trace : SeatTrace hold_shape gap seat (λ hold. ⊤) from (start_holds course) to

-- ---- a turn

-- In a first hold memory was wanted; or nothing was ready, and no rotation due; or some was due; or a step was claimed.
pub data Course : Type 0 where
  Wants : Hold → Course
  Rests : Hold → Course
  Starts : Hold → StartCourse → Course
  Works : Hold → Work → WorkCourse → Course

abbrev pub IsCourse : Replies → Base → Course → Type 0
IsCourse replies base (Wants hold) = hold.marks ≡ []
IsCourse replies base (Rests hold) = FindsNothing base hold × (is_due_in base hold ≡ false)
IsCourse replies base (Starts hold course) =
    FindsNothing base hold × (is_due_in base hold ≡ true) × IsStartCourse base course
IsCourse replies base (Works hold work course) = FindsWork base hold work × IsWorkCourse replies base work course

-- the holds of a turn, one after the other
abbrev pub holds_of : Course → List Hold
holds_of (Wants hold) = hold ∷ []
holds_of (Rests hold) = hold ∷ []
holds_of (Starts hold course) = hold ∷ start_holds course
holds_of (Works hold work course) = hold ∷ work_holds course

abbrev pub drawn_of : Course → List ℕ
drawn_of (Wants hold) = []
drawn_of (Rests hold) = []
drawn_of (Starts hold course) = start_drawn course
drawn_of (Works hold work course) = []

-- what the rotator was asked for
abbrev pub asks_of : Course → List Told
asks_of (Wants hold) = []
asks_of (Rests hold) = []
asks_of (Starts hold course) = []
asks_of (Works hold work course) = work_asks work course

-- what a turn did
abbrev pub done_of : Course → Done
done_of (Wants hold) = ends.Trouble troubles.Memory
done_of (Rests hold) = ends.Idle
done_of (Starts hold course) = start_ends course
done_of (Works hold work course) = work_ends work course

abbrev pub RotatorFailed : Course → Type 0 → Type 0
RotatorFailed (Wants hold) P = ⊤
RotatorFailed (Rests hold) P = ⊤
RotatorFailed (Starts hold course) P = ⊤
RotatorFailed (Works hold work course) P = WorkFailed course P

abbrev pub RandomSourceFailed : Course → Type 0 → Type 0
RandomSourceFailed (Wants hold) P = ⊤
RandomSourceFailed (Rests hold) P = ⊤
RandomSourceFailed (Starts hold course) P = StartFailed course P
RandomSourceFailed (Works hold work course) P = ⊤

-- what passes between a turn and the outside: what the clock and the random source tell, and how often the random
-- source and the rotator have failed
pub record Passing : Type 0 where
  pub clock : Telling
  pub words : Telling
  pub words_count : Count
  pub rotator_count : Count

-- The course of a turn: it ends so; these readings and random bytes were told, each once and in order; and the rotator
-- and the random source failed only where their counts rose.
pub record TakesTurn (replies : Replies) (base : Base) (passing : Passing) (course : Course) (done : Done)
    : Type 0 where
  pub is : IsCourse replies base course
  pub done_is : done ≡ done_of course
  pub readings : Tells passing.clock (readings_of (holds_of course))
  pub drawn : Tells passing.words (drawn_of course)
  pub rotator : RotatorFailed course (HasRisen passing.rotator_count)
  pub words : RandomSourceFailed course (HasRisen passing.words_count)

-- the verdict on a work came too late
abbrev pub IsLate : Reported → Type 0
IsLate reports.Moved = ⊥
IsLate (reports.Stale at) = Unit {0}
IsLate (reports.Limit limit) = ⊥
IsLate reports.DiskFault = ⊥
IsLate reports.Memory = ⊥

-- A verdict comes too late only where the history has more entries at its hold than behind the hold in which its step
-- was claimed. What lies between the two is the gap's, so it is an entry of another seat.
abbrev pub LateBehind : History → WorkCourse → Type 0
LateBehind claimed Unasked = ⊤
LateBehind claimed (Asked answer hold reported) = IsLate reported → entries_in hold.before ≡ entries_in claimed → ⊥

abbrev pub LateApart : ℕ → Course → Type 0
LateApart seat (Wants hold) = ⊤
LateApart seat (Rests hold) = ⊤
LateApart seat (Starts hold course) = ⊤
LateApart seat (Works hold work course) = LateBehind (hold.before ++ by_seat seat hold.marks) course

-- A turn of a seat, between what it had seen and what it has seen then, with these gaps around its holds. Nothing else
-- stands in the history under the seat.
pub record TurnDone (replies : Replies) (base : Base) (gap : History → History → Type 0) (seat : ℕ) (passing : Passing)
    (from to : History) (done : Done) : Type 0 where
  pub course : Course
  pub takes : TakesTurn replies base passing course done
  pub seat_trace : SeatTrace hold_shape gap seat (λ hold. ⊤) from (holds_of course) to
  pub late : LateApart seat course

-- a turn, and what its rotator was asked for: the work of the step that it claimed, once, or nothing
abbrev pub TurnAsks : Replies → Base → (History → History → Type 0) → ℕ → Passing → Asking → History → History → Done
    → Type 0
TurnAsks replies base gap seat passing asking from to done =
    (turn : TurnDone replies base gap seat passing from to done) × Asks asking (asks_of turn.course)
