-- The rotation turns behind a message: one after the other, on an account that nobody else holds, until there is
-- nothing
-- to do, one cannot go on, or as many were taken as are taken at most.
use Rattle.std.specs.Prelude.{◌≡◌, ⊤, ℕ, ◌<◌, ◌≤◌, Bool, true, false, List, [], ◌∷◌, ◌++◌, length, Option, Some, None}
use Rattle.sm_base.specs.Faults.{Rose}
use Rattle.sm_model.specs.declared.entry.Mark.{Mark}
use Rattle.sm_rotation.specs.Vouched.{Replies}
use Rattle.sm_rotator.specs.declared.told.Told.{Told}
use Rattle.sm_account.specs.States.{Base}
use Rattle.sm_account.specs.SeatTraces.{History, SeatTrace, marks_in, NoGap}
use Rattle.sm_pool.specs.declared.done.Done.{Done}
use Rattle.sm_pool.specs.declared.done.Done.TheVariants as ends
use Rattle.sm_pool.specs.Alone.{OnDisk}
use Rattle.sm_pool.specs.Holds.{Hold, hold_shape}
use Rattle.sm_pool.specs.Turns.{Course, IsCourse, RotatorFailed, RandomSourceFailed, asks_of, done_of, drawn_of, holds_of, readings_of}

-- whether a turn made an entry, so that another follows
abbrev pub goes_on : Done → Bool
goes_on (ends.Did arn at) = true
goes_on (ends.Started arn) = true
goes_on ends.Idle = false
goes_on (ends.Stale at) = false
goes_on (ends.Trouble trouble) = false

-- a turn found nothing to do, or could not go on
abbrev pub ComesToRest : Done → Type 0
ComesToRest (ends.Did arn at) = ⊥
ComesToRest (ends.Started arn) = ⊥
ComesToRest ends.Idle = ⊤
ComesToRest (ends.Stale at) = ⊥
ComesToRest (ends.Trouble trouble) = ⊤

-- how often the disk, the random source and the rotator have failed
pub record Counts : Type 0 where
  pub disk : ℕ
  pub words : ℕ
  pub rotator : ℕ

-- a point between two turns
pub record Point : Type 0 where
  pub history : History
  pub counts : Counts

-- the readings of the clock that turns had
abbrev pub readings_in : List Course → List ℕ
readings_in [] = []
readings_in (course ∷ courses) = readings_of (holds_of course) ++ readings_in courses

-- the random bytes that they drew
abbrev pub drawn_in : List Course → List ℕ
drawn_in [] = []
drawn_in (course ∷ courses) = drawn_of course ++ drawn_in courses

-- what their rotator was asked for
abbrev pub asks_in : List Course → List Told
asks_in [] = []
asks_in (course ∷ courses) = asks_of course ++ asks_in courses

-- how many turns are taken in a round at most
abbrev pub turn_limit : ℕ
turn_limit = 100

-- no count fell
pub record NoneFell (from to : Counts) : Type 0 where
  pub disk : from.disk ≤ to.disk
  pub words : from.words ≤ to.words
  pub rotator : from.rotator ≤ to.rotator

module _ (replies : Replies) (base : Base) (seat : ℕ) where
  -- One turn of a seat from one point to another. Each fault comes only where its count rose.
  pub record Turned (from : Point) (course : Course) (to : Point) : Type 0 where
    pub is : IsCourse replies base course
    pub seat_trace : SeatTrace hold_shape NoGap seat (λ hold. ⊤) from.history (holds_of course) to.history
    pub disk : OnDisk (done_of course) (Rose from.counts.disk to.counts.disk)
    pub words : RandomSourceFailed course (Rose from.counts.words to.counts.words)
    pub rotator : RotatorFailed course (Rose from.counts.rotator to.counts.rotator)
    pub later : NoneFell from.counts to.counts

  -- turns that each made an entry, one after the other
  abbrev pub TurnedOn : Point → List Course → Point → Type 0
  TurnedOn from [] to = to ≡ from
  TurnedOn from (course ∷ courses) to =
      (next : Point) × Turned from course next × (goes_on (done_of course) ≡ true) × TurnedOn next courses to

  -- the end of so many such turns: as many as are taken at most, or one more that came to rest
  abbrev pub EndsRound : ℕ → Point → Option Course → Point → Type 0
  EndsRound turned at None to = (turned ≡ turn_limit) × (to ≡ at)
  EndsRound turned at (Some last) to = (turned < turn_limit) × Turned at last to × ComesToRest (done_of last)

-- the turns that each made an entry, and the one that came to rest, if there is one
pub record Round : Type 0 where
  pub on : List Course
  pub last : Option Course

abbrev pub last_in : Option Course → List Course
last_in None = []
last_in (Some course) = course ∷ []

abbrev pub courses_in : Round → List Course
courses_in round = round.on ++ last_in round.last

-- a round of a seat from one point to another
pub record Rotated (replies : Replies) (base : Base) (seat : ℕ) (from : Point) (round : Round) (to : Point) : Type 0
  where
    pub at : Point
    pub turned : TurnedOn replies base seat from round.on at
    pub ends : EndsRound replies base seat (length round.on) at round.last to

-- the holds of turns, one after the other
abbrev pub holds_in : List Course → List Hold
holds_in [] = []
holds_in (course ∷ courses) = holds_of course ++ holds_in courses

-- the marks that a round leaves
abbrev pub marks_of : Round → List Mark
marks_of round = marks_in hold_shape (holds_in (courses_in round))
