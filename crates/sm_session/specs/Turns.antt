-- What one message brings: its reply, what the clock and the random source told for it, and the marks that it leaves in
-- the history.
use Rattle.std.specs.Prelude.{◌≡◌, ℕ, ◌<◌, ◌⊎◌, List, [], ◌∷◌, length, Option, Some, None, IsSome, Result, Ok, Err}
use Rattle.sm_model.specs.declared.entry.Entry.{Entry as entries}
use Rattle.sm_model.specs.declared.entry.Mark.{Mark}
use Rattle.sm_model.specs.declared.entry.Mark.TheVariants.{Entry, Fault}
use Rattle.sm_model.specs.declared.why.Why.{Why}
use Rattle.sm_model.specs.declared.why.Why.TheVariants as whys
use Rattle.sm_model.specs.Needed.{needed}
use Rattle.sm_account.specs.States.{Base}
use Rattle.sm_reply.specs.Shown.{Answered, refused}
use Rattle.sm_account.specs.SeatTraces.{History}
use Rattle.sm_session.specs.Answer.{Asked, Answer, answer_asked}
use Rattle.sm_session.specs.Replies.{unavailable}
use Rattle.sm_session.specs.Told.{Told, nothing_told}

-- what one message brought: what was told for it, its reply, and its marks
pub record Turn : Type 0 where
  pub told : Told
  pub reply : Answered
  pub marks : List Mark

-- the entry of an answer, as marks
abbrev pub entry_marks : Option entries → List Mark
entry_marks None = []
entry_marks (Some entry) = Entry entry ∷ []

-- What became of a request that reached the account, whose answer is the model's. A cause holds where the disk failed.
module _ (Cause : Type 0) (answer : Answer) (reply : Answered) (marks : List Mark) where
  -- the model's reply, and its entry
  abbrev pub IsGiven : Type 0
  IsGiven = (reply ≡ answer.reply) × (marks ≡ entry_marks answer.entry)

  -- the disk failed where the model's entry was to be written
  abbrev pub LeavesFault : Type 0
  LeavesFault = IsSome answer.entry × Cause × (marks ≡ Fault ∷ [])

  -- the reply to that
  abbrev pub IsDiskFault : Type 0
  IsDiskFault = (reply ≡ refused whys.DiskFault) × LeavesFault

  -- there was no memory: the entry was made, or the disk failed there, or neither
  abbrev pub IsLost : Type 0
  IsLost = (reply ≡ unavailable) × ((marks ≡ entry_marks answer.entry) ⊎ (LeavesFault ⊎ (marks ≡ [])))

  abbrev pub AnswersBy : Type 0
  AnswersBy = IsGiven ⊎ (IsDiskFault ⊎ IsLost)

-- the model's answer at a told reading and with as many told bytes as the request needs
pub record AnswerAt (base : Base) (history : History) (asked : Asked) (told : Told) (answer : Answer) : Type 0 where
  pub now : ℕ
  pub reading : told.readings ≡ now ∷ []
  pub bytes : length told.drawn ≡ needed asked.request
  pub is : answer ≡ answer_asked base history now told.drawn asked

-- the request reached the account at this history
pub record Reached (Cause : Type 0) (base : Base) (history : History) (asked : Asked) (turn : Turn) : Type 0 where
  pub answer : Answer
  pub at : AnswerAt base history asked turn.told answer
  pub by : AnswersBy Cause answer turn.reply turn.marks

-- nothing was told and nothing made
abbrev pub Untouched : Turn → Type 0
Untouched turn = (turn.told ≡ nothing_told) × (turn.marks ≡ [])

-- the random source failed, of which bytes were wanted; a cause holds then
abbrev pub RandomFailed : Type 0 → Asked → Turn → Type 0
RandomFailed Cause asked turn =
    (0 < needed asked.request) × Cause × Untouched turn × (turn.reply ≡ refused whys.RandomFault)

-- there was no memory before anything was told
abbrev pub NoMemoryFirst : Turn → Type 0
NoMemoryFirst turn = Untouched turn × (turn.reply ≡ unavailable)

-- The turn of a message that asks for this, or is refused so. The first cause holds where the disk failed, the second
-- where the random source did.
abbrev pub IsTurn : Type 0 → Type 0 → Base → History → Result Asked Why → Turn → Type 0
IsTurn Disk Random base history (Err why) turn =
    Untouched turn × ((turn.reply ≡ refused why) ⊎ (turn.reply ≡ unavailable))
IsTurn Disk Random base history (Ok asked) turn =
    Reached Disk base history asked turn ⊎ (RandomFailed Random asked turn ⊎ NoMemoryFirst turn)
