-- What a run gives where nothing of the outside failed.
use Rattle.std.specs.Prelude.{◌≡◌, ℕ, ◌⊎◌, List, [], ◌∷◌, ◌++◌, take, Option, Some, Result, Ok}
use Rattle.sm_base.specs.Faults.{Steady}
use Rattle.sm_model.specs.declared.why.Why.{Why}
use Rattle.sm_rotation.specs.Vouched.{Replies}
use Rattle.sm_account.specs.States.{Base}
use Rattle.sm_drill.specs.Messages.{messages_of}
use Rattle.sm_http.specs.Messages.{Message, End, Messages}
use Rattle.sm_principal.specs.declared.people.People.{People}
use Rattle.sm_principal.specs.declared.people.People.{People as Persons}
use Rattle.sm_principal.specs.Callers.{people_of}
use Rattle.sm_reply.specs.Shown.{Answered}
use Rattle.sm_command_line.specs.Reading.{settings_of}
use Rattle.sm_command_line.specs.declared.settings.Settings.{Settings}
use Rattle.sm_account.specs.SeatTraces.{History}
use Rattle.sm_session.specs.Answer.{Asked, heard}
use Rattle.sm_session.specs.Endings.{joined}
use Rattle.sm_session.specs.Streams.{message_limit, AreWhole}
use Rattle.sm_session.specs.Turns.{IsTurn}
use Rattle.sm_server.specs.declared.asked.Role.TheVariants.{Primary}
use Rattle.sm_server.specs.declared.asked.RunTask.{RunTask}
use Rattle.sm_server.specs.declared.asked.RunTask.TheVariants.{Answer}
use Rattle.sm_server.specs.declared.status.Status.{Status}
use Rattle.sm_server.specs.declared.status.Status.TheVariants.{Done, Memory}
use Rattle.sm_server.specs.Asked.{role_of_words, WordsDecide, PeopleDecide}
use Rattle.sm_server.specs.Outside.{Counts, Outside, Trace}
use Rattle.sm_server.specs.Ran.{Course, Drills, Story, course_of, Runs}
use Rattle.sm_server.specs.Status.{WasOpened}
use Rattle.sm_server.specs.MessageRounds.{MessageRound, MessageRoundOf, marked}

-- no count of faults rose
pub record NoneFailed (before now : Counts) : Type 0 where
  pub source : Steady before.source now.source
  pub sink : Steady before.sink now.sink
  pub disk : Steady before.disk now.disk
  pub random : Steady before.random now.random

-- a turn in whose message neither the disk nor the random source failed: the model's answer, or out of memory
pub record ModelRound (replies : Replies) (base : Base) (history : History) (asked : Result Asked Why)
    (turn : MessageRound) : Type 0 where
  pub of : MessageRoundOf replies base history asked turn
  pub model : IsTurn ⊥ ⊥ base history asked of.own

-- the replies to messages whose turns are such, each at the history that those before it made
abbrev pub ModelRounds : Replies → People → Base → History → List Message → List Answered → Type 0
ModelRounds may people base history [] replies = replies ≡ []
ModelRounds may people base history (message ∷ messages) replies =
    (turn : MessageRound) × (others : List Answered)
    × ModelRound may base history (heard people message) turn
    × ModelRounds may people base (history ++ marked turn) messages others
    × (replies ≡ turn.reply ∷ others)

-- Each of the messages of the bytes that were read, of the first that are answered at most, got the model's reply or
-- the one where memory ran out. What was written begins with these.
abbrev pub AnswersEach : Course → List ℕ → List ℕ → Type 0
AnswersEach course input written = (all : List Message) (end : End) → Messages input 0 all end
    → (replies : List Answered) × (more : List ℕ)
    × ModelRounds course.replies course.people course.base [] (take message_limit all) replies ×
    (written ≡ joined replies ++ more)

-- Each of the messages of a number that were answered got the model's reply or the one where memory ran out.
abbrev pub DrillsEach : Course → Status → List ℕ → Trace → Type 0
DrillsEach course status input trace = (number : ℕ) → (drills : Drills course number status input trace)
    → ModelRounds course.replies course.people course.base [] (messages_of number drills.count)
    drills.answered.brought.replies

-- a source that holds whole messages, fewer than are answered at most, is read to its end by a run that answers
abbrev pub ReadsWhole : RunTask → Status → Option (List ℕ) → Type 0
ReadsWhole task status left =
    task ≡ Answer → (bytes : List ℕ) → left ≡ Some bytes → AreWhole bytes → (status ≡ Done) ⊎ (status ≡ Memory)

-- the words ask for what the story does, and the text of the people names who may ask in it
abbrev pub AreFollowed : Option Settings → Result Persons ℕ → Story → Type 0
AreFollowed asked read story = (role_of_words asked ≡ Ok (Primary story.task)) × (read ≡ Ok story.people)

-- what a run is asked for: its words, and the text of the people
pub record Orders : Type 0 where
  pub words : List (List ℕ)
  pub people : List ℕ

-- a run under these orders that ended so, whose rotator may reply this
pub record Ran (replies : Replies) (orders : Orders) (status : Status) (before after : Outside) (story : Story)
    : Type 0 where
  pub words_decide : WordsDecide status (settings_of orders.words) story.task
  pub people_decide : PeopleDecide status (people_of orders.people) story.people
  pub runs : Runs (course_of replies story) status before after
  pub each : NoneFailed before.counts after.counts → (status ≡ Memory → ⊥)
      → AnswersEach (course_of replies story) runs.input runs.trace.written
  pub practised : NoneFailed before.counts after.counts
      → DrillsEach (course_of replies story) status runs.input runs.trace
  pub whole : NoneFailed before.counts after.counts → WasOpened status → ReadsWhole story.task status before.left
