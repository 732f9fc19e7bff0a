-- What a run of the program over one stream does.
use Rattle.std.specs.Prelude.{◌≡◌, ◌≤◌, ℕ, List, [], Option}
use Rattle.std.specs.Io.KnownBytes.{prepend_known}
use Rattle.sm_base.specs.Faults.{Rose}
use Rattle.sm_base.specs.declared.bad_kind.BadKind.{BadKind}
use Rattle.sm_model.specs.declared.entry.Entry.{Entry}
use Rattle.sm_base.specs.declared.limits.TheConstants.{JOURNAL_LIMIT}
use Rattle.sm_recovery.specs.Lawful.{made_of}
use Rattle.sm_rotation.specs.Vouched.{Replies}
use Rattle.sm_store.specs.Held.{Held}
use Rattle.sm_account.specs.States.{Base, base_of}
use Rattle.sm_http.specs.Messages.{Message}
use Rattle.sm_principal.specs.declared.people.People.{People as Persons}
use Rattle.sm_reply.specs.Shown.{Answered}
use Rattle.sm_account.specs.SeatTraces.{History}
use Rattle.sm_session.specs.declared.ended.Ended.TheVariants as ended
use Rattle.sm_session.specs.Endings as streams
use Rattle.sm_session.specs.Endings.{Passage}
use Rattle.sm_session.specs.Told.{Told, nothing_told, Within}
use Rattle.sm_server.specs.declared.asked.RunTask.{RunTask}
use Rattle.sm_server.specs.declared.asked.RunTask.TheVariants.{Answer, Practise, Ship, Summarize}
use Rattle.sm_server.specs.declared.status.Status.{Status}
use Rattle.sm_server.specs.declared.status.Status.TheVariants.{Done, Words, Damaged, OpenFault, Memory, People, SinkFault, SourceFault, Cut, BadMessage, Enough}
use Rattle.sm_drill.specs.declared.step.TheConstants.{MESSAGES}
use Rattle.sm_drill.specs.Messages.{messages_of}
use Rattle.sm_server.specs.Checks.{ChecksBy}
use Rattle.sm_server.specs.Drills.{EndsDrill}
use Rattle.sm_server.specs.Ships.{ShipsBy}
use Rattle.sm_server.specs.Outside.{Outside, Trace, Passed}
use Rattle.sm_server.specs.MessageRounds.{Brought, MessageRounds}

-- what a run does, what its rotator may reply, who may ask, what its account goes on from, what was taken from the disk
-- for that, and the history since
pub record Course : Type 0 where
  pub task : RunTask
  pub replies : Replies
  pub people : Persons
  pub base : Base
  pub held : Held
  pub history : History

-- no mark was made, and nothing was written, read from the clock or drawn
abbrev pub NothingDone : History → Trace → Type 0
NothingDone history trace = (history ≡ []) × (trace.written ≡ []) × (trace.told ≡ nothing_told)

-- the messages that were answered, from the first mark on, and what that brought
pub record AreAnswered (course : Course) (messages : List Message) (trace : Trace) : Type 0 where
  pub brought : Brought
  pub turns : MessageRounds course.replies course.people course.base [] messages brought
  pub history : course.history ≡ brought.history
  pub told : trace.told ≡ brought.told
  pub disk : Within brought.disk trace.disk
  pub random : trace.random ≡ brought.random
  pub rotator : trace.rotator ≡ brought.rotator

-- what passed on the stream
abbrev pub passage_of : List ℕ → Option (List ℕ) → List Message → List Answered → Trace → Passage
passage_of input left messages replies trace = record {
  input = input;
  left = left;
  messages = messages;
  replies = replies;
  written = trace.written;
  source = trace.source;
  sink = trace.sink;
}

-- Why a run ended so that answered these messages of the bytes that it read, where that is left of the source, with
-- these replies: as its stream ended.
abbrev pub EndsBy : Status → Passage → Type 0
EndsBy Done passage = streams.EndsBy ended.Closed passage
EndsBy (Cut n) passage = streams.EndsBy (ended.Cut n) passage
EndsBy (BadMessage at) passage = (kind : BadKind) × streams.EndsBy (ended.Bad kind at) passage
EndsBy Enough passage = streams.EndsBy ended.Enough passage
EndsBy SourceFault passage = streams.EndsBy ended.ReadFault passage
EndsBy (SinkFault counted) passage = streams.EndsBy (ended.WriteFault counted) passage
EndsBy Memory passage = streams.EndsBy ended.Memory passage
EndsBy other passage = ⊥

-- why a run ended so that answered messages of the bytes that it read
pub record Answers (course : Course) (status : Status) (input : List ℕ) (left : Option (List ℕ)) (trace : Trace)
    : Type 0 where
  pub messages : List Message
  pub answered : AreAnswered course messages trace
  pub ends : EndsBy status (passage_of input left messages answered.brought.replies trace)

-- A run that shows a summary reads no message, makes no mark and draws nothing.
pub record Checks (course : Course) (status : Status) (input : List ℕ) (trace : Trace) : Type 0 where
  pub unread : input ≡ []
  pub unmarked : course.history ≡ []
  pub undrawn : trace.told.drawn ≡ []
  pub checks : ChecksBy (Rose trace.sink.before trace.sink.after) course.base.rows (made_of course.held).entries
      status trace.told.readings trace.written

-- A run that answers the messages of a number reads none. What was told for them comes first.
pub record Drills (course : Course) (number : ℕ) (status : Status) (input : List ℕ) (trace : Trace) : Type 0 where
  pub unread : input ≡ []
  pub count : ℕ
  pub few : count ≤ MESSAGES
  pub told : Told
  pub answered : AreAnswered course (messages_of number count) (record trace { told = told })
  pub ends : EndsDrill (Rose trace.sink.before trace.sink.after) course.base (made_of course.held).entries
      course.history count answered.brought.replies told status trace.told trace.written

-- A run that ships reads no message, makes no mark, draws nothing and reads no clock. What it writes brings a replica
-- from the position to the end of what was taken from the disk.
pub record Ships (course : Course) (position : ℕ) (status : Status) (input : List ℕ) (trace : Trace) : Type 0 where
  pub unread : input ≡ []
  pub unmarked : course.history ≡ []
  pub untold : trace.told ≡ nothing_told
  pub ships : ShipsBy (Rose trace.sink.before trace.sink.after) course.held position status trace.written

-- why a run ended so that had this to do
abbrev pub EndedAt : RunTask → Course → Status → List ℕ → Option (List ℕ) → Trace → Type 0
EndedAt Answer course status input left trace = Answers course status input left trace
EndedAt Summarize course status input left trace = Checks course status input trace
EndedAt (Practise number) course status input left trace = Drills course number status input trace
EndedAt (Ship position) course status input left trace = Ships course position status input trace

-- why the run ended so, where it read this input and the source has that left; no byte is read before an account is
-- opened
abbrev pub Ended : Course → Status → List ℕ → Option (List ℕ) → Trace → Type 0
Ended course Words input left trace = (input ≡ []) × NothingDone course.history trace
Ended course (People line) input left trace = (input ≡ []) × NothingDone course.history trace
Ended course (Damaged at entry) input left trace = (input ≡ []) × NothingDone course.history trace
Ended course OpenFault input left trace =
    (input ≡ []) × NothingDone course.history trace × Rose trace.disk.before trace.disk.after
Ended course status input left trace = EndedAt course.task course status input left trace

-- what a run does, who may ask, what the opening took from the disk, the history since, and the entry whose write
-- failed last, while that may stand on the disk
pub record Story : Type 0 where
  pub task : RunTask
  pub people : Persons
  pub taken : Held
  pub history : History
  pub failed : Option Entry

-- the story as a course, where this is what the rotator may reply, under the greatest limit on a journal
abbrev pub course_of : Replies → Story → Course
course_of replies story = record {
  task = story.task;
  replies = replies;
  people = story.people;
  base = base_of story.taken JOURNAL_LIMIT;
  held = story.taken;
  history = story.history;
}

-- the run of an account that went this course: from what the outside told before it to what it tells after it
pub record Runs (course : Course) (status : Status) (before after : Outside) : Type 0 where
  pub input : List ℕ
  pub trace : Trace
  pub reads : before.left ≡ prepend_known input after.left
  pub passed : Passed before after trace
  pub ended : Ended course status input after.left trace
