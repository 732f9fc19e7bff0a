-- The same run, counted from an earlier moment on.
use Rattle.std.proofs.Common.{◌≡◌, ℕ, ◌≤◌, List, Option, Result, Ok, refl, sym, arith, subst}
use Rattle.sm_drill.specs.Messages.{messages_of}
use Rattle.sm_http.specs.Messages.{Message}
use Rattle.sm_principal.specs.declared.people.People.{People as Persons}
use Rattle.sm_command_line.specs.declared.settings.Settings.{Settings}
use Rattle.sm_session.specs.Told.{Growth, Within}
use Rattle.sm_server.specs.declared.asked.Role.TheVariants.{Primary}
use Rattle.sm_server.specs.declared.asked.RunTask.{RunTask}
use Rattle.sm_server.specs.declared.asked.RunTask.TheVariants.{Answer, Practise, Ship, Summarize}
use Rattle.sm_server.specs.declared.status.Status.{Status}
use Rattle.sm_server.specs.declared.status.Status.TheVariants.{Done, Words, Damaged, OpenFault, Memory, People, SinkFault, SourceFault, EdgeFault, Cut, BadMessage, Enough}
use Rattle.sm_server.specs.Asked.{role_of_words, WordsDecide, PeopleDecide}
use Rattle.sm_server.specs.Outside.{Outside, growth, Trace}
use Rattle.sm_server.specs.Ran.{Course, AreAnswered, Answers, Checks, Drills, EndedAt, Ended, Runs, Ships}
use Rattle.sm_server.specs.Status.{WasFollowed, WasOpened, WasUnderstood}

-- the same run, whose disk is counted from an earlier moment on
module _ (course : Course) (before after : Outside) (earlier : ℕ) (early : earlier ≤ before.counts.disk) where
  abbrev pub since : Outside
  since = record before { counts = record before.counts { disk = earlier } }

  module _ (trace : Trace) (disk_is : trace.disk ≡ growth (λ c. c.disk) before after) where
    abbrev longer : Trace
    longer = record trace { disk = growth (λ c. c.disk) since after }

    within : Within trace.disk (growth (λ c. c.disk) since after)
    within = subst (λ (g : Growth). Within g (growth (λ c. c.disk) since after)) (sym disk_is)
        (omega (arith, early), omega arith)

    abbrev answered_since : (messages : List Message) → AreAnswered course messages trace
        → AreAnswered course messages longer
    answered_since messages a = record {
      brought = a.brought;
      turns = a.turns;
      history = a.history;
      told = a.told;
      disk = (omega (arith, a.disk.0, within.0), omega (arith, a.disk.1, within.1));
      random = a.random;
      rotator = a.rotator;
    }

  module _ (trace : Trace) (disk_is : trace.disk ≡ growth (λ c. c.disk) before after) where
    abbrev further : Trace
    further = longer trace disk_is

    answers_since : (status : Status) (input : List ℕ) (left : Option (List ℕ))
        → Answers course status input left trace → Answers course status input left further
    answers_since status input left e =
        record {
          messages = e.messages;
          answered = answered_since trace disk_is e.messages e.answered;
          ends = e.ends;
        }

    checks_since : (status : Status) (input : List ℕ) → Checks course status input trace
        → Checks course status input further
    checks_since status input e =
        record { unread = e.unread; unmarked = e.unmarked; undrawn = e.undrawn; checks = e.checks }

    drills_since : (number : ℕ) (status : Status) (input : List ℕ) → Drills course number status input trace
        → Drills course number status input further
    drills_since number status input e = record {
      unread = e.unread;
      count = e.count;
      few = e.few;
      told = e.told;
      answered = answered_since (record trace { told = e.told }) disk_is (messages_of number e.count) e.answered;
      ends = e.ends;
    }

    ships_since : (position : ℕ) (status : Status) (input : List ℕ) → Ships course position status input trace
        → Ships course position status input further
    ships_since position status input e =
        record { unread = e.unread; unmarked = e.unmarked; untold = e.untold; ships = e.ships }

    at_since : (task : RunTask) (status : Status) (input : List ℕ) (left : Option (List ℕ))
        → EndedAt task course status input left trace → EndedAt task course status input left further
    at_since Answer status input left e = answers_since status input left e
    at_since Summarize status input left e = checks_since status input e
    at_since (Practise number) status input left e = drills_since number status input e
    at_since (Ship position) status input left e = ships_since position status input e

    ended_since : (status : Status) (input : List ℕ) (left : Option (List ℕ)) → Ended course status input left trace
        → WasOpened status → Ended course status input left further
    ended_since Done input left e o = at_since course.task Done input left e
    ended_since Words input left e o = absurd o
    ended_since (Damaged at entry) input left e o = absurd o
    ended_since OpenFault input left e o = absurd o
    ended_since Memory input left e o = at_since course.task Memory input left e
    ended_since (People line) input left e o = absurd o
    ended_since (SinkFault counted) input left e o = at_since course.task (SinkFault counted) input left e
    ended_since SourceFault input left e o = at_since course.task SourceFault input left e
    ended_since EdgeFault input left e o = at_since course.task EdgeFault input left e
    ended_since (Cut bytes) input left e o = at_since course.task (Cut bytes) input left e
    ended_since (BadMessage place) input left e o = at_since course.task (BadMessage place) input left e
    ended_since Enough input left e o = at_since course.task Enough input left e

  pub runs_since : (status : Status) → WasOpened status → Runs course status before after
      → Runs course status since after
  runs_since status opened runs = record {
    input = runs.input;
    trace = longer runs.trace runs.passed.disk_count;
    reads = runs.reads;
    passed = record {
      writes = runs.passed.writes;
      clock = runs.passed.clock;
      random = runs.passed.random;
      source_count = runs.passed.source_count;
      sink_count = runs.passed.sink_count;
      disk_count = refl;
      random_count = runs.passed.random_count;
      rotator_count = runs.passed.rotator_count;
    };
    ended = ended_since runs.trace runs.passed.disk_count status runs.input after.left runs.ended opened;
  }

-- a run whose account was opened followed its words and its people
pub opened_followed : (status : Status) → WasOpened status → WasFollowed status
opened_followed Done o = tt
opened_followed Words o = o
opened_followed (Damaged at entry) o = tt
opened_followed OpenFault o = tt
opened_followed Memory o = tt
opened_followed (People line) o = o
opened_followed (SinkFault counted) o = tt
opened_followed SourceFault o = tt
opened_followed EdgeFault o = tt
opened_followed (Cut bytes) o = tt
opened_followed (BadMessage place) o = tt
opened_followed Enough o = tt

-- a run that followed its words and its people followed its words
pub followed_understood : (status : Status) → WasFollowed status → WasUnderstood status
followed_understood Done f = tt
followed_understood Words f = f
followed_understood (Damaged at entry) f = tt
followed_understood OpenFault f = tt
followed_understood Memory f = tt
followed_understood (People line) f = tt
followed_understood (SinkFault counted) f = tt
followed_understood SourceFault f = tt
followed_understood EdgeFault f = tt
followed_understood (Cut bytes) f = tt
followed_understood (BadMessage place) f = tt
followed_understood Enough f = tt

pub words_decided : (status : Status) (asked : Option Settings) (task : RunTask) → WasUnderstood status
    → role_of_words asked ≡ Ok (Primary task) → WordsDecide status asked task
words_decided Done asked task f are = are
words_decided Words asked task f are = absurd f
words_decided (Damaged at entry) asked task f are = are
words_decided OpenFault asked task f are = are
words_decided Memory asked task f are = tt
words_decided (People line) asked task f are = are
words_decided (SinkFault counted) asked task f are = are
words_decided SourceFault asked task f are = are
words_decided EdgeFault asked task f are = are
words_decided (Cut bytes) asked task f are = are
words_decided (BadMessage place) asked task f are = are
words_decided Enough asked task f are = are

pub people_decided : (status : Status) (read : Result Persons ℕ) (people : Persons) → WasFollowed status
    → read ≡ Ok people → PeopleDecide status read people
people_decided Done read people f are = are
people_decided Words read people f are = tt
people_decided (Damaged at entry) read people f are = are
people_decided OpenFault read people f are = are
people_decided Memory read people f are = tt
people_decided (People line) read people f are = absurd f
people_decided (SinkFault counted) read people f are = are
people_decided SourceFault read people f are = are
people_decided EdgeFault read people f are = are
people_decided (Cut bytes) read people f are = are
people_decided (BadMessage place) read people f are = are
people_decided Enough read people f are = are
