-- What the words ask for, and how a run ends that cannot follow them.
use Rattle.std.specs.Prelude.{◌≡◌, ◌⊎◌, ℕ, List, Option, Some, None, Result, Ok, Err, unwrap_or, ⊤}
use Rattle.sm_principal.specs.declared.people.People.{People as Persons}
use Rattle.sm_principal.specs.declared.people.PeopleRefused.{PeopleRefused}
use Rattle.sm_principal.specs.declared.people.PeopleRefused.TheVariants as refusals
use Rattle.sm_command_line.specs.declared.settings.Mode.{Mode}
use Rattle.sm_command_line.specs.declared.settings.Mode.TheVariants.{Exec, Serve, Check, Drill, Agent, Ship as ShipMode, Follow}
use Rattle.sm_command_line.specs.declared.settings.Settings.{Settings}
use Rattle.sm_server.specs.declared.asked.Role.{Role}
use Rattle.sm_server.specs.declared.asked.Role.TheVariants.{Primary, Replica}
use Rattle.sm_server.specs.declared.asked.RunTask.{RunTask}
use Rattle.sm_server.specs.declared.asked.RunTask.TheVariants.{Answer, Summarize, Practise, Ship}
use Rattle.sm_server.specs.declared.status.Status.{Status}
use Rattle.sm_server.specs.declared.status.Status.TheVariants.{Words, Memory, People}

-- what a run over one stream is in a mode, with a number and a region, or how it ends that cannot follow it
abbrev pub role_of_mode : Mode → Option ℕ → List ℕ → Result Role Status
role_of_mode Exec number region = Ok (Primary Answer)
role_of_mode Serve number region = Err Words
role_of_mode Check number region = Ok (Primary Summarize)
role_of_mode Drill number region = Ok (Primary (Practise (unwrap_or number 0)))
role_of_mode Agent number region = Err Words
role_of_mode ShipMode number region = Ok (Primary (Ship (unwrap_or number 0)))
role_of_mode Follow number region = Ok (Replica region)

-- what a run is by its words, or how it ends that cannot follow them; words that are refused ask for nothing
abbrev pub role_of_words : Option Settings → Result Role Status
role_of_words None = Err Words
role_of_words (Some settings) = role_of_mode settings.mode settings.number settings.region

-- a run follows its words, or ends as it must, or memory ran out
abbrev pub FollowsWords : Result Role Status → Option Settings → Type 0
FollowsWords role asked = (role ≡ Err Memory) ⊎ (role ≡ role_of_words asked)

-- how a run ends whose text of the people is refused
abbrev pub end_of_people : PeopleRefused → Status
end_of_people (refusals.BadLine line) = People line
end_of_people refusals.Memory = Memory

-- A text of the people says who may ask, or its first bad line ends the run; so does lack of memory.
abbrev pub FollowsPeople : Result Persons Status → Result Persons ℕ → Type 0
FollowsPeople (Ok people) read = read ≡ Ok people
FollowsPeople (Err status) read = (status ≡ Memory) ⊎ ((line : ℕ) × (read ≡ Err line) × (status ≡ People line))

-- the words decide whether an account is opened and read, and what is done with it; a lack of memory may come with any
abbrev pub WordsDecide : Status → Option Settings → RunTask → Type 0
WordsDecide Words asked task = role_of_words asked ≡ Err Words
WordsDecide Memory asked task = ⊤
WordsDecide other asked task = role_of_words asked ≡ Ok (Primary task)

-- So does the text of the people, once the words are followed: a run that got further knows who may ask.
abbrev pub PeopleDecide : Status → Result Persons ℕ → Persons → Type 0
PeopleDecide Words read people = ⊤
PeopleDecide Memory read people = ⊤
PeopleDecide (People line) read people = read ≡ Err line
PeopleDecide other read people = read ≡ Ok people
