-- What a caching reader does by its words, and how it ends.
use Rattle.std.specs.Prelude.{◌≡◌, ◌⊎◌, Option, Some, None, Result, Ok, Err}
use Rattle.sm_agent.specs.Agents.{AgentState, empty_agent}
use Rattle.sm_agent_server.specs.Streams.{Around, StreamOf}
use Rattle.sm_session.specs.declared.ended.Ended.{Ended}
use Rattle.sm_command_line.specs.declared.settings.Mode.{Mode}
use Rattle.sm_command_line.specs.declared.settings.Mode.TheVariants.{Exec, Serve, Check, Drill, Agent, Ship, Follow}
use Rattle.sm_command_line.specs.declared.settings.Settings.{Settings}
use Rattle.sm_server.specs.declared.status.Status.{Status}
use Rattle.sm_server.specs.declared.status.Status.TheVariants.{Words, Memory}
use Rattle.sm_server.specs.Status.{status_of}

-- how a reader ends that is not asked to read
abbrev pub end_of_reading : Mode → Option Status
end_of_reading Exec = Some Words
end_of_reading Serve = Some Words
end_of_reading Check = Some Words
end_of_reading Drill = Some Words
end_of_reading Agent = None
end_of_reading Ship = Some Words
end_of_reading Follow = Some Words

-- words that are refused ask for nothing
abbrev pub end_of_reader : Option Settings → Option Status
end_of_reader None = Some Words
end_of_reader (Some settings) = end_of_reading settings.mode

-- a reader that does not follow its words ends as it must, or memory ran out
abbrev pub EndsReader : Option Status → Option Settings → Type 0
EndsReader end asked = (end ≡ Some Memory) ⊎ (end ≡ end_of_reader asked)

-- the reader of the program as it begins: it keeps nothing yet, 1,000 answers at most, and each for 300 seconds
abbrev pub first_agent : AgentState
first_agent = empty_agent 1000 300

-- that reader, or out of memory
abbrev pub IsNewAgent : Result AgentState Status → Type 0
IsNewAgent (Ok agent) = agent ≡ first_agent
IsNewAgent (Err status) = status ≡ Memory

-- That reader, where the words ask for one. Else what ends the run: its words, or out of memory.
abbrev pub BuildsAgent : Result AgentState Status → Option Settings → Type 0
BuildsAgent (Ok agent) asked = (end_of_reader asked ≡ None) × (agent ≡ first_agent)
BuildsAgent (Err status) asked = (status ≡ Memory) ⊎ ((status ≡ Words) × (end_of_reader asked ≡ Some Words))

-- a run over one stream, by how that ended
abbrev pub StreamRan : Status → AgentState → AgentState → Around → Around → Type 0
StreamRan status old new before after =
    (ended : Ended) × (status ≡ status_of ended) × StreamOf ended old new before after

-- A run of a caching reader. Where its words are not followed, or there is no memory for it, nothing is read, written,
-- asked or told; else it answers the requests of the one stream, and keeps nothing at first.
abbrev pub AgentRan : Option Settings → Status → Around → Around → Type 0
AgentRan asked status before after =
    (BuildsAgent (Err status) asked × (after ≡ before))
    ⊎ ((agent : AgentState) × (end_of_reader asked ≡ None) × StreamRan status first_agent agent before after)
