use Rattle.std.proofs.Common.{map, string_bytes}
use Rattle.sm_command_line.specs.Reading.{settings_of}
use Rattle.sm_server.proofs.ReaderLemmas.{built_reader, ended_reader}
use Rattle.sm_server.proofs.reader.agent_of_words.Goals as goal

pub returns-in-Some : goal.returns-in-Some
returns-in-Some c =
    ended_reader (settings_of (map string_bytes c.args.words.now)) c.in-Some.status c.in-Some.ensures

pub returns-in-None : goal.returns-in-None
returns-in-None c =
    built_reader (settings_of (map string_bytes c.args.words.now)) c.new_agent.result c.in-None.ensures
    c.new_agent.ensures
