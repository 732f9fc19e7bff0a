use Rattle.std.proofs.Common.{map, string_bytes}
use Rattle.sm_principal.specs.Callers.{people_of}
use Rattle.sm_command_line.specs.Reading.{settings_of}
use Rattle.sm_server.proofs.ServedLemmas.{ended_orders, read_orders}
use Rattle.sm_server.proofs.serving.may_ask.Goals as goal

pub returns-in-Some : goal.returns-in-Some
returns-in-Some c =
    ended_orders (settings_of (map string_bytes c.args.words.now)) (people_of c.args.people.now) c.in-Some.status
    c.in-Some.ensures

pub returns-in-None : goal.returns-in-None
returns-in-None c =
    read_orders (settings_of (map string_bytes c.args.words.now)) (people_of c.args.people.now) c.people_of.result
    c.in-None.ensures c.people_of.ensures
