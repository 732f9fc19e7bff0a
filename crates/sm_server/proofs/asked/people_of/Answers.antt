use Rattle.sm_principal.specs.Callers.{people_of}
use Rattle.sm_server.proofs.UnopenedLemmas.{followed_people, refused_people}
use Rattle.sm_server.proofs.asked.people_of.Goals as goal

pub returns-in-Ok : goal.returns-in-Ok
returns-in-Ok c = followed_people c.in-Ok.people (people_of c.args.text.now) c.in-Ok.ensures

pub returns-in-Err : goal.returns-in-Err
returns-in-Err c =
    refused_people c.in-Err.refused (people_of c.args.text.now) c.end_of_people.result c.in-Err.ensures
    c.end_of_people.ensures
