use Rattle.std.proofs.Common.{inl, map, refl, string_bytes}
use Rattle.sm_principal.specs.Callers.{people_of}
use Rattle.sm_command_line.specs.Reading.{settings_of}
use Rattle.sm_server.proofs.ServedLemmas.{ran_as}
use Rattle.sm_server.proofs.serving.run_server.Goals as goal

pub returns-in-Ok : goal.returns-in-Ok
returns-in-Ok g c = record {
  ran = ran_as _ g.D.Disk c.in-Ok.people c.args.workers.now c.serve_over.new.workers
      (settings_of (map string_bytes c.args.words.now)) (people_of c.args.people.now) c.args.disk
      c.serve_over.result c.in-Ok.ensures c.serve_over.ensures.ran;
}

pub returns-in-Err : goal.returns-in-Err
returns-in-Err g c = record { ran = (inl (c.in-Err.ensures, refl), refl) }
