use Rattle.std.proofs.Common.{Result, Ok, inl, refl, sym, subst}
use Rattle.sm_principal.specs.declared.people.People.{People as Persons}
use Rattle.sm_server.specs.Follows.{FollowRan}
use Rattle.sm_server.specs.Outside.{Outside, outside_reading}
use Rattle.sm_server.proofs.following.follow_primary.Goals as goal

pub returns-in-Ok-clause-ran : goal.returns-in-Ok-clause-ran
returns-in-Ok-clause-ran g c drawn random rotator =
    let run = c.follow_with in
    let before : Outside = outside_reading drawn random rotator g.Q.Source g.K.Sink g.C.Clock c.args.source.now
    c.args.sink.now (g.D.Disk.faults c.args.disk) c.args.clock.now in
    let after : Outside = outside_reading drawn random rotator g.Q.Source g.K.Sink g.C.Clock run.new.source run.new.sink
    (g.D.Disk.faults run.result.1) run.new.clock in
    subst (λ (read : Result Persons _). FollowRan g.D.Disk read c.args.region run.result.0 before after c.args.disk
    run.result.1) (sym c.in-Ok.ensures) (run.ensures.ran drawn random rotator)

pub returns-in-Err-clause-ran : goal.returns-in-Err-clause-ran
returns-in-Err-clause-ran g c drawn random rotator =
    inl (record {
      refused = c.in-Err.ensures;
      untouched = record { around = refl; unasked = record { drawn = refl; random = refl; rotator = refl } };
      disk = refl;
    })
