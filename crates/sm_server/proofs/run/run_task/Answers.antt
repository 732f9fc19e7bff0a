use Rattle.std.proofs.Common.{◌≡◌, Ok, refl, sym, subst}
use Rattle.sm_principal.specs.declared.people.People.{People as Persons}
use Rattle.sm_principal.specs.declared.people.People.TheVariants.{Everybody}
use Rattle.sm_principal.specs.Callers.{people_of}
use Rattle.sm_server.specs.Outside.{Outside, outside_by}
use Rattle.sm_server.proofs.EndLemmas.{followed_understood, people_decided}
use Rattle.sm_server.proofs.UnopenedLemmas.{no_story, people_refused, refused, understood_refused, wants_more}
use Rattle.sm_server.proofs.run.run_task.Goals as goal

pub returns-in-Ok-clause-ran : goal.returns-in-Ok-clause-ran
returns-in-Ok-clause-ran g c =
    let run = c.run_over in
    let ran = run.ensures.ran in
    let read = people_of c.args.people.now in (
      ran.0,
      ran.1,
      people_decided run.result.0 read ran.0.people run.ensures.followed
          (subst (λ (p : Persons). read ≡ Ok p) (sym ran.2) c.in-Ok.ensures),
      ran.3,
      ran.4,
      λ wants. wants_more g.D.Disk ran.0 ran.3.input ran.3.trace c.args.disk run.result.1
          (λ far. subst (λ (p : Persons). read ≡ Ok p) (sym ran.2) c.in-Ok.ensures) (ran.5 wants),
      ran.6,
    )

pub returns-in-Ok-clause-understood : goal.returns-in-Ok-clause-understood
returns-in-Ok-clause-understood g c = followed_understood c.run_over.result.0 c.run_over.ensures.followed

pub returns-in-Err-clause-ran : goal.returns-in-Err-clause-ran
returns-in-Err-clause-ran g c =
    let status = c.in-Err.status in
    let replies = g.R.Rotator.replies in
    let task = c.args.task in
    let read = people_of c.args.people.now in
    let outside : Outside = outside_by g.Q.Source g.K.Sink g.C.Clock g.W.Words g.R.Rotator c.args.source.now
    c.args.sink.now (g.D.Disk.faults c.args.disk) c.args.clock.now c.args.random.now c.args.rotator.now in
    let none = refused replies task Everybody read status c.in-Err.ensures g.D.Disk (read ≡ Ok Everybody) c.args.disk
    outside in (
      no_story task Everybody,
      refl,
      people_refused replies task Everybody read status c.in-Err.ensures,
      none.0,
      none.1,
      none.2,
      none.3,
    )

pub returns-in-Err-clause-understood : goal.returns-in-Err-clause-understood
returns-in-Err-clause-understood g c =
    understood_refused g.R.Rotator.replies c.args.task Everybody (people_of c.args.people.now) c.in-Err.status
    c.in-Err.ensures
