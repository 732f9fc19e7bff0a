use Rattle.std.proofs.Common.{◌≡◌, Option, Ok, map, string_bytes, sym, ap, subst, ◌∙◌, inl, inr}
use Rattle.sm_principal.specs.declared.people.People.TheVariants.{Everybody}
use Rattle.sm_principal.specs.Callers.{people_of}
use Rattle.sm_command_line.specs.declared.settings.Settings.{Settings}
use Rattle.sm_command_line.specs.Reading.{settings_of}
use Rattle.sm_server.specs.declared.asked.RunTask.{RunTask}
use Rattle.sm_server.specs.declared.asked.RunTask.TheVariants.{Answer}
use Rattle.sm_server.specs.declared.status.Status.{Status}
use Rattle.sm_server.specs.declared.asked.Role.{Role}
use Rattle.sm_server.specs.declared.asked.Role.TheVariants.{Primary, Replica}
use Rattle.sm_server.specs.Asked.{FollowsWords, role_of_words}
use Rattle.sm_server.specs.Complete.{AreFollowed, Orders}
use Rattle.sm_server.specs.Outside.{Outside, outside_by}
use Rattle.sm_server.proofs.CompleteLemmas.{ran_by}
use Rattle.sm_server.proofs.EndLemmas.{words_decided}
use Rattle.sm_server.proofs.UnopenedLemmas.{followed, no_story, people_undecided, unfollowed, wants_more, words_decide}
use Rattle.sm_server.proofs.run.run_once.Goals as goal

pub returns-in-Ok-Primary-clause-ran : goal.returns-in-Ok-Primary-clause-ran
unfolding ran_by
returns-in-Ok-Primary-clause-ran g c =
    let run = c.run_task in
    let ran = run.ensures.ran in
    let story = ran.0 in
    let status : Status = run.result.0 in
    let orders : Orders = record { words = map string_bytes c.args.words.now; people = c.args.people.now } in
    let asked : Option Settings = settings_of orders.words in
    let before : Outside = outside_by g.Q.Source g.K.Sink g.C.Clock g.W.Words g.R.Rotator c.args.source.now
    c.args.sink.now (g.D.Disk.faults c.args.disk) c.args.clock.now c.args.random.now c.args.rotator.now in
    let after : Outside = outside_by g.Q.Source g.K.Sink g.C.Clock g.W.Words g.R.Rotator run.new.source run.new.sink
    (g.D.Disk.faults run.result.1) run.new.clock run.new.random run.new.rotator in
    let asks : role_of_words asked ≡ Ok (Primary story.task) =
    followed asked (Primary c.in-Ok-Primary.task)
    (subst (λ (role : Role). FollowsWords (Ok role) asked) c.in-Ok-Primary.field-0-is c.in-Ok-Primary.ensures)
    ∙ ap (λ (t : RunTask). Ok (Primary t)) (sym ran.1) in inl (
      story,
      ran_by g.R.Rotator.replies orders status before after story
          (words_decided status asked story.task run.ensures.understood asks) ran.2 ran.3,
      ran.4,
      λ wants. wants_more g.D.Disk story ran.3.input ran.3.trace c.args.disk run.result.1 (λ read. (asks, read))
          (ran.5 wants),
      ran.6,
    )

pub returns-in-Err-clause-ran : goal.returns-in-Err-clause-ran
unfolding ran_by
returns-in-Err-clause-ran g c =
    let orders : Orders = record { words = map string_bytes c.args.words.now; people = c.args.people.now } in
    let asked : Option Settings = settings_of orders.words in
    let status = c.in-Err.status in
    let replies = g.R.Rotator.replies in
    let outside : Outside = outside_by g.Q.Source g.K.Sink g.C.Clock g.W.Words g.R.Rotator c.args.source.now
    c.args.sink.now (g.D.Disk.faults c.args.disk) c.args.clock.now c.args.random.now c.args.rotator.now in
    let none = unfollowed replies Answer Everybody status asked c.in-Err.ensures g.D.Disk
    (AreFollowed asked (people_of orders.people) (no_story Answer Everybody)) c.args.disk outside in inl (
      no_story Answer Everybody,
      ran_by replies orders status outside outside (no_story Answer Everybody)
          (words_decide replies Answer Everybody status asked c.in-Err.ensures)
          (people_undecided replies Answer Everybody status asked c.in-Err.ensures (people_of orders.people))
          none.0,
      none.1,
      none.2,
      none.3,
    )

pub returns-in-Ok-Replica-clause-ran : goal.returns-in-Ok-Replica-clause-ran
returns-in-Ok-Replica-clause-ran g c =
    let asked : Option Settings = settings_of (map string_bytes c.args.words.now) in
    inr (
      c.in-Ok-Replica.region,
      followed asked (Replica c.in-Ok-Replica.region)
          (subst (λ (role : Role). FollowsWords (Ok role) asked) c.in-Ok-Replica.field-0-is c.in-Ok-Replica.ensures),
      c.follow_primary.ensures.ran (g.W.Words.drawn c.args.random.now) (g.W.Words.faults c.args.random.now)
          (g.R.Rotator.faults c.args.rotator.now),
    )
