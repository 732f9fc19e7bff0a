use Rattle.std.proofs.Common.{◌≡◌, Option, None, Some, sym, ap, subst, ◌∙◌}
use Rattle.sm_model.specs.declared.why.Why.{Why}
use Rattle.sm_replica.specs.Replicas.{Replica}
use Rattle.sm_reply.specs.Shown.{refused}
use Rattle.sm_session.specs.Answer.{Asked}
use Rattle.sm_follow.specs.Disks.{ComesBy, disk_in}
use Rattle.sm_follow.specs.InputTurns.{Goes, StopsUnless, stop_refusal}
use Rattle.sm_follow.proofs.TurnLemmas.{comes_memory, comes_said, stops_lacking}
use Rattle.sm_follow.proofs.promoting.stop_replication.Goals as goal

pub returns-in-Yes-clause-comes : goal.returns-in-Yes-clause-comes
returns-in-Yes-clause-comes g c state stands =
    let asked : Asked = record { person = c.args.person.now; request = c.args.request.now } in
    let is : stop_refusal state.replica c.args.moment asked ≡ None =
    ap (λ (r : Replica). stop_refusal r c.args.moment asked) (sym stands.replica) ∙ c.in-Yes.ensures.0 in
    subst (λ (w : Option Why). ComesBy (StopsUnless w state c.args.moment c.args.text.now)
    (g.D.Disk.faults (disk_in c.args.follower)) c.promote_named.result) (sym is)
    (c.promote_named.ensures.comes state stands)

pub returns-in-No-clause-comes : goal.returns-in-No-clause-comes
returns-in-No-clause-comes g c state stands =
    let asked : Asked = record { person = c.args.person.now; request = c.args.request.now } in
    let why = c.in-No.why in
    let is : stop_refusal state.replica c.args.moment asked ≡ Some why =
    ap (λ (r : Replica). stop_refusal r c.args.moment asked) (sym stands.replica) ∙ c.in-No.ensures in
    comes_said (StopsUnless (stop_refusal state.replica c.args.moment asked) state c.args.moment c.args.text.now)
    (g.D.Disk.faults (disk_in c.args.follower)) state c.args.follower c.say_refusal-said.result (refused why) stands
    c.say_refusal-said.ensures
    (λ o says. subst (λ (w : Option Why). StopsUnless w state c.args.moment c.args.text.now o (Goes state))
    (sym is) says)

pub returns-in-Memory-clause-comes : goal.returns-in-Memory-clause-comes
returns-in-Memory-clause-comes g c state stands =
    let asked : Asked = record { person = c.args.person.now; request = c.args.request.now } in
    let why = stop_refusal state.replica c.args.moment asked in
    comes_memory (StopsUnless why state c.args.moment c.args.text.now) (g.D.Disk.faults (disk_in c.args.follower))
    state c.args.follower stands (stops_lacking why state c.args.moment c.args.text.now)
