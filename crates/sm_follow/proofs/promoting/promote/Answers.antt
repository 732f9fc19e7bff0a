use Rattle.std.proofs.Common.{◌≡◌, IsTrue, inr, true, false, ap, subst, ◌∙◌}
use Rattle.sm_base.specs.SecretId.{secret_id}
use Rattle.sm_base.specs.declared.moment.Moment.{Moment}
use Rattle.sm_base.specs.declared.secret_id.SecretId.{SecretId}
use Rattle.sm_model.specs.declared.why.Why.TheVariants as whys
use Rattle.sm_replica.specs.Promoting.{shows}
use Rattle.sm_replica.specs.Replicas.{Replica}
use Rattle.sm_reply.specs.Shown.{refused}
use Rattle.sm_session.specs.Replies.{Says}
use Rattle.sm_session.specs.declared.said.Said.TheVariants as replies
use Rattle.sm_table.specs.Found.{found}
use Rattle.sm_follow.specs.Disks.{disk_in}
use Rattle.sm_follow.specs.InputTurns.{PromotesAs, promoted_answer}
use Rattle.sm_follow.proofs.TurnLemmas.{comes_said, lacks_comes, put_comes}
use Rattle.sm_follow.proofs.promoting.promote.Goals as goal

-- the secret is shown, as the state says it
shown_in : (old now : Replica) (id named : SecretId) (moment : Moment) → IsTrue (shows old id moment) → old ≡ now
    → id ≡ named → IsTrue (shows now named moment)
shown_in old now id named moment shown same is =
    subst (λ (i : SecretId). IsTrue (shows now i moment)) is
    (subst (λ (r : Replica). IsTrue (shows r id moment)) same shown)

pub returns-in-Reply-clause-comes : goal.returns-in-Reply-clause-comes
returns-in-Reply-clause-comes g c text id_is state stands =
    let moment = c.args.moment in
    let status = c.in-Reply.status in
    let body = c.in-Reply.body in
    let promotes = c.in-Ok.ensures.promotes in
    let promoted : c.promote.new.self ≡ record state.replica { promoted = true } =
    promotes.2 ∙ ap (λ (r : Replica). record r { promoted = true }) stands.replica in
    let says : Says (replies.Reply status body) (promoted_answer (found state.replica.base.rows moment
    (secret_id text))) =
    subst (λ (i : SecretId). Says (replies.Reply status body) (promoted_answer (found state.replica.base.rows moment
    i))) id_is
    (subst (λ (r : Replica). Says (replies.Reply status body) (promoted_answer (found r.base.rows moment
    c.args.id.now))) promoted (rw c.table.ensures.table at c.in-Reply.ensures)) in
    put_comes state moment text
    (shown_in c.args.follower.replica state.replica c.args.id.now (secret_id text) moment promotes.0 stands.replica
    id_is) c.in-Ok.base c.in-Ok.ensures.sound (promotes.1 ∙ ap (λ (r : Replica). r.base) stands.replica)
    c.promote.new.self promoted status body says (g.D.Disk.faults (disk_in c.args.follower)) c.put_base.result
    (c.put_base.ensures.put state.held stands.store)

pub returns-in-Ok-clause-comes : goal.returns-in-Ok-clause-comes
returns-in-Ok-clause-comes g c text id_is state stands =
    lacks_comes state c.args.moment text
    (shown_in c.args.follower.replica state.replica c.args.id.now (secret_id text) c.args.moment
    c.in-Ok.ensures.promotes.0 stands.replica id_is) c.args.follower.store stands.store
    (g.D.Disk.faults (disk_in c.args.follower)) c.end_lacking.result c.end_lacking.ensures

pub returns-in-Err-NoSecret-clause-comes : goal.returns-in-Err-NoSecret-clause-comes
returns-in-Err-NoSecret-clause-comes g c text id_is state stands =
    let moment = c.args.moment in
    let refusing = rw c.in-Err-NoSecret.field-0-is at c.in-Err-NoSecret.ensures.promotes in
    let hidden : shows state.replica (secret_id text) moment ≡ false =
    subst (λ (i : SecretId). shows state.replica i moment ≡ false) id_is
    (subst (λ (r : Replica). shows r c.args.id.now moment ≡ false) stands.replica refusing.0) in
    comes_said (PromotesAs state moment text) (g.D.Disk.faults (disk_in c.args.follower)) state _
    c.say_refusal-said.result (refused whys.NoSecret)
    (record { replica = refusing.1 ∙ stands.replica; store = stands.store }) c.say_refusal-said.ensures
    (λ o says. inr (inr (inr (record { hidden = hidden; says = says }))))

pub returns-clause-comes : goal.returns-clause-comes
returns-clause-comes g c text id_is state stands =
    let refusing = rw c.in-Err-Memory.field-0-is at c.in-Err-Memory.ensures.promotes in
    lacks_comes state c.args.moment text
    (shown_in c.args.follower.replica state.replica c.args.id.now (secret_id text) c.args.moment refusing.0
    stands.replica id_is) c.args.follower.store stands.store (g.D.Disk.faults (disk_in c.args.follower))
    c.end_lacking-in-Err-Memory.result c.end_lacking-in-Err-Memory.ensures
