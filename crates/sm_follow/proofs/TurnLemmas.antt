-- What a replica does with what it reads.
use Rattle.std.proofs.Common.{◌≡◌, ℕ, max, List, [], IsTrue, true, Option, None, Some, Result, Ok, Err, inl, inr, refl, sym, ap, subst, ◌∙◌}
use Rattle.sm_base.specs.Outcomes.{OrMemory}
use Rattle.sm_base.specs.SecretId.{secret_id}
use Rattle.sm_base.specs.declared.limits.TheConstants.{JOURNAL_LIMIT}
use Rattle.sm_base.specs.declared.moment.Moment.{Moment}
use Rattle.sm_disk.specs.declared.disk.Disk.{Ghosts}
use Rattle.sm_replication.specs.declared.frame.Frame.{Frame}
use Rattle.sm_replication.specs.declared.input.Input.{Input}
use Rattle.sm_replication.specs.declared.input.Input.TheVariants as inputs
use Rattle.sm_judge_common.specs.declared.judged.Judged.{Judged}
use Rattle.sm_judge_common.specs.declared.judged.Judged.TheVariants as judgements
use Rattle.sm_judge_common.specs.Judged.{judged_told}
use Rattle.sm_model.specs.declared.request.OfSecret.{OfSecret}
use Rattle.sm_model.specs.declared.request.Request.{Request}
use Rattle.sm_model.specs.declared.request.Request.TheVariants as requests
use Rattle.sm_model.specs.declared.why.Why.{Why}
use Rattle.sm_model.specs.declared.why.Why.TheVariants as whys
use Rattle.sm_principal.specs.declared.people.People.{People}
use Rattle.sm_record.specs.declared.base.Base.{Base}
use Rattle.sm_replica.specs.declared.replica.Taken.{Taken}
use Rattle.sm_replica.specs.declared.replica.Taken.TheVariants.{At, Ahead, Broken, Promoted, Memory}
use Rattle.sm_replica.specs.Answering.{answer}
use Rattle.sm_replica.specs.Promoting.{shows}
use Rattle.sm_replica.specs.Replicas.{Replica}
use Rattle.sm_replica.specs.Taking.{Takes}
use Rattle.sm_reply.specs.Shown.{Answered, refused}
use Rattle.sm_session.specs.Replies as session
use Rattle.sm_session.specs.Replies.{reply_of, unavailable}
use Rattle.sm_session.specs.declared.said.Said.{Said}
use Rattle.sm_session.specs.declared.said.Said.TheVariants as replies
use Rattle.sm_base_check.specs.Bases.{IsSound}
use Rattle.sm_store.proofs.StoreStands.{holds_recover}
use Rattle.sm_store.specs.Stores.{IsOpened, disk_of}
use Rattle.sm_store.specs.Held.{Held, only}
use Rattle.sm_store.specs.declared.store.Store.{Store}
use Rattle.sm_table.specs.Found.{found}
use Rattle.sm_follow.specs.declared.end.End.TheVariants as ends
use Rattle.sm_follow.specs.declared.follower.Follower.{Follower}
use Rattle.sm_follow.specs.declared.follower.Turned.{Turned}
use Rattle.sm_follow.specs.declared.follower.Turned.TheVariants as turned
use Rattle.sm_follow.specs.declared.output.Output.TheVariants as said
use Rattle.sm_follow.specs.Disks.{ComesBy, ComesTo, KeepsOnDisk, Stands, turn_by}
use Rattle.sm_follow.specs.Outputs.{IsReply, IsWritten, Outgoing, Position, Reply}
use Rattle.sm_follow.specs.Promotions.{PutsBase}
use Rattle.sm_session.specs.Answer.{Asked}
use Rattle.sm_follow.specs.InputTurns.{Answers, Asks, AsksFor, Goes, Fails, Lacks, Sure, Either, Onward, PromotesAs, Says, State, StopsUnless, judged_answer, moment_at, old_or_base, promoted_answer, stop_refusal, stopped_by}

same_answer : (status : ℕ) (body : List ℕ) (a : Answered) → status ≡ a.status → body ≡ a.body
    → reply_of (replies.Reply status body) ≡ a
same_answer status body a is same =
    ap (λ n. let x : Answered = record { status = n; body = body } in x) is
    ∙ ap (λ b. let x : Answered = record { status = a.status; body = b } in x) same

-- what was said of an answer is that, or out of memory, however it is written
pub written_says : (reply : Said) (wanted : Answered) (output : Outgoing) → session.Says reply wanted
    → IsWritten (said.Reply reply) output → IsReply wanted output
written_says (replies.Reply status body) wanted output says is =
    inl (is ∙ ap Reply (same_answer status body wanted says.0 says.1))
written_says replies.Memory wanted output says is = inr is

-- a replica that was promoted, and what its disk holds then
abbrev promoted_state : State → State
promoted_state state = record { replica = record state.replica { promoted = true }; held = only state.replica.base }

module _ {D : Type 0} {G : Ghosts D} where
  -- what holds less exactly
  pub comes_weaker : (P Q : Outgoing → Onward → Type 0) (faults : ℕ) (t : Turned D G)
      → ((o : Outgoing) (on : Onward) → P o on → Q o on) → ComesBy P faults t → ComesBy Q faults t
  comes_weaker P Q faults (turned.On next wanted) f (state, stands, p) =
      (state, stands, λ o w. f o (Goes state) (p o w))
  comes_weaker P Q faults (turned.Ends end disk wanted) f (kept, onward, is, on_disk, cause, p) =
      (kept, onward, is, on_disk, cause, λ o w. f o onward (p o w))
  comes_weaker P Q faults (turned.Lacks disk) f c = c

  pub comes_to : (people : People) (old : State) (input : Input) (readings : List ℕ) (faults : ℕ) (t : Turned D G)
      → ComesBy (turn_by people old input readings) faults t → ComesTo people old input readings faults t
  comes_to people old input readings faults (turned.On next wanted) c = c
  comes_to people old input readings faults (turned.Ends end disk wanted) c = c
  comes_to people old input readings faults (turned.Lacks disk) c = absurd c

  -- a reply that leaves all as it was
  pub comes_said : (P : Outgoing → Onward → Type 0) (faults : ℕ) (state : State) (follower : Follower D G)
      (reply : Said) (wanted : Answered) → Stands state follower → session.Says reply wanted
      → ((o : Outgoing) → Says state wanted o (Goes state) → P o (Goes state))
      → ComesBy P faults (turned.On follower (said.Reply reply))
  comes_said P faults state follower reply wanted stands says f =
      (state, stands, λ o w. f o (written_says reply wanted o says w, refl))

  pub comes_memory : (P : Outgoing → Onward → Type 0) (faults : ℕ) (state : State) (follower : Follower D G)
      → Stands state follower → ((o : Outgoing) → o ≡ Reply unavailable → P o (Goes state))
      → ComesBy P faults (turned.On follower (said.Reply replies.Memory))
  comes_memory P faults state follower stands f = (state, stands, f)

  -- each image of the disk of a store that was opened recovers to what it holds
  pub keeps_opened : (limit : ℕ) (held : Held) (store : Store D G) → IsOpened limit held store
      → KeepsOnDisk (Sure held) (G.sight (disk_of store))
  keeps_opened limit held store opened = λ c image. holds_recover store held None opened.holds c image

  -- there was no memory for a promotion, and the disk is as it was
  pub lacks_comes : (state : State) (moment : Moment) (text : List ℕ)
      → IsTrue (shows state.replica (secret_id text) moment) → (store : Store D G)
      → IsOpened JOURNAL_LIMIT state.held store → (faults : ℕ) (t : Turned D G)
      → t ≡ turned.Ends ends.Memory (disk_of store) (said.Reply replies.Memory)
      → ComesBy (PromotesAs state moment text) faults t
  lacks_comes state moment text shown_is store opened faults t is =
      subst (λ (x : Turned D G). ComesBy (PromotesAs state moment text) faults x) (sym is) (
        Sure state.held,
        Lacks (Sure state.held),
        refl,
        keeps_opened JOURNAL_LIMIT state.held store opened,
        tt,
        λ o w. inr (inr (inl (record { shown_is = shown_is; says = w; lacks = inl refl }))),
      )

  -- a base that was put on the disk of a promoted replica, or not
  module _ (state : State) (moment : Moment) (text : List ℕ)
      (shown_is : IsTrue (shows state.replica (secret_id text) moment)) (base : Base) (sound : IsSound base)
      (is : base ≡ state.replica.base) (replica : Replica)
      (promoted : replica ≡ record state.replica { promoted = true }) (status : ℕ) (body : List ℕ)
      (says : session.Says (replies.Reply status body)
      (promoted_answer (found state.replica.base.rows moment (secret_id text)))) where
    pub put_comes : (faults : ℕ) (t : Turned D G)
        → PutsBase state.held base replica (replies.Reply status body) faults t
        → ComesBy (PromotesAs state moment text) faults t
    put_comes faults (turned.On next output) (opened, same, output_is) = (
      promoted_state state,
      record {
        replica = same ∙ promoted;
        store = subst (λ (b : Base). IsOpened JOURNAL_LIMIT (only b) next.store) is opened;
      },
      λ o w. inl (record {
        shown_is = shown_is;
        sound = subst IsSound is sound;
        says = subst (λ x. IsWritten x o) output_is w
            ∙ ap Reply (same_answer status body
            (promoted_answer (found state.replica.base.rows moment (secret_id text))) says.0 says.1);
        goes = refl;
      }),
    )
    put_comes faults (turned.Ends ends.DiskFault disk output) (keeps, (rose, (reply, output_is, told))) = (
      old_or_base state,
      Fails (old_or_base state),
      refl,
      subst (λ (b : Base). KeepsOnDisk (Either state.held (only b)) (G.sight disk)) is keeps,
      rose,
      λ o w. inr (inl (record {
        shown_is = shown_is;
        says = written_says reply (refused whys.DiskFault) o told (subst (λ x. IsWritten x o) output_is w);
        fails = refl;
      })),
    )
    put_comes faults (turned.Ends ends.Memory disk output) (keeps, output_is) = (
      old_or_base state,
      Lacks (old_or_base state),
      refl,
      subst (λ (b : Base). KeepsOnDisk (Either state.held (only b)) (G.sight disk)) is keeps,
      tt,
      λ o w. inr (inr (inl (record {
        shown_is = shown_is;
        says = subst (λ x. IsWritten x o) output_is w;
        lacks = inr refl;
      }))),
    )
    put_comes faults (turned.Ends ends.Closed disk output) (keeps, stops) = absurd stops
    put_comes faults (turned.Ends (ends.Cut count) disk output) (keeps, stops) = absurd stops
    put_comes faults (turned.Ends (ends.Bad at) disk output) (keeps, stops) = absurd stops
    put_comes faults (turned.Ends ends.Enough disk output) (keeps, stops) = absurd stops
    put_comes faults (turned.Ends ends.ReadFault disk output) (keeps, stops) = absurd stops
    put_comes faults (turned.Ends (ends.WriteFault count) disk output) (keeps, stops) = absurd stops
    put_comes faults (turned.Lacks disk) puts = absurd puts

-- ---- frames

pub at_remembered : (n : ℕ) → At n ≡ Memory → ⊥
at_remembered n is = cc

pub ahead_remembered : (n : ℕ) → Ahead n ≡ Memory → ⊥
ahead_remembered n is = cc

pub broken_remembered : (n : ℕ) → Broken n ≡ Memory → ⊥
broken_remembered n is = cc

pub promoted_remembered : Promoted ≡ Memory → ⊥
promoted_remembered is = cc

module _ {D : Type 0} {G : Ghosts D} (people : People) (state : State) (follower : Follower D G) (frame : Frame)
    (faults : ℕ) (stands : Stands state follower) where
  -- a frame was taken, or it left the replica as it was
  pub frame_taken : (next : Follower D G) (taken : Taken) (at : ℕ) → next.store ≡ follower.store
      → Takes follower.replica frame taken next.replica → (taken ≡ Memory → ⊥) → at ≡ next.replica.base.entries
      → ComesTo people state (inputs.Frame frame) [] faults (turned.On next (said.Position at))
  frame_taken next taken at same takes remembered at_is = (
    record state { replica = next.replica },
    record {
      replica = refl;
      store = subst (λ (s : Store D G). IsOpened JOURNAL_LIMIT state.held s) (sym same) stands.store;
    },
    λ o w. record {
      answer = taken;
      new = next.replica;
      takes = subst (λ (r : Replica). Takes r frame taken next.replica) stands.replica takes;
      remembered = remembered;
      untold = refl;
      says = w ∙ ap Position at_is;
      goes = refl;
    },
  )

  -- and its position was said
  pub frame_said : (next : Follower D G) (taken : Taken) (t : Turned D G) → next.store ≡ follower.store
      → t ≡ turned.On next (said.Position next.replica.base.entries)
      → Takes follower.replica frame taken next.replica → (taken ≡ Memory → ⊥)
      → ComesTo people state (inputs.Frame frame) [] faults t
  frame_said next taken t same is takes remembered =
      subst (λ (x : Turned D G). ComesTo people state (inputs.Frame frame) [] faults x) (sym is)
      (frame_taken next taken next.replica.base.entries same takes remembered refl)

  -- there was no memory to take it
  pub frame_lacking : (disk : D) → disk ≡ disk_of follower.store
      → ComesTo {G = G} people state (inputs.Frame frame) [] faults (turned.Lacks disk)
  frame_lacking disk is = (
    subst (λ d. KeepsOnDisk (Sure state.held) (G.sight d)) (sym is)
        (keeps_opened JOURNAL_LIMIT state.held follower.store stands.store),
    refl,
  )

-- ---- messages

-- the moment of a message, by the last moment of the replica
pub moment_is : {D : Type 0} {G : Ghosts D} (state : State) (follower : Follower D G) (now : ℕ) (last moment : Moment)
    → Stands state follower → last ≡ follower.replica.base.last → moment.0 ≡ max last.0 now
    → moment ≡ moment_at state now
moment_is state follower now last moment stands last_is is =
    let same : last ≡ state.replica.base.last = last_is ∙ ap (λ (r : Replica). r.base.last) stands.replica in
    ap (λ n. let m : Moment = record { 0 = n } in m) (is ∙ ap (λ (l : Moment). max l.0 now) same)

-- what was said of a judgement, or of being out of memory, is the reply to what is judged
said_judged : (judged : Judged) (wanted : Judged) (reply : Said) (output : Outgoing)
    → OrMemory (judged_told judged) wanted → session.Says reply (judged_answer judged)
    → IsWritten (said.Reply reply) output → IsReply (judged_answer wanted) output
said_judged (judgements.Accept shown change) wanted reply output is says w =
    subst (λ (j : Judged). IsReply (judged_answer j) output) is
    (written_says reply (judged_answer (judgements.Accept shown change)) output says w)
said_judged (judgements.Refuse why) wanted reply output is says w =
    subst (λ (j : Judged). IsReply (judged_answer j) output) is
    (written_says reply (judged_answer (judgements.Refuse why)) output says w)
said_judged judgements.Memory wanted reply output is says w =
    elim (written_says reply (judged_answer judgements.Memory) output says w) [
      | inl same ↦ inr same
      | inr same ↦ inr same
    ]

pub none_stopped : (request : Request)
    → ((stop : OfSecret) → request ≡ requests.StopReplicationToReplica stop → ⊥) → stopped_by request ≡ None
none_stopped (requests.StopReplicationToReplica stop) other = absurd (other stop refl)
none_stopped request other = refl

-- a message that doesn't stop the replication is answered as the replica answers it
pub asks_judged : {D : Type 0} {G : Ghosts D} (faults : ℕ) (state : State) (follower : Follower D G) (now : ℕ)
    (moment : Moment) (asked : Asked) (judged : Judged) (reply : Said) → Stands state follower
    → moment ≡ moment_at state now → stopped_by asked.request ≡ None
    → OrMemory (judged_told judged) (answer follower.replica.region follower.replica.base.rows asked.person moment
    asked.request)
    → session.Says reply (judged_answer judged)
    → ComesBy (Asks state (moment_at state now) asked) faults (turned.On follower (said.Reply reply))
asks_judged faults state follower now moment asked judged reply stands moment_is none is says = (
  state,
  stands,
  λ o w. subst (λ (text : Option (List ℕ)). AsksFor text state (moment_at state now) asked o (Goes state)) (sym none) (
    said_judged judged
        (answer state.replica.region state.replica.base.rows asked.person (moment_at state now) asked.request) reply o
        (subst (λ (m : Moment). OrMemory (judged_told judged)
        (answer state.replica.region state.replica.base.rows asked.person m asked.request)) moment_is
        (subst (λ (r : Replica). OrMemory (judged_told judged)
        (answer r.region r.base.rows asked.person moment asked.request)) stands.replica is)) says w,
    refl,
  ),
)

-- a message that stops the replication
pub asks_stopped : {D : Type 0} {G : Ghosts D} (faults : ℕ) (state : State) (now : ℕ) (moment : Moment) (asked : Asked)
    (text : List ℕ) (t : Turned D G) → moment ≡ moment_at state now → stopped_by asked.request ≡ Some text
    → ComesBy (StopsUnless (stop_refusal state.replica moment asked) state moment text) faults t
    → ComesBy (Asks state (moment_at state now) asked) faults t
asks_stopped faults state now moment asked text t moment_is stops comes =
    subst (λ (m : Moment). ComesBy (Asks state m asked) faults t) moment_is
    (subst (λ (x : Option (List ℕ)). ComesBy (AsksFor x state moment asked) faults t) (sym stops) comes)

-- there was no memory to test a promotion
pub stops_lacking : (why : Option Why) (state : State) (moment : Moment) (text : List ℕ) (o : Outgoing)
    → o ≡ Reply unavailable → StopsUnless why state moment text o (Goes state)
stops_lacking (Some why) state moment text o is = (inr is, refl)
stops_lacking None state moment text o is = inr (inr is, refl)

-- there was no memory to read a message
pub unasked_memory : (state : State) (asked : Result Asked Why) (o : Outgoing) → o ≡ Reply unavailable
    → Answers state asked (record { readings = []; output = o }) (Goes state)
unasked_memory state (Err why) o is = record { untold = refl; says = (inr is, refl) }
unasked_memory state (Ok asked) o is = inr (record { untold = refl; says = (inr is, refl) })
