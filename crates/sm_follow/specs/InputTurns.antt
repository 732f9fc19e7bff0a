-- What a replica does with what it reads: entries and rows are taken, and messages are answered. The message that stops
-- the replication promotes it. AWS Secrets Manager User Guide: "Replicate an AWS Secrets Manager secret to other
-- regions"; API Reference: StopReplicationToReplica.
use Rattle.std.specs.Prelude.{◌≡◌, ◌⊎◌, IsTrue, true, false, ℕ, List, [], ◌∷◌, ◌++◌, map, Option, None, Some, Result, Ok, Err}
use Rattle.std.specs.List.{flat_map}
use Rattle.sm_base.specs.SecretId.{secret_id}
use Rattle.sm_base.specs.declared.moment.Moment.{Moment}
use Rattle.sm_access.specs.Admission.{admission}
use Rattle.sm_core.specs.Histories.{later}
use Rattle.sm_forms.specs.Forms.{forms_of}
use Rattle.sm_replication.specs.declared.frame.Frame.{Frame}
use Rattle.sm_replication.specs.declared.input.Input.{Input}
use Rattle.sm_replication.specs.declared.input.Input.TheVariants as inputs
use Rattle.sm_http.specs.Messages.{IsMessage, Message}
use Rattle.sm_judge_common.specs.declared.judged.Judged.{Judged}
use Rattle.sm_judge_common.specs.declared.judged.Judged.TheVariants as judged
use Rattle.sm_model.specs.declared.reply.Reply.TheVariants as replies
use Rattle.sm_model.specs.declared.request.Request.{Request}
use Rattle.sm_model.specs.declared.request.Request.TheVariants as requests
use Rattle.sm_model.specs.declared.rows.SecretRow.{SecretRow}
use Rattle.sm_model.specs.declared.why.Why.{Why}
use Rattle.sm_model.specs.declared.why.Why.TheVariants as whys
use Rattle.sm_principal.specs.declared.people.People.{People}
use Rattle.sm_replica.specs.declared.replica.Taken.{Taken}
use Rattle.sm_replica.specs.declared.replica.Taken.TheVariants.{Memory}
use Rattle.sm_replica.specs.Answering.{answer}
use Rattle.sm_replica.specs.Promoting.{shows}
use Rattle.sm_replica.specs.Replicas.{Replica}
use Rattle.sm_replica.specs.Taking.{Takes}
use Rattle.sm_reply.specs.Shown.{Answered, shown, refused}
use Rattle.sm_session.specs.Answer.{Asked, heard}
use Rattle.sm_session.specs.Replies.{unavailable}
use Rattle.sm_base_check.specs.Bases.{IsSound}
use Rattle.sm_store.specs.Held.{Held, only}
use Rattle.sm_table.specs.Found.{found}
use Rattle.sm_follow.specs.Outputs.{Outgoing, Position, Reply, IsReply}

-- what one input brings: the readings of the clock that were told for it, and what is written
pub record InputTurn : Type 0 where
  pub readings : List ℕ
  pub output : Outgoing

-- a replica, and what its disk holds
pub record State : Type 0 where
  pub replica : Replica
  pub held : Held

-- what each image of a disk recovers to: this, or one of the two
pub data Kept : Type 0 where
  Sure : Held → Kept
  Either : Held → Held → Kept

-- The replica goes on after an input; or the run ends behind it, since the disk failed in a promotion, or there was no
-- memory for one.
pub data Onward : Type 0 where
  Goes : State → Onward
  Fails : Kept → Onward
  Lacks : Kept → Onward

abbrev pub kept_of : Onward → Kept
kept_of (Goes state) = Sure state.held
kept_of (Fails kept) = kept
kept_of (Lacks kept) = kept

-- ---- frames

-- A frame was taken, or not: the position is written, whatever the answer was.
pub record TakesFrame (old : State) (frame : Frame) (turn : InputTurn) (onward : Onward) : Type 0 where
  pub answer : Taken
  pub new : Replica
  pub takes : Takes old.replica frame answer new
  pub remembered : answer ≡ Memory → ⊥
  pub untold : turn.readings ≡ []
  pub says : turn.output ≡ Position new.base.entries
  pub goes : onward ≡ Goes (record old { replica = new })

-- ---- messages

-- the reply to what was judged
abbrev pub judged_answer : Judged → Answered
judged_answer (judged.Accept reply change) = shown reply
judged_answer (judged.Refuse why) = refused why
judged_answer judged.Memory = unavailable

-- the secret that is named to be replicated no more
abbrev pub stopped_by : Request → Option (List ℕ)
stopped_by (requests.StopReplicationToReplica stop) = Some stop.secret_id
stopped_by other = None

-- the refusal of an admission
abbrev pub denied_by : Option (Option ℕ) → Option Why
denied_by None = None
denied_by (Some statement) = Some (whys.Denied statement)

abbrev pub first_of : Option Why → Option Why → Option Why
first_of None next = next
first_of (Some why) next = Some why

-- what a promotion is tested by first: the forms, and then access at the replica's rows
abbrev pub stop_refusal : Replica → Moment → Asked → Option Why
stop_refusal replica moment asked =
    first_of (forms_of asked.request) (denied_by (admission replica.base.rows asked.person moment asked.request))

-- the reply to a promotion has the ARN of the secret that was named
abbrev pub promoted_answer : Option SecretRow → Answered
promoted_answer None = refused whys.NoSecret
promoted_answer (Some row) = shown (replies.StopReplicationToReplica (record { arn = row.arn }))

-- The replica shows the secret, and becomes an account of its own: what it holds was put on the disk before the reply,
-- for whose body there was memory.
pub record Promotes (old : State) (moment : Moment) (text : List ℕ) (output : Outgoing) (onward : Onward) : Type 0 where
  pub shown_is : IsTrue (shows old.replica (secret_id text) moment)
  pub sound : IsSound old.replica.base
  pub says : output ≡ Reply (promoted_answer (found old.replica.base.rows moment (secret_id text)))
  pub goes : onward ≡ Goes (record {
    replica = record old.replica { promoted = true };
    held = only old.replica.base;
  })

-- what the disk may hold where it was not put there whole
abbrev pub old_or_base : State → Kept
old_or_base old = Either old.held (only old.replica.base)

-- the disk failed in that, and the run ends
pub record FailsToPromote (old : State) (moment : Moment) (text : List ℕ) (output : Outgoing) (onward : Onward) : Type 0
  where
    pub shown_is : IsTrue (shows old.replica (secret_id text) moment)
    pub says : IsReply (refused whys.DiskFault) output
    pub fails : onward ≡ Fails (old_or_base old)

-- there was no memory for it or for its reply's body, and the run ends: before the disk was touched, or behind that
pub record LacksToPromote (old : State) (moment : Moment) (text : List ℕ) (output : Outgoing) (onward : Onward) : Type 0
  where
    pub shown_is : IsTrue (shows old.replica (secret_id text) moment)
    pub says : output ≡ Reply unavailable
    pub lacks : (onward ≡ Lacks (Sure old.held)) ⊎ (onward ≡ Lacks (old_or_base old))

-- a reply that leaves all as it was
abbrev pub Says : State → Answered → Outgoing → Onward → Type 0
Says old answer output onward = IsReply answer output × (onward ≡ Goes old)

-- the replica does not show the secret
pub record ShowsNothing (old : State) (moment : Moment) (text : List ℕ) (output : Outgoing) (onward : Onward) : Type 0
  where
    pub hidden : shows old.replica (secret_id text) moment ≡ false
    pub says : Says old (refused whys.NoSecret) output onward

abbrev pub PromotesAs : State → Moment → List ℕ → Outgoing → Onward → Type 0
PromotesAs old moment text output onward =
    Promotes old moment text output onward ⊎ (FailsToPromote old moment text output onward
    ⊎ (LacksToPromote old moment text output onward ⊎ ShowsNothing old moment text output onward))

-- a message that stops the replication, where nothing or this refuses it; there may be no memory for the tests or the
-- SecretId, and then all stays
abbrev pub StopsUnless : Option Why → State → Moment → List ℕ → Outgoing → Onward → Type 0
StopsUnless (Some why) old moment text output onward = Says old (refused why) output onward
StopsUnless None old moment text output onward =
    PromotesAs old moment text output onward ⊎ Says old unavailable output onward

-- what is asked at a moment: another message is answered as the replica answers it
abbrev pub AsksFor : Option (List ℕ) → State → Moment → Asked → Outgoing → Onward → Type 0
AsksFor (Some text) old moment asked output onward =
    StopsUnless (stop_refusal old.replica moment asked) old moment text output onward
AsksFor None old moment asked output onward =
    Says old (judged_answer (answer old.replica.region old.replica.base.rows asked.person moment asked.request)) output
    onward

abbrev pub Asks : State → Moment → Asked → Outgoing → Onward → Type 0
Asks old moment asked output onward = AsksFor (stopped_by asked.request) old moment asked output onward

-- the moment of a message: the greater of the replica's last moment and a reading of the clock
abbrev pub moment_at : State → ℕ → Moment
moment_at old now = later old.replica.base.last (record { 0 = now })

-- a message that asks for this, at one reading
pub record AnswersAt (old : State) (asked : Asked) (turn : InputTurn) (onward : Onward) : Type 0 where
  pub now : ℕ
  pub reading : turn.readings ≡ now ∷ []
  pub asks : Asks old (moment_at old now) asked turn.output onward

-- nothing was asked of the replica: the message is refused so, or there was no memory
pub record Unasked (old : State) (answer : Answered) (turn : InputTurn) (onward : Onward) : Type 0 where
  pub untold : turn.readings ≡ []
  pub says : Says old answer turn.output onward

abbrev pub Answers : State → Result Asked Why → InputTurn → Onward → Type 0
Answers old (Err why) turn onward = Unasked old (refused why) turn onward
Answers old (Ok asked) turn onward = AnswersAt old asked turn onward ⊎ Unasked old unavailable turn onward

-- the bytes are one message, which is answered
pub record AnswersMessage (people : People) (old : State) (bytes : List ℕ) (turn : InputTurn) (onward : Onward) : Type 0
  where
    pub message : Message
    pub is : IsMessage bytes message []
    pub answers : Answers old (heard people message) turn onward

-- ---- inputs

abbrev pub InputTurnOf : People → State → Input → InputTurn → Onward → Type 0
InputTurnOf people old (inputs.Frame frame) turn onward = TakesFrame old frame turn onward
InputTurnOf people old (inputs.Message bytes) turn onward = AnswersMessage people old bytes turn onward

-- inputs one after the other, each at what the one before left
abbrev pub InputTurnsOf : People → State → List Input → List InputTurn → State → Type 0
InputTurnsOf people old [] turns new = (turns ≡ []) × (new ≡ old)
InputTurnsOf people old (input ∷ inputs) turns new =
    (turn : InputTurn) × (others : List InputTurn) × (mid : State) × InputTurnOf people old input turn (Goes mid)
    × (turns ≡ turn ∷ others) × InputTurnsOf people mid inputs others new

-- and then one that ends the run
pub record LastOf (people : People) (old : State) (all : List Input) (turns : List InputTurn) (onward : Onward) : Type 0
  where
    pub earlier : List Input
    pub last : Input
    pub front : List InputTurn
    pub turn : InputTurn
    pub mid : State
    pub inputs_are : all ≡ earlier ++ last ∷ []
    pub turns_are : turns ≡ front ++ turn ∷ []
    pub goes : InputTurnsOf people old earlier front mid
    pub ends : InputTurnOf people mid last turn onward

-- all inputs of a run: the last of them may end it
abbrev pub Follows : People → State → List Input → List InputTurn → Onward → Type 0
Follows people old inputs turns (Goes new) = InputTurnsOf people old inputs turns new
Follows people old inputs turns (Fails kept) = LastOf people old inputs turns (Fails kept)
Follows people old inputs turns (Lacks kept) = LastOf people old inputs turns (Lacks kept)

abbrev pub outputs_of : List InputTurn → List Outgoing
outputs_of turns = map (λ turn. turn.output) turns

abbrev pub readings_of : List InputTurn → List ℕ
readings_of turns = flat_map (λ turn. turn.readings) turns
