-- Where all frames of an account come in order.
use Rattle.std.proofs.Common.{◌≡◌, ℕ, ◌+◌, Bool, true, false, List, [], ◌∷◌, ◌++◌, length, Option, None, Some, Result, Ok, Err, inl, inr, refl, sym, ap, subst, ◌∙◌, arith}
use Rattle.sm_base.specs.declared.moment.Moment.{Moment}
use Rattle.sm_disk.specs.declared.disk.Disk.{Ghosts}
use Rattle.sm_replication.specs.declared.frame.Frame.{Frame}
use Rattle.sm_replication.specs.declared.input.Input.{Input}
use Rattle.sm_replication.specs.declared.input.Input.TheVariants as read
use Rattle.sm_model.specs.declared.entry.Entry.{Entry}
use Rattle.sm_model.specs.declared.why.Why.{Why}
use Rattle.sm_principal.specs.declared.people.People.{People}
use Rattle.sm_record.specs.declared.base.Base.{Base}
use Rattle.sm_replica.proofs.PrefixLaws.{catches_up}
use Rattle.sm_replica.specs.Histories as histories
use Rattle.sm_replica.specs.Histories.{AreFrom, HasMemory, IsAt, IsHistory, Step, TakesAll, held_after}
use Rattle.sm_replica.specs.Replicas.{Replica}
use Rattle.sm_replica.specs.Shipping.{Ships}
use Rattle.sm_replica.specs.Taking.{TakesFrame as Takes, TakesIf}
use Rattle.sm_reply.specs.Shown.{Answered}
use Rattle.sm_session.specs.Answer.{Asked, heard}
use Rattle.sm_follow.specs.declared.end.End.{End}
use Rattle.sm_follow.specs.Disks.{FollowsOver, first_state}
use Rattle.sm_follow.specs.InputTurns.{Answers, AnswersMessage, AsksFor, Goes, InputTurn, InputTurnOf, InputTurnsOf, Onward, PromotesAs, State, StopsUnless, TakesFrame, moment_at, stopped_by}
use Rattle.sm_follow.specs.Laws.{CatchesUp, EndsShipped, RunsCatchUp, frames_in, position_in, position_told}
use Rattle.sm_follow.specs.Outputs.{IsReply, Outgoing, Reply}
use Rattle.sm_follow.specs.Streams.{Around}
use Rattle.sm_follow.proofs.RunLaws.{after_message, at_first, goes_is, promoted_of, run_climbs, run_turns, told_at}

-- ---- a replica that is not promoted was not before

true_false : true ≡ false → ⊥
true_false e = cc

frame_going : (old new : State) (frame : Frame) (turn : InputTurn) → TakesFrame old frame turn (Goes new)
    → new.replica.promoted ≡ false → old.replica.promoted ≡ false
frame_going old new frame turn takes going = by old.replica.promoted refl takes.takes
  where
    goes : takes.new.promoted ≡ false
    goes = ap (λ (s : State). s.replica.promoted) (sym (goes_is new (record old { replica = takes.new }) takes.goes))
        ∙ going

    by : (is : Bool) → old.replica.promoted ≡ is → TakesIf is old.replica frame takes.answer takes.new
        → old.replica.promoted ≡ false
    by true was (told, same) = ap (λ (r : Replica). r.promoted) (sym same) ∙ goes
    by false was taken = was

message_going : (people : People) (old new : State) (bytes : List ℕ) (turn : InputTurn)
    → AnswersMessage people old bytes turn (Goes new) → new.replica.promoted ≡ false
    → old.replica.promoted ≡ false
message_going people old new bytes turn answers going = elim (after_message old new people bytes turn answers) [
  | inl is ↦ ap (λ (s : State). s.replica.promoted) (sym is) ∙ going
  | inr is ↦ absurd (true_false (ap (λ (s : State). s.replica.promoted) (sym is) ∙ going))
]

message_base : (people : People) (old new : State) (bytes : List ℕ) (turn : InputTurn)
    → AnswersMessage people old bytes turn (Goes new) → new.replica.base ≡ old.replica.base
message_base people old new bytes turn answers = elim (after_message old new people bytes turn answers) [
  | inl is ↦ ap (λ (s : State). s.replica.base) is
  | inr is ↦ ap (λ (s : State). s.replica.base) is
]

run_going : (people : People) (old : State) (inputs : List Input) (turns : List InputTurn) (new : State)
    → InputTurnsOf people old inputs turns new → new.replica.promoted ≡ false → old.replica.promoted ≡ false
run_going people old [] turns new (none, is) going = ap (λ (s : State). s.replica.promoted) (sym is) ∙ going
run_going people old (read.Frame frame ∷ others) turns new (turn, later, mid, one, are, rest) going =
    frame_going old mid frame turn one (run_going people mid others later new rest going)
run_going people old (read.Message bytes ∷ others) turns new (turn, later, mid, one, are, rest) going =
    message_going people old mid bytes turn one (run_going people mid others later new rest going)

-- ---- what was taken of the frames among inputs

-- the frames were taken one after the other, none of them without memory
record TakesEach (old new : Base) (frames : List Frame) : Type 0 where
  steps : List Step
  are : histories.frames_in steps ≡ frames
  takes : TakesAll old steps
  memory : HasMemory steps
  held : held_after old steps ≡ new

takes_each : (people : People) (old : State) (inputs : List Input) (turns : List InputTurn) (new : State)
    → InputTurnsOf people old inputs turns new → new.replica.promoted ≡ false
    → TakesEach old.replica.base new.replica.base (frames_in inputs)
takes_each people old [] turns new (none, is) going = record {
  steps = [];
  are = refl;
  takes = tt;
  memory = tt;
  held = ap (λ (s : State). s.replica.base) (sym is);
}
takes_each people old (read.Frame frame ∷ others) turns new (turn, later, mid, one, are, rest) going =
    let unpromoted : mid.replica.promoted ≡ false = run_going people mid others later new rest going in
    let was : old.replica.promoted ≡ false = frame_going old mid frame turn one unpromoted in
    let base_is : one.new.base ≡ mid.replica.base =
    ap (λ (s : State). s.replica.base) (sym (goes_is mid (record old { replica = one.new }) one.goes)) in
    let taken : TakesIf false old.replica frame one.answer one.new =
    subst (λ (is : Bool). TakesIf is old.replica frame one.answer one.new) was one.takes in
    let next : TakesEach mid.replica.base new.replica.base (frames_in others) =
    takes_each people mid others later new rest going in
    record {
      steps = record { frame = frame; answer = one.answer; after = mid.replica.base } ∷ next.steps;
      are = ap (λ fs. frame ∷ fs) next.are;
      takes = (
        subst (λ (b : Base). Takes old.replica.base frame one.answer b) base_is taken.0,
        next.takes,
      );
      memory = (one.remembered, next.memory);
      held = next.held;
    }
takes_each people old (read.Message bytes ∷ others) turns new (turn, later, mid, one, are, rest) going =
    subst (λ (b : Base). TakesEach b new.replica.base (frames_in others)) (message_base people old mid bytes turn one)
    (takes_each people mid others later new rest going)

pub replica_catches_up : CatchesUp
replica_catches_up people history n base entries position old inputs turns new h is from here within ships run going =
    let each : TakesEach old.replica.base new.replica.base (frames_in inputs) =
    takes_each people old inputs turns new run going in
    subst (IsAt history (n + length entries)) each.held
    (catches_up history n base entries position old.replica.base each.steps h is from here within
    (subst (Ships base entries position) (sym each.are) ships) each.takes each.memory)

-- ---- the position that is written

-- what is written after a message tells no position
abbrev IsReplied : Outgoing → Type 0
IsReplied output = (answer : Answered) × (output ≡ Reply answer)

is_replied : (answer : Answered) (output : Outgoing) → IsReply answer output → IsReplied output
is_replied answer output (inl is) = (answer, is)
is_replied answer output (inr is) = (_, is)

module _ (old : State) (output : Outgoing) (onward : Onward) where
  promoting_replied : (moment : Moment) (text : List ℕ) → PromotesAs old moment text output onward → IsReplied output
  promoting_replied moment text (inl promotes) = (_, promotes.says)
  promoting_replied moment text (inr (inl fails)) = is_replied _ output fails.says
  promoting_replied moment text (inr (inr (inl lacks))) = (_, lacks.says)
  promoting_replied moment text (inr (inr (inr none))) = is_replied _ output none.says.0

  stop_replied : (why : Option Why) (moment : Moment) (text : List ℕ) → StopsUnless why old moment text output onward
      → IsReplied output
  stop_replied (Some why) moment text says = is_replied _ output says.0
  stop_replied None moment text (inl promotes) = promoting_replied moment text promotes
  stop_replied None moment text (inr says) = is_replied _ output says.0

  asked_replied : (text : Option (List ℕ)) (moment : Moment) (asked : Asked)
      → AsksFor text old moment asked output onward → IsReplied output
  asked_replied (Some text) moment asked asks = stop_replied _ moment text asks
  asked_replied None moment asked says = is_replied _ output says.0

answers_replied : (old : State) (asks : Result Asked Why) (turn : InputTurn) (onward : Onward)
    → Answers old asks turn onward → IsReplied turn.output
answers_replied old (Err why) turn onward unasked = is_replied _ turn.output unasked.says.0
answers_replied old (Ok asked) turn onward (inl answers) =
    asked_replied old turn.output onward (stopped_by asked.request) (moment_at old answers.now) asked answers.asks
answers_replied old (Ok asked) turn onward (inr unasked) = is_replied _ turn.output unasked.says.0

message_tells : (people : People) (old new : State) (bytes : List ℕ) (turn : InputTurn)
    → AnswersMessage people old bytes turn (Goes new)
    → position_in old.replica.base.entries turn.output ≡ new.replica.base.entries
message_tells people old new bytes turn answers =
    let replied : IsReplied turn.output =
    answers_replied old (heard people answers.message) turn (Goes new) answers.answers in
    ap (position_in old.replica.base.entries) replied.1
    ∙ ap (λ (b : Base). b.entries) (sym (message_base people old new bytes turn answers))

frame_tells : (old new : State) (frame : Frame) (turn : InputTurn) → TakesFrame old frame turn (Goes new)
    → position_in old.replica.base.entries turn.output ≡ new.replica.base.entries
frame_tells old new frame turn takes =
    ap (position_in old.replica.base.entries) takes.says
    ∙ ap (λ (s : State). s.replica.base.entries)
    (sym (goes_is new (record old { replica = takes.new }) takes.goes))

input_tells : (people : People) (old new : State) (input : Input) (turn : InputTurn)
    → InputTurnOf people old input turn (Goes new)
    → position_in old.replica.base.entries turn.output ≡ new.replica.base.entries
input_tells people old new (read.Frame frame) turn takes = frame_tells old new frame turn takes
input_tells people old new (read.Message bytes) turn answers = message_tells people old new bytes turn answers

-- the position that was written last is the replica's
run_tells : (people : People) (old : State) (inputs : List Input) (turns : List InputTurn) (new : State)
    → InputTurnsOf people old inputs turns new
    → position_told old.replica.base.entries turns ≡ new.replica.base.entries
run_tells people old [] turns new (none, is) =
    ap (position_told old.replica.base.entries) none
    ∙ ap (λ (s : State). s.replica.base.entries) (sym is)
run_tells people old (input ∷ others) turns new (turn, later, mid, one, are, rest) =
    ap (position_told old.replica.base.entries) are
    ∙ ap (λ (n : ℕ). position_told n later) (input_tells people old mid input turn one)
    ∙ run_tells people mid others later new rest

-- ---- a run in two parts

record Between (people : People) (old : State) (earlier shipped : List Input) (front back : List InputTurn)
    (new : State) : Type 0 where
  mid : State
  first : InputTurnsOf people old earlier front mid
  second : InputTurnsOf people mid shipped back new

first_is : (a b : InputTurn) (xs ys : List InputTurn) → a ∷ xs ≡ b ∷ ys → a ≡ b
first_is a b xs ys e = cc

others_are : (a b : InputTurn) (xs ys : List InputTurn) → a ∷ xs ≡ b ∷ ys → xs ≡ ys
others_are a b xs ys e = cc

parted : (people : People) (old : State) (earlier shipped : List Input) (front back : List InputTurn) (new : State)
    → length front ≡ length earlier → InputTurnsOf people old (earlier ++ shipped) (front ++ back) new
    → Between people old earlier shipped front back new
parted people old [] shipped [] back new each run = record { mid = old; first = (refl, refl); second = run }
parted people old [] shipped (t ∷ front) back new each run = absurd (omega (arith, each))
parted people old (i ∷ earlier) shipped [] back new each run = absurd (omega (arith, each))
parted people old (i ∷ earlier) shipped (t ∷ front) back new each (turn, later, mid, one, are, rest) =
    let next : Between people mid earlier shipped front back new =
    parted people mid earlier shipped front back new (omega (arith, each))
    (subst (λ ts. InputTurnsOf people mid (earlier ++ shipped) ts new)
    (sym (others_are t turn (front ++ back) later are)) rest) in
    record {
      mid = next.mid;
      first = (
        turn,
        front,
        mid,
        one,
        ap (λ (x : InputTurn). x ∷ front) (first_is t turn (front ++ back) later are),
        next.first,
      );
      second = next.second;
    }

module _ {D : Type 0} (G : Ghosts D) (people : People) (region : List ℕ) (end : End) (before after : Around)
    (old new : D) (run : FollowsOver G people region end before after old new) (history : List Entry) (n : ℕ)
    (base : Base) (entries : List Entry) (state : State) (h : IsHistory history) (is : IsAt history n base)
    (from : AreFrom history n entries) (ends : EndsShipped history base entries run.followed.inputs run.followed.turns)
    (goes : run.onward ≡ Goes state) (going : state.replica.promoted ≡ false) where
  abbrev start : State
  start = first_state region run.held

  turned : InputTurnsOf people start (ends.earlier ++ ends.shipped) (ends.front ++ ends.back) state
  turned = subst (λ inputs. InputTurnsOf people start inputs (ends.front ++ ends.back) state) ends.inputs_are
      (subst (λ turns. InputTurnsOf people start run.followed.inputs turns state) ends.turns_are
      (run_turns G people region end before after old new run history state goes))

  ends_caught_up : IsAt history (n + length entries) state.replica.base
  ends_caught_up =
      let parts : Between people start ends.earlier ends.shipped ends.front ends.back state =
      parted people start ends.earlier ends.shipped ends.front ends.back state ends.each turned in
      let climbed = run_climbs history h people 0 start ends.earlier ends.front parts.mid (at_first history) ends.told
      parts.first in
      let told : position_told 0 ends.front ≡ climbed.count =
      run_tells people start ends.earlier ends.front parts.mid parts.first ∙ climbed.told in
      let counted : base.entries ≡ n = told_at history h n base is in
      replica_catches_up people history n base entries (position_told 0 ends.front) parts.mid ends.shipped ends.back
      state h is from (subst (λ (m : ℕ). IsAt history m parts.mid.replica.base) (sym told) climbed.prefix)
      (omega (arith, ends.within, counted)) ends.ships parts.second going

pub runs_catch_up : {D : Type 0} (G : Ghosts D) → RunsCatchUp G
runs_catch_up G people region end before after old new run history n base entries state h is from ends goes going =
    ends_caught_up G people region end before after old new run history n base entries state h is from ends goes going
