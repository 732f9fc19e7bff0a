-- What holds of whole runs of a replica.
use Rattle.std.proofs.Common.{◌≡◌, ◌⊎◌, ◌≤◌, ℕ, zero, suc, Bool, true, false, List, [], ◌∷◌, take, drop, Option, None, Some, Result, Ok, Err, inl, inr, refl, sym, ap, subst, length-take, take-append-drop, arith}
use Rattle.sm_base.specs.declared.moment.Moment.{Moment}
use Rattle.sm_core.specs.Histories.{InTime}
use Rattle.sm_disk.specs.declared.disk.Disk.{Ghosts}
use Rattle.sm_replication.specs.declared.frame.Frame.{Frame}
use Rattle.sm_replication.specs.declared.input.Input.{Input}
use Rattle.sm_replication.specs.declared.input.Input.TheVariants as read
use Rattle.sm_model.specs.declared.entry.Entry.{Entry}
use Rattle.sm_model.specs.declared.why.Why.{Why}
use Rattle.sm_recovery.proofs.LawfulLaws.{stays_lawful}
use Rattle.sm_recovery.specs.Lawful.{IsLawful}
use Rattle.sm_principal.specs.declared.people.People.{People}
use Rattle.sm_record.specs.declared.base.Base.{Base}
use Rattle.sm_recovery.proofs.FollowLemmas.{after_count, come_front, nothing_sound}
use Rattle.sm_recovery.specs.Following.{after_all, MayCome, origin}
use Rattle.sm_replica.proofs.PrefixLaws.{follows_history}
use Rattle.sm_replica.specs.declared.replica.Taken.{Taken}
use Rattle.sm_replica.specs.Histories.{IsAt, IsHistory, IsOf, Step}
use Rattle.sm_replica.specs.Laws.{AllOf}
use Rattle.sm_replica.specs.Replicas.{Replica}
use Rattle.sm_replica.specs.Taking.{Takes, TakesIf}
use Rattle.sm_session.specs.Answer.{Asked, heard}
use Rattle.sm_store.specs.Held.{Held, only}
use Rattle.sm_follow.specs.declared.end.End.{End}
use Rattle.sm_follow.specs.Disks.{FollowsOver, KeepsOnDisk, first_state}
use Rattle.sm_follow.specs.InputTurns.{Answers, AnswersMessage, AsksFor, Fails, Follows, Goes, InputTurn, InputTurnsOf, Kept, Lacks, Onward, PromotesAs, State, StopsUnless, Sure, TakesFrame, kept_of, moment_at, stopped_by}
use Rattle.sm_follow.specs.Laws.{Climbs, HoldsBy, IsAPrefix, KeepsOrPromotes, LeavesPrefix, RunsLeavePrefix, frames_in}
use Rattle.sm_follow.specs.Outputs.{Outgoing}
use Rattle.sm_follow.specs.Streams.{Around}

-- ---- what a message leaves

pub goes_is : (a b : State) → Goes a ≡ Goes b → a ≡ b
goes_is a b e = cc

no_fails : (a : State) (kept : Kept) → Goes a ≡ Fails kept → ⊥
no_fails a kept e = cc

no_lacks : (a : State) (kept : Kept) → Goes a ≡ Lacks kept → ⊥
no_lacks a kept e = cc

-- a replica that was promoted, and what its disk holds then
abbrev pub promoted_of : State → State
promoted_of old = record { replica = record old.replica { promoted = true }; held = only old.replica.base }

-- all stays as it was, or the replica is promoted
abbrev StaysOr : State → State → Type 0
StaysOr old new = (new ≡ old) ⊎ (new ≡ promoted_of old)

module _ (old new : State) where
  after_promoting : (moment : Moment) (text : List ℕ) (output : Outgoing) → PromotesAs old moment text output (Goes new)
      → StaysOr old new
  after_promoting moment text output (inl promotes) = inr (goes_is new (promoted_of old) promotes.goes)
  after_promoting moment text output (inr (inl fails)) = absurd (no_fails new _ fails.fails)
  after_promoting moment text output (inr (inr (inl lacks))) = elim lacks.lacks [
    | inl is ↦ absurd (no_lacks new _ is)
    | inr is ↦ absurd (no_lacks new _ is)
  ]
  after_promoting moment text output (inr (inr (inr none))) = inl (goes_is new old none.says.1)

  after_stop : (why : Option Why) (moment : Moment) (text : List ℕ) (output : Outgoing)
      → StopsUnless why old moment text output (Goes new) → StaysOr old new
  after_stop (Some why) moment text output says = inl (goes_is new old says.1)
  after_stop None moment text output (inl promotes) = after_promoting moment text output promotes
  after_stop None moment text output (inr says) = inl (goes_is new old says.1)

  after_asked : (text : Option (List ℕ)) (moment : Moment) (asked : Asked) (output : Outgoing)
      → AsksFor text old moment asked output (Goes new) → StaysOr old new
  after_asked (Some text) moment asked output asks = after_stop _ moment text output asks
  after_asked None moment asked output says = inl (goes_is new old says.1)

  after_answers : (asks : Result Asked Why) (turn : InputTurn) → Answers old asks turn (Goes new) → StaysOr old new
  after_answers (Err why) turn unasked = inl (goes_is new old unasked.says.1)
  after_answers (Ok asked) turn (inl answers) =
      after_asked (stopped_by asked.request) (moment_at old answers.now) asked turn.output answers.asks
  after_answers (Ok asked) turn (inr unasked) = inl (goes_is new old unasked.says.1)

  pub after_message : (people : People) (bytes : List ℕ) (turn : InputTurn)
      → AnswersMessage people old bytes turn (Goes new) → StaysOr old new
  after_message people bytes turn answers = after_answers (heard people answers.message) turn answers.answers

-- ---- a replica is a prefix

module _ (history : List Entry) (h : IsHistory history) where
  -- the position of what so many first entries make
  pub told_at : (n : ℕ) (base : Base) → IsAt history n base → base.entries ≡ n
  told_at n base at =
      let entries : base.entries ≡ (after_all origin (take n history)).entries = ap (λ (b : Base). b.entries) at.is in
      omega (arith, entries, after_count origin (take n history), length-take n history, at.within)

  climbs_to : (n m : ℕ) (base : Base) → n ≤ m → IsAt history m base → Climbs history n base
  climbs_to n m base rises at = record { count = m; rises = rises; prefix = at; told = told_at m base at }

  same_place : (n : ℕ) (old new : Base) → new ≡ old → IsAt history n old → Climbs history n new
  same_place n old new same at =
      climbs_to n n new (omega arith) (subst (λ (b : Base). IsAt history n b) (sym same) at)

  frame_climbs : (n : ℕ) (old : Replica) (frame : Frame) (answer : Taken) (new : Replica) → IsAt history n old.base
      → IsOf history frame → Takes old frame answer new → Climbs history n new.base
  frame_climbs n old frame answer new at of takes = by old.promoted takes
    where
      by : (is : Bool) → TakesIf is old frame answer new → Climbs history n new.base
      by true (told, same) = same_place n old.base new.base (ap (λ (r : Replica). r.base) same) at
      by false (taken, region, going) =
          let step : Step = record { frame = frame; answer = answer; after = new.base } in
          let one = follows_history history n old.base (step ∷ []) h at (of, tt) (taken, tt) in
          climbs_to n one.0 new.base one.1 one.2

  turn_climbs : (n : ℕ) (old new : State) (frame : Frame) (turn : InputTurn) → IsAt history n old.replica.base
      → IsOf history frame → TakesFrame old frame turn (Goes new) → Climbs history n new.replica.base
  turn_climbs n old new frame turn at of takes =
      subst (λ (s : State). Climbs history n s.replica.base)
      (sym (goes_is new (record old { replica = takes.new }) takes.goes))
      (frame_climbs n old.replica frame takes.answer takes.new at of takes.takes)

  message_climbs : (people : People) (n : ℕ) (old new : State) (bytes : List ℕ) (turn : InputTurn)
      → IsAt history n old.replica.base → AnswersMessage people old bytes turn (Goes new)
      → Climbs history n new.replica.base
  message_climbs people n old new bytes turn at answers = elim (after_message old new people bytes turn answers) [
    | inl is ↦ same_place n old.replica.base new.replica.base (ap (λ (s : State). s.replica.base) is) at
    | inr is ↦ same_place n old.replica.base new.replica.base (ap (λ (s : State). s.replica.base) is) at
  ]

  pub run_climbs : (people : People) (n : ℕ) (old : State) (inputs : List Input) (turns : List InputTurn) (new : State)
      → IsAt history n old.replica.base → AllOf history (frames_in inputs) → InputTurnsOf people old inputs turns new
      → Climbs history n new.replica.base
  run_climbs people n old [] turns new at all (none, is) =
      same_place n old.replica.base new.replica.base (ap (λ (s : State). s.replica.base) is) at
  run_climbs people n old (read.Frame frame ∷ others) turns new at all (turn, later, mid, one, are, rest) =
      let first = turn_climbs n old mid frame turn at all.0 one in
      let next = run_climbs people first.count mid others later new first.prefix all.1 rest in
      climbs_to n next.count new.replica.base (omega (arith, first.rises, next.rises)) next.prefix
  run_climbs people n old (read.Message bytes ∷ others) turns new at all (turn, later, mid, one, are, rest) =
      let first = message_climbs people n old mid bytes turn at one in
      let next = run_climbs people first.count mid others later new first.prefix all rest in
      climbs_to n next.count new.replica.base (omega (arith, first.rises, next.rises)) next.prefix

pub is_a_prefix : IsAPrefix
is_a_prefix people history n old inputs turns new h at all run =
    run_climbs history h people n old inputs turns new at all run

-- ---- what the disk holds

module _ (held : Held) where
  frame_holds : (old new : State) (frame : Frame) (turn : InputTurn) → HoldsBy old.replica.promoted held old
      → TakesFrame old frame turn (Goes new) → HoldsBy new.replica.promoted held new
  frame_holds old new frame turn holds takes =
      subst (λ (s : State). HoldsBy s.replica.promoted held s)
      (sym (goes_is new (record old { replica = takes.new }) takes.goes))
      (by old.replica.promoted takes.takes holds)
    where
      by : (is : Bool) → TakesIf is old.replica frame takes.answer takes.new → HoldsBy is held old
          → HoldsBy takes.new.promoted held (record old { replica = takes.new })
      by true (told, same) kept =
          subst (λ (r : Replica). HoldsBy r.promoted held (record old { replica = r })) (sym same) holds
      by false (taken, region, going) kept =
          subst (λ (p : Bool). HoldsBy p held (record old { replica = takes.new })) (sym going) kept

  message_holds : (people : People) (old new : State) (bytes : List ℕ) (turn : InputTurn)
      → HoldsBy old.replica.promoted held old → AnswersMessage people old bytes turn (Goes new)
      → HoldsBy new.replica.promoted held new
  message_holds people old new bytes turn holds answers = elim (after_message old new people bytes turn answers) [
    | inl is ↦ subst (λ (s : State). HoldsBy s.replica.promoted held s) (sym is) holds
    | inr is ↦ subst (λ (s : State). HoldsBy s.replica.promoted held s) (sym is) refl
  ]

  run_holds : (people : People) (old : State) (inputs : List Input) (turns : List InputTurn) (new : State)
      → HoldsBy old.replica.promoted held old → InputTurnsOf people old inputs turns new
      → HoldsBy new.replica.promoted held new
  run_holds people old [] turns new holds (none, is) =
      subst (λ (s : State). HoldsBy s.replica.promoted held s) (sym is) holds
  run_holds people old (read.Frame frame ∷ others) turns new holds (turn, later, mid, one, are, rest) =
      run_holds people mid others later new (frame_holds old mid frame turn holds one) rest
  run_holds people old (read.Message bytes ∷ others) turns new holds (turn, later, mid, one, are, rest) =
      run_holds people mid others later new (message_holds people old mid bytes turn holds one) rest

pub keeps_or_promotes : KeepsOrPromotes
keeps_or_promotes people held old inputs turns new holds run = run_holds held people old inputs turns new holds run

-- ---- an account may be opened over it

timely_front : (n : ℕ) (entries : List Entry) → InTime entries → InTime (take n entries)
timely_front zero entries early = tt
timely_front (suc n) [] early = tt
timely_front (suc n) (e ∷ es) early = (early.0, timely_front n es early.1)

-- what so many first entries of a history make
lawful_at : (history : List Entry) (n : ℕ) (base : Base) → IsHistory history → IsAt history n base
    → IsLawful (only base)
lawful_at history n base h at =
    let front : Held = record { base = None; entries = take n history } in
    let lawful : IsLawful front = record {
      sound = nothing_sound;
      come = come_front origin (take n history) (drop n history)
          (subst (MayCome origin) (sym (take-append-drop n history)) h.come);
      timely = timely_front n history h.timely;
    } in
    subst (λ (b : Base). IsLawful (only b)) (sym at.is) (stays_lawful front lawful)

-- before all entries
pub at_first : (history : List Entry) → IsAt history 0 origin
at_first history = record { within = omega arith; is = refl }

holds_kept : (is : Bool) (held : Held) (state : State) → HoldsBy is held state → is ≡ false → state.held ≡ held
holds_kept false held state holds e = holds
holds_kept true held state holds e = cc

holds_promoted : (is : Bool) (held : Held) (state : State) → HoldsBy is held state → is ≡ true
    → state.held ≡ only state.replica.base
holds_promoted false held state holds e = cc
holds_promoted true held state holds e = holds

module _ {D : Type 0} (G : Ghosts D) (people : People) (region : List ℕ) (end : End) (before after : Around)
    (old new : D) (run : FollowsOver G people region end before after old new) (history : List Entry) (state : State)
    (is : run.onward ≡ Goes state) where
  pub run_turns : InputTurnsOf people (first_state region run.held) run.followed.inputs run.followed.turns state
  run_turns =
      subst (λ (w : Onward). Follows people (first_state region run.held) run.followed.inputs run.followed.turns w) is
      run.followed.follows

  run_on_disk : KeepsOnDisk (Sure state.held) (G.sight new)
  run_on_disk = subst (λ (w : Onward). KeepsOnDisk (kept_of w) (G.sight new)) is run.on_disk

  leaves_prefix : IsHistory history → AllOf history (frames_in run.followed.inputs)
      → LeavesPrefix G history run.held state new
  leaves_prefix h all =
      let first = first_state region run.held in
      let climbed = run_climbs history h people 0 first run.followed.inputs run.followed.turns state
      (at_first history) all run_turns in
      let holds = run_holds run.held people first run.followed.inputs run.followed.turns state refl run_turns in
      record {
        prefix = subst (λ (n : ℕ). IsAt history n state.replica.base) (sym climbed.told) climbed.prefix;
        kept = λ not. subst (λ (w : Held). KeepsOnDisk (Sure w) (G.sight new))
            (holds_kept state.replica.promoted run.held state holds not) run_on_disk;
        promoted = λ was. subst (λ (w : Held). KeepsOnDisk (Sure w) (G.sight new))
            (holds_promoted state.replica.promoted run.held state holds was) run_on_disk;
        lawful = lawful_at history climbed.count state.replica.base h climbed.prefix;
      }

pub runs_leave_prefix : {D : Type 0} (G : Ghosts D) → RunsLeavePrefix G
runs_leave_prefix G people region end before after old new run history state h all is =
    leaves_prefix G people region end before after old new run history state is h all
