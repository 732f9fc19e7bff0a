-- A stream of frames as far as it has come.
use Rattle.std.proofs.Common.{◌≡◌, ℕ, ◌+◌, ◌-◌, ◌<◌, ◌≤◌, min, List, [], ◌∷◌, ◌++◌, length, take, Option, None, Err, inl, inr, refl, sym, ap, subst, ◌∙◌, append_assoc, append-nil, length-append, length-take, arith}
use Rattle.std.proofs.lemmas.Grind.{flat_map-append}
use Rattle.std.proofs.lemmas.List.{map-append}
use Rattle.std.specs.Io.KnownBytes.{append_known, prepend_known, IsAtEnd}
use Rattle.std.specs.Prelude.{MatchOption}
use Rattle.sm_base.specs.Faults.{Rose}
use Rattle.sm_disk.specs.declared.disk.Disk.{Ghosts}
use Rattle.sm_replication.specs.declared.input.Input.{Input}
use Rattle.sm_replication.specs.declared.reader.NextFrame.{NextFrame}
use Rattle.sm_replication.specs.declared.reader.NextFrame.TheVariants as next
use Rattle.sm_replication.specs.Frames.{IsFrame, frame_bytes}
use Rattle.sm_replication.specs.Reading.{FrameReaderState, Answers, Reads as ReadsFrame, last_place, stopped}
use Rattle.sm_principal.specs.declared.people.People.{People}
use Rattle.sm_session.specs.Endings.{Sides, count_limit}
use Rattle.sm_io.proofs.Known.{append_known-nil, prepend_known-append, prepend_known-nil, told_more}
use Rattle.sm_follow.specs.declared.end.End.{End}
use Rattle.sm_follow.specs.declared.end.End.TheVariants as ends
use Rattle.sm_follow.specs.declared.follower.Follower.{Follower}
use Rattle.sm_follow.specs.Outputs.{Outgoing, counted, joined, output_bytes}
use Rattle.sm_follow.specs.Steps.{EndsOutput, GoesNoFurther, GoesNowhere, GoesOn, IsFailed, OnInputEnd, OnInputFault, WritesPart, next_of}
use Rattle.sm_follow.specs.Streams.{AreFrames, Around, EndsAt, EndsBy, Followed, Passage, frame_limit, frames_bytes}
use Rattle.sm_follow.specs.InputTurns.{Follows, Goes, Fails, Lacks, Onward, State, InputTurn, InputTurnOf, InputTurnsOf, outputs_of, readings_of}

-- ---- one more

frames_more : (inputs : List Input) (input : Input) → AreFrames inputs → IsFrame input
    → AreFrames (inputs ++ input ∷ [])
frames_more [] input are is = (is, tt)
frames_more (i ∷ inputs) input are is = (are.0, frames_more inputs input are.1 is)

bytes_more : (inputs : List Input) (input : Input)
    → frames_bytes (inputs ++ input ∷ []) ≡ frames_bytes inputs ++ frame_bytes input
bytes_more inputs input =
    flat_map-append frame_bytes inputs (input ∷ [])
    ∙ ap (λ xs. frames_bytes inputs ++ xs) (append-nil (frame_bytes input))

turns_more : (people : People) (old : State) (inputs : List Input) (turns : List InputTurn) (mid : State)
    (input : Input)
    (turn : InputTurn) (new : State) → InputTurnsOf people old inputs turns mid
    → InputTurnOf people mid input turn (Goes new)
    → InputTurnsOf people old (inputs ++ input ∷ []) (turns ++ turn ∷ []) new
turns_more people old [] turns mid input turn new (none, same) turned = (
  turn,
  [],
  new,
  subst (λ (s : State). InputTurnOf people s input turn (Goes new)) same turned,
  ap (λ ts. ts ++ turn ∷ []) none,
  (refl, refl),
)
turns_more people old (i ∷ inputs) turns mid input turn new (first, others, next_state, one, are, rest) turned = (
  first,
  others ++ turn ∷ [],
  next_state,
  one,
  ap (λ ts. ts ++ turn ∷ []) are,
  turns_more people next_state inputs others mid input turn new rest turned,
)

outputs_more : (turns : List InputTurn) (turn : InputTurn)
    → outputs_of (turns ++ turn ∷ []) ≡ outputs_of turns ++ turn.output ∷ []
outputs_more turns turn = map-append (λ (t : InputTurn). t.output) turns (turn ∷ [])

joined_more : (outputs : List Outgoing) (output : Outgoing)
    → joined (outputs ++ output ∷ []) ≡ joined outputs ++ output_bytes output
joined_more outputs output =
    flat_map-append output_bytes outputs (output ∷ [])
    ∙ ap (λ xs. joined outputs ++ xs) (append-nil (output_bytes output))

readings_more : (turns : List InputTurn) (turn : InputTurn)
    → readings_of (turns ++ turn ∷ []) ≡ readings_of turns ++ turn.readings
readings_more turns turn =
    flat_map-append (λ (t : InputTurn). t.readings) turns (turn ∷ [])
    ∙ ap (λ xs. readings_of turns ++ xs) (append-nil turn.readings)

-- a reader that goes on answers by the bytes that it held and those that it took
pub reads_going : (old : FrameReaderState) (answer : NextFrame) (new : FrameReaderState)
    (before after : Option (List ℕ)) → old.ended ≡ None → ReadsFrame old answer new before after
    → (taken : List ℕ) × (before ≡ prepend_known taken after) × Answers old (old.ahead ++ taken) answer new
reads_going old answer new before after going reads =
    subst (λ o. MatchOption o ((taken : List ℕ) × (before ≡ prepend_known taken after)
    × Answers old (old.ahead ++ taken) answer new) (λ why. (answer ≡ stopped why) × (new ≡ old))) going reads

-- ---- the course of a stream

-- a place of a stream: what is around it, what the reader holds, and how many bytes are counted
pub record Place : Type 0 where
  pub now : Around
  pub reader : FrameReaderState
  pub count : ℕ

-- So many frames were read from before to now, and what they came to was written.
pub record Course (people : People) (old : State) (before : Around) (number : ℕ) (state : State) (at : Place) : Type 0
  where
    pub input : List ℕ
    pub inputs : List Input
    pub size : length inputs ≡ number
    pub frames : AreFrames inputs
    pub turns : List InputTurn
    pub goes : InputTurnsOf people old inputs turns state
    pub reads : before.sides.left ≡ prepend_known input at.now.sides.left
    pub parts : input ≡ frames_bytes inputs ++ at.reader.ahead
    pub place : at.reader.at ≡ min (length (frames_bytes inputs)) last_place
    pub going : at.reader.ended ≡ None
    pub writes : at.now.sides.taken ≡ append_known before.sides.taken (joined (outputs_of turns))
    pub counts : at.count ≡ min (length (joined (outputs_of turns))) count_limit
    pub readings : at.now.readings ≡ append_known before.readings (readings_of turns)
    pub source : before.sides.source ≤ at.now.sides.source
    pub sink : before.sides.sink ≤ at.now.sides.sink

pub course_first : (people : People) (old : State) (around : Around) (reader : FrameReaderState)
    → reader ≡ record { ahead = []; at = 0; ended = None }
    → Course people old around 0 old (record { now = around; reader = reader; count = 0 })
course_first people old around reader fresh = record {
  input = [];
  inputs = [];
  size = refl;
  frames = tt;
  turns = [];
  goes = (refl, refl);
  reads = sym (prepend_known-nil around.sides.left);
  parts = sym (ap (λ (r : FrameReaderState). r.ahead) fresh);
  place = ap (λ (r : FrameReaderState). r.at) fresh ∙ omega arith;
  going = ap (λ (r : FrameReaderState). r.ended) fresh;
  writes = sym (append_known-nil around.sides.taken);
  counts = omega arith;
  readings = sym (append_known-nil around.readings);
  source = omega arith;
  sink = omega arith;
}

-- the outside where only what is told changed
abbrev pub told_at : Around → Sides → Option (List ℕ) → Around
told_at now sides readings = record { sides = sides; readings = readings }

module _ (people : People) (old : State) (before : Around) (number : ℕ) (state : State) (at : Place)
    (c : Course people old before number state at) where
  abbrev passage : (input : List ℕ) (left : Option (List ℕ)) (inputs : List Input) (outputs : List Outgoing)
      (written : List ℕ) (source sink : ℕ) → Passage
  passage input left inputs outputs written source sink = record {
    input = input;
    left = left;
    inputs = inputs;
    outputs = outputs;
    written = written;
    source = record { before = before.sides.source; after = source };
    sink = record { before = before.sides.sink; after = sink };
  }

  -- as many frames were read as are read at most
  pub course_enough : number ≡ frame_limit → Followed people old ends.Enough before at.now (Goes state)
  course_enough all = record {
    input = c.input;
    written = joined (outputs_of c.turns);
    inputs = c.inputs;
    frames = c.frames;
    turns = c.turns;
    follows = c.goes;
    reads = c.reads;
    writes = c.writes;
    readings = c.readings;
    ends_at = tt;
    ends = (c.size ∙ all, refl, at.reader.ahead, c.parts);
  }

  module _ (left : Option (List ℕ)) (source : ℕ) (reader' : FrameReaderState) (taken : List ℕ)
      (was : at.now.sides.left ≡ prepend_known taken left) (later : at.now.sides.source ≤ source) where
    abbrev more : List ℕ
    more = c.input ++ taken

    abbrev rest : List ℕ
    rest = at.reader.ahead ++ taken

    reads_more : before.sides.left ≡ prepend_known more left
    reads_more = c.reads ∙ ap (prepend_known c.input) was ∙ prepend_known-append c.input taken left

    parts_more : more ≡ frames_bytes c.inputs ++ rest
    parts_more =
        ap (λ xs. xs ++ taken) c.parts ∙ append_assoc (frames_bytes c.inputs) at.reader.ahead taken

    abbrev sides_now : Sides
    sides_now = record {
      left = left;
      taken = at.now.sides.taken;
      source = source;
      sink = at.now.sides.sink;
    }

    -- the reader stopped, and only what is left of the source changed since
    module _ (few : number < frame_limit) where
      stopped_by : (end : End) → EndsAt end (Goes state)
          → EndsBy end (passage more left c.inputs (outputs_of c.turns) (joined (outputs_of c.turns)) source
          at.now.sides.sink)
          → Followed people old end before (record at.now { sides = sides_now }) (Goes state)
      stopped_by end at_end by = record {
        input = more;
        written = joined (outputs_of c.turns);
        inputs = c.inputs;
        frames = c.frames;
        turns = c.turns;
        follows = c.goes;
        reads = reads_more;
        writes = c.writes;
        readings = c.readings;
        ends_at = at_end;
        ends = by;
      }

      few_is : length c.inputs < frame_limit
      few_is = omega (arith, c.size, few)

      pub course_stops : (end : End) (answer : NextFrame) → next_of (Err end) answer
          → Answers at.reader rest answer reader' → OnInputEnd (Err end) (IsAtEnd left)
          → OnInputFault (Err end) (Rose at.now.sides.source source)
          → Followed people old end before (record at.now { sides = sides_now }) (Goes state)
      course_stops ends.Closed answer is answers at_end fault =
          let a : Answers at.reader rest next.End reader' = subst (λ n. Answers at.reader rest n reader') is answers in
          stopped_by ends.Closed tt (few_is, parts_more ∙ ap (λ xs. frames_bytes c.inputs ++ xs) a.0, at_end, refl)
      course_stops (ends.Cut count) answer is answers at_end fault =
          let a : Answers at.reader rest (next.Cut count) reader' =
          subst (λ n. Answers at.reader rest n reader') is answers in
          stopped_by (ends.Cut count) tt (few_is, refl, rest, parts_more, a.0.2, a.0.0, a.0.1, at_end)
      course_stops (ends.Bad place) answer is answers at_end fault =
          let a : Answers at.reader rest (next.Bad place) reader' =
          subst (λ n. Answers at.reader rest n reader') is answers in
          stopped_by (ends.Bad place) tt (few_is, refl, rest, parts_more, a.0.1, a.0.0 ∙ c.place)
      course_stops ends.ReadFault answer is answers at_end fault =
          let a : Answers at.reader rest next.ReadFault reader' =
          subst (λ n. Answers at.reader rest n reader') is answers in
          stopped_by ends.ReadFault tt (few_is, refl, rest, parts_more, a.0, omega (arith, c.source, fault))
      course_stops ends.Memory answer is answers at_end fault =
          stopped_by ends.Memory tt (
            omega (arith, few_is),
            record {
              first = outputs_of c.turns;
              more = [];
              parts = sym (append-nil (outputs_of c.turns));
              writes = refl;
            },
            rest,
            parts_more,
          )
      course_stops ends.Enough answer is answers at_end fault = absurd is
      course_stops (ends.WriteFault count) answer is answers at_end fault = absurd is
      course_stops ends.DiskFault answer is answers at_end fault = absurd is

    -- a frame was read
    module _ (few : number < frame_limit) (input : Input) (answers : Answers at.reader rest (next.Input input) reader')
      where
        abbrev behind : List ℕ
        behind = answers.0

        is_frame : IsFrame input
        is_frame = answers.1

        rest_is : rest ≡ frame_bytes input ++ behind
        rest_is = answers.2

        abbrev inputs_now : List Input
        inputs_now = c.inputs ++ input ∷ []

        parts_now : more ≡ frames_bytes (c.inputs ++ input ∷ []) ++ behind
        parts_now =
            parts_more ∙ ap (λ xs. frames_bytes c.inputs ++ xs) rest_is
            ∙ sym (append_assoc (frames_bytes c.inputs) (frame_bytes input) behind)
            ∙ ap (λ xs. xs ++ behind) (sym (bytes_more c.inputs input))

        size_now : length (c.inputs ++ input ∷ []) ≡ number + 1
        size_now = omega (arith, length-append c.inputs (input ∷ []), c.size)

        frames_now : AreFrames (c.inputs ++ input ∷ [])
        frames_now = frames_more c.inputs input c.frames is_frame

        place_now : reader'.at ≡ min (length (frames_bytes (c.inputs ++ input ∷ []))) last_place
        place_now =
            let moved : reader'.at ≡ min (at.reader.at + (length rest - length behind)) last_place =
            ap (λ (r : FrameReaderState). r.at) answers.3 in
            let size : length rest ≡ length (frame_bytes input) + length behind =
            ap length rest_is ∙ length-append (frame_bytes input) behind in
            let all : length (frames_bytes (c.inputs ++ input ∷ []))
            ≡ length (frames_bytes c.inputs) + length (frame_bytes input) =
            ap length (bytes_more c.inputs input) ∙ length-append (frames_bytes c.inputs) (frame_bytes input) in
            omega (arith, moved, size, all, c.place)

        -- what a turn's output makes of what was written
        module _ (turn : InputTurn) where
          joined_now : joined (outputs_of (c.turns ++ turn ∷ []))
              ≡ joined (outputs_of c.turns) ++ output_bytes turn.output
          joined_now = ap joined (outputs_more c.turns turn) ∙ joined_more (outputs_of c.turns) turn.output

          counts_now : (count' : ℕ) → count' ≡ counted at.count (length (output_bytes turn.output))
              → count' ≡ min (length (joined (outputs_of (c.turns ++ turn ∷ [])))) count_limit
          counts_now count' is =
              omega (
                arith,
                is,
                c.counts,
                ap length joined_now,
                length-append (joined (outputs_of c.turns)) (output_bytes turn.output),
              )

          told_now : (readings' : Option (List ℕ)) → readings' ≡ append_known at.now.readings turn.readings
              → readings' ≡ append_known before.readings (readings_of (c.turns ++ turn ∷ []))
          told_now readings' is =
              told_more before.readings at.now.readings readings' (readings_of c.turns) turn.readings c.readings is
              ∙ ap (append_known before.readings) (sym (readings_more c.turns turn))

          -- the output was written whole
          whole_now : (taken' : Option (List ℕ))
              → taken' ≡ append_known at.now.sides.taken (output_bytes turn.output)
              → taken' ≡ append_known before.sides.taken (joined (outputs_of (c.turns ++ turn ∷ [])))
          whole_now taken' is =
              told_more before.sides.taken at.now.sides.taken taken' (joined (outputs_of c.turns))
              (output_bytes turn.output) c.writes is ∙ ap (append_known before.sides.taken) (sym joined_now)

        -- the replica goes on
        pub course_more : {D : Type 0} {G : Ghosts D} (next_follower : Follower D G) (sides : Sides)
            (readings' : Option (List ℕ)) (count' : ℕ) → sides.left ≡ left → sides.source ≡ source
            → (on : GoesOn people state input next_follower at.now.readings readings'
            (record { count = at.count; taken = at.now.sides.taken; faults = at.now.sides.sink })
            (record { count = count'; taken = sides.taken; faults = sides.sink }))
            → at.now.sides.sink ≤ sides.sink
            → Course people old before (number + 1) on.new
            (record { now = told_at at.now sides readings'; reader = reader'; count = count' })
        course_more next_follower sides readings' count' left_is source_is on sink_later = record {
          input = more;
          inputs = c.inputs ++ input ∷ [];
          size = size_now;
          frames = frames_now;
          turns = c.turns ++ on.turn ∷ [];
          goes = turns_more people old c.inputs c.turns state input on.turn on.new c.goes on.turned;
          reads = reads_more ∙ ap (prepend_known more) (sym left_is);
          parts = parts_now ∙ ap (λ xs. frames_bytes (c.inputs ++ input ∷ []) ++ xs)
              (sym (ap (λ (r : FrameReaderState). r.ahead) answers.3));
          place = place_now;
          going = ap (λ (r : FrameReaderState). r.ended) answers.3;
          writes = whole_now on.turn sides.taken on.writes.taken;
          counts = counts_now on.turn count' on.writes.count;
          readings = told_now on.turn readings' on.told;
          source = omega (arith, c.source, later, source_is);
          sink = omega (arith, c.sink, sink_later);
        }

        -- there was no memory to take the frame, which counts as none that was read
        pub course_nowhere : {D : Type 0} (G : Ghosts D) (end : End) (disk : D) (sides : Sides)
            (readings' : Option (List ℕ)) (count' : ℕ) → sides.left ≡ left → sides.source ≡ source
            → GoesNowhere G state end disk at.now.readings readings'
            (record { count = at.count; taken = at.now.sides.taken; faults = at.now.sides.sink })
            (record { count = count'; taken = sides.taken; faults = sides.sink })
            → at.now.sides.sink ≤ sides.sink
            → Followed people old end before (told_at at.now sides readings') (Goes state)
        course_nowhere G end disk sides readings' count' left_is source_is on sink_later =
            subst (λ (e : End). Followed people old e before (told_at at.now sides readings') (Goes state))
            (sym on.lacks)
            (record {
              input = more;
              written = joined (outputs_of c.turns);
              inputs = c.inputs;
              frames = c.frames;
              turns = c.turns;
              follows = c.goes;
              reads = reads_more ∙ ap (prepend_known more) (sym left_is);
              writes = on.unwritten ∙ c.writes;
              readings = on.untold ∙ c.readings;
              ends_at = tt;
              ends = (
                omega (arith, c.size, few),
                record {
                  first = outputs_of c.turns;
                  more = [];
                  parts = sym (append-nil (outputs_of c.turns));
                  writes = refl;
                },
                rest,
                parts_more,
              );
            })

        -- the run ends behind the frame
        module _ {D : Type 0} (G : Ghosts D) (end : End) (disk : D) (faults : ℕ) (sides : Sides)
            (readings' : Option (List ℕ)) (count' : ℕ) (left_is : sides.left ≡ left) (source_is : sides.source ≡ source)
            (on : GoesNoFurther G people state input end disk faults at.now.readings readings'
            (record { count = at.count; taken = at.now.sides.taken; faults = at.now.sides.sink })
            (record { count = count'; taken = sides.taken; faults = sides.sink }))
            (sink_later : at.now.sides.sink ≤ sides.sink) where
          abbrev turns_now : List InputTurn
          turns_now = c.turns ++ on.turn ∷ []

          follows_now : (onward : Onward) → InputTurnOf people state input on.turn onward
              → Follows people old inputs_now turns_now onward
          follows_now (Goes new) turned =
              turns_more people old c.inputs c.turns state input on.turn new c.goes turned
          follows_now (Fails kept) turned = record {
            earlier = c.inputs;
            last = input;
            front = c.turns;
            turn = on.turn;
            mid = state;
            inputs_are = refl;
            turns_are = refl;
            goes = c.goes;
            ends = turned;
          }
          follows_now (Lacks kept) turned = record {
            earlier = c.inputs;
            last = input;
            front = c.turns;
            turn = on.turn;
            mid = state;
            inputs_are = refl;
            turns_are = refl;
            goes = c.goes;
            ends = turned;
          }

          limit_is : length inputs_now ≤ frame_limit
          limit_is = omega (arith, size_now, few)

          followed_by : (e : End) (written : List ℕ) → sides.taken ≡ append_known before.sides.taken written
              → EndsAt e on.onward
              → EndsBy e (passage more sides.left inputs_now (outputs_of turns_now) written sides.source sides.sink)
              → Followed people old e before (told_at at.now sides readings') on.onward
          followed_by e written writes at_end by = record {
            input = more;
            written = written;
            inputs = inputs_now;
            frames = frames_now;
            turns = turns_now;
            follows = follows_now on.onward on.turned;
            reads = reads_more ∙ ap (prepend_known more) (sym left_is);
            writes = writes;
            readings = told_now on.turn readings' on.told;
            ends_at = at_end;
            ends = by;
          }

          failed_at : (onward : Onward) → IsFailed onward → EndsAt ends.DiskFault onward
          failed_at (Goes new) is = absurd is
          failed_at (Fails kept) is = tt
          failed_at (Lacks kept) is = absurd is

          ends_by : (e : End) → EndsOutput e on.onward on.turn.output
              (record { count = at.count; taken = at.now.sides.taken; faults = at.now.sides.sink })
              (record { count = count'; taken = sides.taken; faults = sides.sink })
              → Followed people old e before (told_at at.now sides readings') on.onward
          ends_by ends.DiskFault (failed, whole) =
              followed_by ends.DiskFault (joined (outputs_of turns_now)) (whole_now on.turn sides.taken whole.taken)
              (failed_at on.onward failed) (limit_is, refl, behind, parts_now)
          ends_by ends.Memory (inl none) =
              followed_by ends.Memory (joined (outputs_of c.turns)) (none ∙ c.writes) tt (
                limit_is,
                record {
                  first = outputs_of c.turns;
                  more = on.turn.output ∷ [];
                  parts = outputs_more c.turns on.turn;
                  writes = refl;
                },
                behind,
                parts_now,
              )
          ends_by ends.Memory (inr whole) =
              followed_by ends.Memory (joined (outputs_of turns_now)) (whole_now on.turn sides.taken whole.taken) tt (
                limit_is,
                record {
                  first = outputs_of turns_now;
                  more = [];
                  parts = sym (append-nil (outputs_of turns_now));
                  writes = refl;
                },
                behind,
                parts_now,
              )
          ends_by (ends.WriteFault sent) part =
              let written : List ℕ = joined (outputs_of c.turns) ++ take part.size (output_bytes on.turn.output) in
              followed_by (ends.WriteFault sent) written
              (told_more before.sides.taken at.now.sides.taken sides.taken (joined (outputs_of c.turns))
              (take part.size (output_bytes on.turn.output)) c.writes part.taken) tt (
                limit_is,
                record {
                  earlier = outputs_of c.turns;
                  last = on.turn.output;
                  size = part.size;
                  parts = outputs_more c.turns on.turn;
                  short = part.short;
                  writes = refl;
                  counts = sent_is sent part;
                },
                omega (arith, part.rose, c.sink),
                behind,
                parts_now,
              )
            where
              sent_is : (n : ℕ) (p : WritesPart on.turn.output n
                  (record { count = at.count; taken = at.now.sides.taken; faults = at.now.sides.sink })
                  (record { count = count'; taken = sides.taken; faults = sides.sink }))
                  → n ≡ min (length (joined (outputs_of c.turns) ++ take p.size (output_bytes on.turn.output)))
                  count_limit
              sent_is n p =
                  omega (
                    arith,
                    p.count,
                    c.counts,
                    length-append (joined (outputs_of c.turns)) (take p.size (output_bytes on.turn.output)),
                    length-take p.size (output_bytes on.turn.output),
                    p.short,
                  )
          ends_by ends.Closed none = absurd none
          ends_by (ends.Cut n) none = absurd none
          ends_by (ends.Bad n) none = absurd none
          ends_by ends.Enough none = absurd none
          ends_by ends.ReadFault none = absurd none

          pub course_ends : Followed people old end before (told_at at.now sides readings') on.onward
          course_ends = ends_by end on.writes
