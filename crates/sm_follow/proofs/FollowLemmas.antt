-- A replica's stream, from where its loop stands to where it ends.
use Rattle.std.proofs.Common.{◌≡◌, ℕ, ◌+◌, ◌<◌, ◌≤◌, List, Option, None, Ok, Err, inl, inr, sym, ap, subst, arith}
use Rattle.std.specs.Io.KnownBytes.{IsAtEnd}
use Rattle.sm_base.specs.Faults.{Rose}
use Rattle.sm_base.specs.declared.limits.TheConstants.{JOURNAL_LIMIT}
use Rattle.sm_disk.specs.declared.disk.Disk.{Ghosts}
use Rattle.sm_replication.specs.declared.input.Input.{Input}
use Rattle.sm_replication.specs.declared.reader.NextFrame.{NextFrame}
use Rattle.sm_replication.specs.declared.reader.NextFrame.TheVariants as next
use Rattle.sm_replication.specs.Reading.{FrameReaderState, Reads as ReadsFrame}
use Rattle.sm_principal.specs.declared.people.People.{People}
use Rattle.sm_session.specs.Endings.{Sides}
use Rattle.sm_follow.specs.declared.end.End.{End}
use Rattle.sm_follow.specs.declared.end.End.TheVariants as ends
use Rattle.sm_follow.specs.declared.follower.Follower.{Follower}
use Rattle.sm_follow.specs.Disks.{IfFails, KeepsOnDisk, Stands, disk_in}
use Rattle.sm_follow.specs.Steps.{OnInputEnd, OnInputFault, Steps, Written, next_of}
use Rattle.sm_follow.specs.Streams.{Around, Followed, frame_limit}
use Rattle.sm_follow.specs.InputTurns.{Fails, Goes, Lacks, Onward, State, Sure, kept_of}
use Rattle.sm_follow.proofs.CourseLemmas.{Course, Place, course_ends, course_enough, course_more, course_nowhere, course_stops, reads_going, told_at}
use Rattle.sm_follow.proofs.TurnLemmas.{keeps_opened}

-- a stream that ended, and what stands on the disk then
abbrev pub Ended : {D : Type 0} → Ghosts D → People → State → ℕ → End → D → Around → Around → Type 0
Ended G people old faults end disk before after = (onward : Onward) × Followed people old end before after onward
    × KeepsOnDisk (kept_of onward) (G.sight disk) × IfFails onward (Rose faults (G.faults disk))

-- a count that rose since rose since before
pub fails_earlier : (onward : Onward) (first before now : ℕ) → first ≤ before → IfFails onward (Rose before now)
    → IfFails onward (Rose first now)
fails_earlier (Goes state) first before now later cause = tt
fails_earlier (Fails kept) first before now later cause = omega (arith, later, cause)
fails_earlier (Lacks kept) first before now later cause = tt

-- a reader that gave a frame goes on
pub open_after : (old : FrameReaderState) (input : Input) (answer : NextFrame) (new : FrameReaderState)
    (before after : Option (List ℕ)) → old.ended ≡ None → next_of (Ok input) answer
    → ReadsFrame old answer new before after → new.ended ≡ None
open_after old input answer new before after going is reads =
    let taken = reads_going old (next.Input input) new before after going
    (subst (λ (n : NextFrame). ReadsFrame old n new before after) is reads) in
    ap (λ (r : FrameReaderState). r.ended) taken.2.3

-- where the loop stands: what the follower holds is the course's last state
abbrev pub FollowedSoFar : {D : Type 0} {G : Ghosts D} → People → State → Around → ℕ → Follower D G → Place → Type 0
FollowedSoFar people old before number follower at =
    (now : State) × Stands now follower × Course people old before number now at

-- a sink beside the loop
abbrev pub written_at : Place → Written
written_at at = record { count = at.count; taken = at.now.sides.taken; faults = at.now.sides.sink }

abbrev pub written_by : Sides → ℕ → Written
written_by sides count = record { count = count; taken = sides.taken; faults = sides.sink }

module _ {D : Type 0} {G : Ghosts D} (people : People) (old : State) (before : Around) (number : ℕ)
    (follower : Follower D G) (at : Place) (first : ℕ) (s : FollowedSoFar people old before number follower at) where
  kept_on : (disk : D) → disk ≡ disk_in follower → KeepsOnDisk (Sure s.0.held) (G.sight disk)
  kept_on disk is =
      subst (λ d. KeepsOnDisk (Sure s.0.held) (G.sight d)) (sym is)
      (keeps_opened JOURNAL_LIMIT s.0.held follower.store s.1.store)

  -- as many frames were read as are read at most
  pub ended_enough : (disk : D) → disk ≡ disk_in follower → number ≡ frame_limit
      → Ended G people old first ends.Enough disk before at.now
  ended_enough disk is all =
      (Goes s.0, course_enough people old before number s.0 at s.2 all, kept_on disk is, tt)

  module _ (left : Option (List ℕ)) (source : ℕ) (reader' : FrameReaderState) (going : at.reader.ended ≡ None)
      (later : at.now.sides.source ≤ source) (few : number < frame_limit) where
    -- the reader stopped
    pub ended_stopped : (end : End) (answer : NextFrame) → next_of (Err end) answer
        → ReadsFrame at.reader answer reader' at.now.sides.left left → OnInputEnd (Err end) (IsAtEnd left)
        → OnInputFault (Err end) (Rose at.now.sides.source source) → (disk : D) → disk ≡ disk_in follower
        → Ended G people old first end disk before
        (record at.now { sides = record at.now.sides { left = left; source = source } })
    ended_stopped end answer is reads at_end fault disk disk_is =
        let taken = reads_going at.reader answer reader' at.now.sides.left left going reads in (
          Goes s.0,
          course_stops people old before number s.0 at s.2 left source reader' taken.0 taken.1 later few end answer is
              taken.2 at_end fault,
          kept_on disk disk_is,
          tt,
        )

    -- a frame was read
    module _ (input : Input) (answer : NextFrame) (is : next_of (Ok input) answer)
        (reads : ReadsFrame at.reader answer reader' at.now.sides.left left) (sides : Sides)
        (readings' : Option (List ℕ)) (count' : ℕ) (left_is : sides.left ≡ left) (source_is : sides.source ≡ source)
        (sink_later : at.now.sides.sink ≤ sides.sink) where
      input_reads : ReadsFrame at.reader (next.Input input) reader' at.now.sides.left left
      input_reads = subst (λ (n : NextFrame). ReadsFrame at.reader n reader' at.now.sides.left left) is reads

      -- and the replica goes on
      pub stands_on : (follower' : Follower D G)
          → Steps people s.0 input (Ok follower') (G.faults (disk_in follower)) at.now.readings readings'
          (written_at at) (written_by sides count')
          → FollowedSoFar people old before (number + 1) follower'
          (record { now = told_at at.now sides readings'; reader = reader'; count = count' })
      stands_on follower' on =
          let taken = reads_going at.reader (next.Input input) reader' at.now.sides.left left going input_reads in (
            on.new,
            on.stands,
            course_more people old before number s.0 at s.2 left source reader' taken.0 taken.1 later few input taken.2
                follower' sides readings' count' left_is source_is on sink_later,
          )

      -- and the run ends behind it
      pub ended_behind : (ended : End × D)
          → Steps {G = G} people s.0 input (Err ended) (G.faults (disk_in follower)) at.now.readings readings'
          (written_at at) (written_by sides count')
          → first ≤ G.faults (disk_in follower)
          → Ended G people old first ended.0 ended.1 before (told_at at.now sides readings')
      ended_behind ended steps since =
          let taken = reads_going at.reader (next.Input input) reader' at.now.sides.left left going input_reads in
          elim steps [
            | inl on ↦ (
              on.onward,
              course_ends people old before number s.0 at s.2 left source reader' taken.0 taken.1 later few input
                  taken.2 G ended.0 ended.1 (G.faults (disk_in follower)) sides readings' count' left_is source_is on
                  sink_later,
              on.on_disk,
              fails_earlier on.onward first (G.faults (disk_in follower)) (G.faults ended.1) since on.cause,
            )
            | inr none ↦ (
              Goes s.0,
              course_nowhere people old before number s.0 at s.2 left source reader' taken.0 taken.1 later few input
                  taken.2 G ended.0 ended.1 sides readings' count' left_is source_is none sink_later,
              none.on_disk,
              tt,
            )
          ]
