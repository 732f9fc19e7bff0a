-- One step of a replica's stream: what an input came to, and what was written of it.
use Rattle.std.proofs.Common.{◌≡◌, ℕ, List, Option, Some, None, inl, inr, refl, sym, ap, subst, ◌∙◌}
use Rattle.std.specs.Io.KnownBytes.{append_known}
use Rattle.sm_base.specs.declared.limits.TheConstants.{JOURNAL_LIMIT}
use Rattle.sm_disk.specs.Sight.{Sight}
use Rattle.sm_disk.specs.declared.disk.Disk.{Ghosts}
use Rattle.sm_replication.specs.declared.input.Input.{Input}
use Rattle.sm_principal.specs.declared.people.People.{People}
use Rattle.sm_session.specs.Replies.{reply_of}
use Rattle.sm_io.proofs.Known.{append_known-nil}
use Rattle.sm_follow.specs.declared.end.End.{End}
use Rattle.sm_follow.specs.declared.end.End.TheVariants as ends
use Rattle.sm_follow.specs.declared.follower.Follower.{Follower}
use Rattle.sm_follow.specs.declared.follower.Turned.TheVariants as turned
use Rattle.sm_follow.specs.declared.output.Output.{Output as outputs}
use Rattle.sm_follow.specs.declared.output.Output.TheVariants as said
use Rattle.sm_follow.specs.Disks.{ComesTo, KeepsOnDisk, disk_in, ends_with}
use Rattle.sm_follow.specs.Outputs.{IsWritten, Outgoing, Position, Puts, Reply}
use Rattle.sm_follow.specs.Steps.{EndsOutput, GoesNoFurther, GoesNowhere, GoesOn, IsFailed, Written, WritesWhole}
use Rattle.sm_follow.specs.InputTurns.{Goes, Kept, Onward, State, Sure, kept_of}
use Rattle.sm_follow.proofs.TurnLemmas.{keeps_opened}

-- ---- where an input ends the run

kept_at_end : (end : End) (kept : Kept) (onward : Onward) (now : Sight) → ends_with end kept onward
    → KeepsOnDisk kept now → KeepsOnDisk (kept_of onward) now
kept_at_end ends.DiskFault kept onward now is keeps = subst (λ (w : Onward). KeepsOnDisk (kept_of w) now) (sym is) keeps
kept_at_end ends.Memory kept onward now is keeps = subst (λ (w : Onward). KeepsOnDisk (kept_of w) now) (sym is) keeps
kept_at_end ends.Closed kept onward now is keeps = absurd is
kept_at_end (ends.Cut count) kept onward now is keeps = absurd is
kept_at_end (ends.Bad at) kept onward now is keeps = absurd is
kept_at_end ends.Enough kept onward now is keeps = absurd is
kept_at_end ends.ReadFault kept onward now is keeps = absurd is
kept_at_end (ends.WriteFault count) kept onward now is keeps = absurd is

whole_at_end : (end : End) (kept : Kept) (onward : Onward) (output : Outgoing) (before after : Written)
    → ends_with end kept onward → WritesWhole output before after → EndsOutput end onward output before after
whole_at_end ends.DiskFault kept onward output before after is whole = (subst IsFailed (sym is) tt, whole)
whole_at_end ends.Memory kept onward output before after is whole = inr whole
whole_at_end ends.Closed kept onward output before after is whole = absurd is
whole_at_end (ends.Cut count) kept onward output before after is whole = absurd is
whole_at_end (ends.Bad at) kept onward output before after is whole = absurd is
whole_at_end ends.Enough kept onward output before after is whole = absurd is
whole_at_end ends.ReadFault kept onward output before after is whole = absurd is
whole_at_end (ends.WriteFault count) kept onward output before after is whole = absurd is

-- ---- where the sink fails, or there is no memory for the output

written_as : (wanted : outputs) → (output : Outgoing) × IsWritten wanted output
written_as (said.Position at) = (Position at, refl)
written_as (said.Reply reply) = (Reply (reply_of reply), refl)

module _ (wanted : outputs) (onward : Onward) (before after : Written) where
  -- how much of an output was written
  abbrev Cuts : End → Type 0
  Cuts end = (output : Outgoing) × IsWritten wanted output × EndsOutput end onward output before after

  cut_at : (end : End)
      → Puts (Some end) wanted before.count after.count before.taken after.taken before.faults after.faults → Cuts end
  cut_at (ends.WriteFault sent) (output, w, size, short, taken, counts, rose) =
      (output, w, record { size = size; short = short; taken = taken; count = counts; rose = rose })
  cut_at ends.Memory same = let some = written_as wanted in (some.0, some.1, inl same)
  cut_at ends.Closed puts = absurd puts
  cut_at (ends.Cut count) puts = absurd puts
  cut_at (ends.Bad at) puts = absurd puts
  cut_at ends.Enough puts = absurd puts
  cut_at ends.ReadFault puts = absurd puts
  cut_at ends.DiskFault puts = absurd puts

-- ---- a step

module _ {D : Type 0} {G : Ghosts D} (people : People) (old : State) (input : Input) (readings : List ℕ) (faults : ℕ)
    (told told' : Option (List ℕ)) (told_is : told' ≡ append_known told readings) (before after : Written)
    (wanted : outputs) where
  -- the replica goes on, and its output was written
  pub goes_on : (next : Follower D G) → ComesTo people old input readings faults (turned.On next wanted)
      → Puts None wanted before.count after.count before.taken after.taken before.faults after.faults
      → GoesOn people old input next told told' before after
  goes_on next (state, stands, comes) (output, w, taken, counts) = record {
    turn = record { readings = readings; output = output };
    new = state;
    turned = comes output w;
    stands = stands;
    told = told_is;
    writes = record { taken = taken; count = counts };
  }

  -- it would go on, but its output was not written
  pub goes_on_unwritten : (next : Follower D G) (end : End) (disk : D) → disk ≡ disk_in next
      → ComesTo people old input readings faults (turned.On next wanted)
      → Puts (Some end) wanted before.count after.count before.taken after.taken before.faults after.faults
      → GoesNoFurther G people old input end disk faults told told' before after
  goes_on_unwritten next end disk is (state, stands, comes) puts =
      let cut = cut_at wanted (Goes state) before after end puts in
      record {
        turn = record { readings = readings; output = cut.0 };
        onward = Goes state;
        turned = comes cut.0 cut.1;
        on_disk = subst (λ d. KeepsOnDisk (Sure state.held) (G.sight d)) (sym is)
            (keeps_opened JOURNAL_LIMIT state.held next.store stands.store);
        cause = tt;
        told = told_is;
        writes = cut.2;
      }

  -- the run ends behind its output
  pub ends_behind : (end : End) (disk : D)
      → ComesTo {G = G} people old input readings faults (turned.Ends end disk wanted)
      → Puts None wanted before.count after.count before.taken after.taken before.faults after.faults
      → GoesNoFurther G people old input end disk faults told told' before after
  ends_behind end disk (kept, onward, is, keeps, cause, comes) (output, w, taken, counts) = record {
    turn = record { readings = readings; output = output };
    onward = onward;
    turned = comes output w;
    on_disk = kept_at_end end kept onward (G.sight disk) is keeps;
    cause = cause;
    told = told_is;
    writes = whole_at_end end kept onward output before after is (record { taken = taken; count = counts });
  }

  -- and that was not written
  pub ends_unwritten : (end cut : End) (disk : D)
      → ComesTo {G = G} people old input readings faults (turned.Ends end disk wanted)
      → Puts (Some cut) wanted before.count after.count before.taken after.taken before.faults after.faults
      → GoesNoFurther G people old input cut disk faults told told' before after
  ends_unwritten end cut disk (kept, onward, is, keeps, cause, comes) puts =
      let some = cut_at wanted onward before after cut puts in
      record {
        turn = record { readings = readings; output = some.0 };
        onward = onward;
        turned = comes some.0 some.1;
        on_disk = kept_at_end end kept onward (G.sight disk) is keeps;
        cause = cause;
        told = told_is;
        writes = some.2;
      }

-- there was no memory to take a frame
pub goes_nowhere : {D : Type 0} {G : Ghosts D} (people : People) (old : State) (input : Input) (readings : List ℕ)
    (faults : ℕ) (told told' : Option (List ℕ)) (before after : Written) (disk : D)
    → told' ≡ append_known told readings → ComesTo {G = G} people old input readings faults (turned.Lacks disk)
    → after.taken ≡ before.taken → GoesNowhere G old ends.Memory disk told told' before after
goes_nowhere people old input readings faults told told' before after disk told_is (keeps, none) same = record {
  lacks = refl;
  on_disk = keeps;
  untold = told_is ∙ ap (append_known told) none ∙ append_known-nil told;
  unwritten = same;
}
