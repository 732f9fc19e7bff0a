-- What stands on the disk of a replica.
use Rattle.std.proofs.Common.{◌≡◌, ◌≤◌, ℕ, List, arith, refl, sym, subst}
use Rattle.sm_disk.specs.AllFiles.{LeavesBy}
use Rattle.sm_disk.specs.Sight.{Sight}
use Rattle.sm_disk.specs.declared.disk.Disk.{Ghosts}
use Rattle.sm_journal.specs.declared.answers.OpenRefused.{OpenRefused}
use Rattle.sm_journal.specs.declared.answers.OpenRefused.TheVariants as refusals
use Rattle.sm_journal.specs.declared.format.Format.{Format}
use Rattle.sm_principal.specs.declared.people.People.{People}
use Rattle.sm_record.specs.declared.base.Base.{Base}
use Rattle.sm_replica.specs.Replicas.{Replica}
use Rattle.sm_session.specs.declared.said.Said.{Said}
use Rattle.sm_store.specs.Files.{HoldsAs}
use Rattle.sm_store.specs.Openings.{ListsStay, ReadsActive}
use Rattle.sm_store.specs.Stores.{IsStopped, disk_in as handed_in}
use Rattle.sm_store.specs.Held.{Held, HeldOr, only}
use Rattle.sm_follow.specs.declared.end.End.{End}
use Rattle.sm_follow.specs.declared.follower.Turned.{Turned}
use Rattle.sm_follow.specs.Disks.{FollowsOver, IfOn, IsLater, IsSure, KeepsOnDisk, first_state}
use Rattle.sm_follow.specs.Promotions.{EndsRefused, PutsBase}
use Rattle.sm_follow.specs.Streams.{Around}
use Rattle.sm_follow.specs.InputTurns.{Either}
use Rattle.sm_follow.proofs.FollowLemmas.{Ended, fails_earlier}

-- a refused checkpoint leaves each image with what was held, or with the base
either_kept : (old now : Sight) (held new : Held) → LeavesBy (HeldOr held new) (HeldOr held new) old now
    → KeepsOnDisk (Either held new) now
either_kept old now held new leaves = λ c image. (leaves.images c image).2

module _ {D : Type 0} {G : Ghosts D} (first : D) where
  -- the run ends behind it
  pub refused_puts : (old : Sight) (held : Held) (base : Base) (replica : Replica) (wanted : Said)
      (refused : OpenRefused D) (t : Turned D G) → IsStopped G first refused
      → LeavesBy (HeldOr held (only base)) (HeldOr held (only base)) old (G.sight (handed_in refused))
      → EndsRefused refused t → PutsBase held base replica wanted (G.faults first) t
  refused_puts old held base replica wanted (refusals.Failed disk) t stopped left (reply, says, is) =
      subst (λ (x : Turned D G). PutsBase held base replica wanted (G.faults first) x) (sym is)
      (either_kept old (G.sight disk) held (only base) left, (stopped.1, (reply, refl, says)))
  refused_puts old held base replica wanted (refusals.Memory disk) t stopped left is =
      subst (λ (x : Turned D G). PutsBase held base replica wanted (G.faults first) x) (sym is)
      (either_kept old (G.sight disk) held (only base) left, refl)
  refused_puts old held base replica wanted (refusals.Damaged disk damage) t stopped left ends = absurd ends

  pub refused_sure : (refused : OpenRefused D) (t : Turned D G) → EndsRefused refused t → IfOn t IsSure
  refused_sure (refusals.Failed disk) t (reply, says, is) =
      subst (λ (x : Turned D G). IfOn x IsSure) (sym is) tt
  refused_sure (refusals.Memory disk) t is = subst (λ (x : Turned D G). IfOn x IsSure) (sym is) tt
  refused_sure (refusals.Damaged disk damage) t ends = absurd ends

  pub refused_later : (refused : OpenRefused D) (t : Turned D G) → IsStopped G first refused → EndsRefused refused t
      → IsLater (G.faults first) t
  refused_later (refusals.Failed disk) t stopped (reply, says, is) =
      subst (λ (x : Turned D G). IsLater (G.faults first) x) (sym is) stopped.0
  refused_later (refusals.Memory disk) t stopped is =
      let later : G.faults first ≤ G.faults disk = omega (arith, stopped) in
      subst (λ (x : Turned D G). IsLater (G.faults first) x) (sym is) later
  refused_later (refusals.Damaged disk damage) t stopped ends = absurd ends

-- a stream over what an opening took
pub followed_over : {D : Type 0} (G : Ghosts D) (people : People) (region : List ℕ) (end : End) (before after : Around)
    (disk opened new : D) (format : Format) (held : Held) → ReadsActive (HoldsAs format held) (G.sight disk)
    → ListsStay (G.sight disk) (G.sight opened) → G.faults opened ≡ G.faults disk
    → Ended G people (first_state region held) (G.faults opened) end new before after → G.faults opened ≤ G.faults new
    → FollowsOver G people region end before after disk new
followed_over G people region end before after disk opened new format held found stays same ended later = record {
  opened = opened;
  format = format;
  held = held;
  found = found;
  stays = stays;
  onward = ended.0;
  followed = ended.1;
  on_disk = ended.2;
  cause = fails_earlier ended.0 (G.faults disk) (G.faults opened) (G.faults new) (omega (arith, same))
      ended.3;
  later = omega (arith, same, later);
}
