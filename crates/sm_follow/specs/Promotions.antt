-- What the steps of a promotion answer.
use Rattle.std.specs.Prelude.{◌≡◌, ⊤, ℕ, Option, None, Some}
use Rattle.sm_base.specs.Faults.{Rose}
use Rattle.sm_base.specs.declared.limits.TheConstants.{JOURNAL_LIMIT}
use Rattle.sm_disk.specs.declared.disk.Disk.{Ghosts}
use Rattle.sm_journal.specs.declared.answers.OpenRefused.{OpenRefused}
use Rattle.sm_journal.specs.declared.answers.OpenRefused.TheVariants as refusals
use Rattle.sm_model.specs.declared.why.Why.{Why}
use Rattle.sm_model.specs.declared.why.Why.TheVariants as whys
use Rattle.sm_record.specs.declared.base.Base.{Base}
use Rattle.sm_replica.specs.Replicas.{Replica}
use Rattle.sm_reply.specs.Shown.{refused}
use Rattle.sm_session.specs.declared.said.Said.{Said}
use Rattle.sm_session.specs.declared.said.Said.TheVariants as said
use Rattle.sm_session.specs.Replies.{Says}
use Rattle.sm_store.specs.Stores.{IsOpened}
use Rattle.sm_store.specs.Held.{Held, only}
use Rattle.sm_follow.specs.declared.end.End.{End}
use Rattle.sm_follow.specs.declared.end.End.TheVariants as ends
use Rattle.sm_follow.specs.declared.follower.Turned.{Turned}
use Rattle.sm_follow.specs.declared.follower.Turned.TheVariants as turned
use Rattle.sm_follow.specs.declared.output.Output.{Output}
use Rattle.sm_follow.specs.declared.output.Output.TheVariants as outputs
use Rattle.sm_follow.specs.declared.promoting.Allowed.{Allowed}
use Rattle.sm_follow.specs.declared.promoting.Allowed.TheVariants.{Yes, No, Memory}
use Rattle.sm_follow.specs.Disks.{KeepsOnDisk}
use Rattle.sm_follow.specs.InputTurns.{Either}

-- out of memory, or that nothing refuses the promotion, the forms before all, or what refuses it
abbrev pub AllowsBy : Allowed → Option Why → Option Why → Type 0
AllowsBy Yes refusal forms = (refusal ≡ None) × (forms ≡ None)
AllowsBy (No why) refusal forms = refusal ≡ Some why
AllowsBy Memory refusal forms = ⊤

-- how a run ends where a base was not put on the disk, and what is said of it
abbrev pub StopsPut : End → Output → Type 0 → Type 0
StopsPut ends.DiskFault output Cause =
    Cause × ((reply : Said) × (output ≡ outputs.Reply reply) × Says reply (refused whys.DiskFault))
StopsPut ends.Memory output Cause = output ≡ outputs.Reply said.Memory
StopsPut other output Cause = ⊥

-- how a run ends at a refusal of the store, with the disk that it hands back
abbrev pub EndsRefused : {D : Type 0} {G : Ghosts D} → OpenRefused D → Turned D G → Type 0
EndsRefused (refusals.Failed disk) t = (reply : Said) × Says reply (refused whys.DiskFault)
    × (t ≡ turned.Ends ends.DiskFault disk (outputs.Reply reply))
EndsRefused (refusals.Memory disk) t = t ≡ turned.Ends ends.Memory disk (outputs.Reply said.Memory)
EndsRefused (refusals.Damaged disk damage) t = ⊥

-- The base was put on the disk, and this is said. Or the disk failed, or there was no memory; then each image has what
-- was held or the base.
abbrev pub PutsBase : {D : Type 0} {G : Ghosts D} → Held → Base → Replica → Said → ℕ → Turned D G → Type 0
PutsBase held base replica wanted faults (turned.On next output) =
    IsOpened JOURNAL_LIMIT (only base) next.store × (next.replica ≡ replica) × (output ≡ outputs.Reply wanted)
PutsBase {D} {G} held base replica wanted faults (turned.Ends end disk output) =
    KeepsOnDisk (Either held (only base)) (G.sight disk) × StopsPut end output (Rose faults (G.faults disk))
PutsBase held base replica wanted faults (turned.Lacks disk) = ⊥
