-- What a run over one stream comes to.
use Rattle.std.specs.Prelude.{◌≡◌, ◌⊎◌}
use Rattle.sm_disk.specs.declared.disk.Disk.{Ghosts}
use Rattle.sm_principal.specs.Callers.{people_of}
use Rattle.sm_rotation.specs.Vouched.{Replies}
use Rattle.sm_command_line.specs.Reading.{settings_of}
use Rattle.sm_server.specs.declared.status.Status.{Status}
use Rattle.sm_server.specs.declared.status.Status.TheVariants.{Memory}
use Rattle.sm_server.specs.Complete.{AreFollowed, Orders, Ran}
use Rattle.sm_server.specs.Follows.{RunsReplica}
use Rattle.sm_server.specs.Outside.{Outside}
use Rattle.sm_server.specs.Ran.{Story}
use Rattle.sm_server.specs.Stored.{Leaves, StaysVouched, WantsBy}

-- A run that opens an account, or ends before that: how it went, and what stands on the disk.
abbrev pub RunsAccount : {D : Type 0} → Ghosts D → Replies → Orders → Status → Outside → Outside → D → D → Type 0
RunsAccount G replies orders status before after old new =
    (story : Story) × (ran : Ran replies orders status before after story) × Leaves G status story old new
    × (status ≡ Memory → WantsBy G (AreFollowed (settings_of orders.words) (people_of orders.people) story) story
    ran.runs.input ran.runs.trace old new)
    × ∥ StaysVouched replies story.taken story.history story.failed ∥₁

-- A run by its words: one of an account, or one of a replica.
abbrev pub RunsBy : {D : Type 0} → Ghosts D → Replies → Orders → Status → Outside → Outside → D → D → Type 0
RunsBy G replies orders status before after old new =
    RunsAccount G replies orders status before after old new
    ⊎ RunsReplica G (settings_of orders.words) (people_of orders.people) status before after old new
