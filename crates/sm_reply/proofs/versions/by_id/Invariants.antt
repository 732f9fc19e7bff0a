use Rattle.std.proofs.Common.{◌≡◌, drop}
use Rattle.serde_json.specs.Data.{no_members}
use Rattle.sm_reply.specs.Shown.{put_versions}
use Rattle.sm_reply.specs.Versions.{staged_members}
use Rattle.sm_reply.proofs.versions.by_id.Given as goal

-- the versions to come go among those so far
abbrev pub invariant-loop-version : goal.invariant-loop-version
invariant-loop-version l = put_versions (drop l.version-index l.versions) (staged_members l.staged.entries)
    ≡ put_versions l.versions no_members
