use Rattle.std.proofs.Common.{refl, ◌∙◌}
use Rattle.sm_reply.proofs.VersionLemmas.{staged_more}
use Rattle.sm_reply.proofs.versions.by_id.Goals as goal

pub loop-version-preserved : goal.loop-version-preserved
loop-version-preserved c =
    staged_more c.args.versions.now c.loop-version.version-index c.version-item.result c.loop-version.staged.entries
    c.insert.new.self.entries c.as_str-id.result _ _ c.loop-version-test.true c.version-item.is
    (c.as_str-id.ensures ∙ c.as_text.ensures.value) refl c.in_ok-insert.ensures.entries c.loop-version.invariant
