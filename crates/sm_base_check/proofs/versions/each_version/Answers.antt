use Rattle.std.proofs.Common.{arith}
use Rattle.sm_base_check.proofs.VersionLemmas.{each_not}
use Rattle.sm_base_check.proofs.versions.each_version.Goals as goal

pub returns-then-not-is_version_at : goal.returns-then-not-is_version_at
returns-then-not-is_version_at c =
    each_not c.args.versions.now c.loop-at.at c.is_version_at.result
    (omega (arith, c.loop-at-test.true, c.len-at-end.ensures)) c.is_version_at.ensures c.if-not-is_version_at.true
