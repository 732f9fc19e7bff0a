use Rattle.std.proofs.Common.{map}
use Rattle.std.proofs.lemmas.List.{map_push}
use Rattle.sm_judge_reads.proofs.DescribeSecretLemmas.{staged_more}
use Rattle.sm_judge_reads.proofs.describe_secret.staged.Goals as goal

pub loop-version-preserved : goal.loop-version-preserved
loop-version-preserved c =
    let seen = map (λ version. version.now) c.loop-version.yielded in
    let version = c.in-Some.version in
    cc (
      staged_more c.args.row.now seen version.now,
      map_push (λ v. v.now) c.loop-version.yielded version,
      c.loop-version.invariant,
      c.in_ok-push_staged.ensures,
    )
