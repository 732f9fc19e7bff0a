use Rattle.std.proofs.Common.{◌≡◌, map}
use Rattle.sm_judge_reads.specs.DescribeSecret.{staged}
use Rattle.sm_judge_reads.proofs.describe_secret.staged.Given as goal

abbrev pub invariant-loop-version : goal.invariant-loop-version
invariant-loop-version l = l.list ≡ staged l.row (map (λ version. version.now) l.yielded)
