use Rattle.std.proofs.Common.{◌+◌, ◌-◌, vec_len}
use Rattle.sm_rotator.specs.declared.link.TheConstants.{LINE_LIMIT}
use Rattle.sm_rotator.proofs.link.read_line.Given as goal

abbrev pub decreases-loop-start : goal.decreases-loop-start
decreases-loop-start g l = LINE_LIMIT + 1 - vec_len l.line
