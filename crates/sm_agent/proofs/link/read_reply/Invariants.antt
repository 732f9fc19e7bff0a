use Rattle.std.proofs.Common.{◌+◌, ◌-◌, vec_len}
use Rattle.std.specs.Io.KnownBytes.{Consumes}
use Rattle.sm_agent.specs.declared.link.TheConstants.{REPLY_LIMIT}
use Rattle.sm_agent.proofs.link.read_reply.Given as goal

abbrev pub invariant-loop-alloc : goal.invariant-loop-alloc
invariant-loop-alloc g l =
    Consumes (g.S.Read.remaining l.initial.stream) (g.S.Read.remaining l.stream) l.bytes.items

abbrev pub decreases-loop-alloc : goal.decreases-loop-alloc
decreases-loop-alloc g l = REPLY_LIMIT + 1 - vec_len l.bytes
