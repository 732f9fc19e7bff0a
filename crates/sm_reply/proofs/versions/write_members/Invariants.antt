use Rattle.std.proofs.Common.{◌≡◌}
use Rattle.sm_reply.specs.Tokens.{behind}
use Rattle.sm_reply.specs.Versions.{staged_members}
use Rattle.sm_reply.proofs.versions.write_members.Given as goal

-- the ids to come go behind those so far
abbrev pub invariant-loop-id : goal.invariant-loop-id
invariant-loop-id l = behind (staged_members l.id-iterator) l.out
    ≡ behind (staged_members l.staged.entries) l.initial.out
