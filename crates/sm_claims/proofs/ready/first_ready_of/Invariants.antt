use Rattle.std.proofs.Common.{◌≡◌, drop}
use Rattle.sm_claims.specs.Ready.{first_ready_of}
use Rattle.sm_claims.specs.LiveClaims.{claim_marks}
use Rattle.sm_claims.proofs.ready.first_ready_of.Given as goal

abbrev pub invariant-loop-serial : goal.invariant-loop-serial
invariant-loop-serial l =
    first_ready_of (claim_marks l.claims) l.moment l.table.secrets (drop l.serial-index l.serials)
    ≡ first_ready_of (claim_marks l.claims) l.moment l.table.secrets l.serials
