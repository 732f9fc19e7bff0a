use Rattle.std.proofs.Common.{arith}
use Rattle.sm_claims.proofs.claims.a_step_ends_before_its_claim.Goals as goal

pub returns : goal.returns
returns c = omega arith
