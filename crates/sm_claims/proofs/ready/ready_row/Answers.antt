use Rattle.std.proofs.Common.{option_copied}
use Rattle.sm_claims.specs.LiveClaims.{claim_marks}
use Rattle.sm_claims.proofs.ReadyLemmas.{ready_has_job}
use Rattle.sm_claims.proofs.ready.ready_row.Goals as goal

pub returns-clause-ready : goal.returns-clause-ready
returns-clause-ready c =
    ready_has_job (claim_marks c.args.claims.now) c.args.moment c.args.table.now (option_copied c.first_ready.result)
    c.first_ready.ensures
