use Rattle.std.proofs.lemmas.Result.{err_from_is_err_and}
use Rattle.sm_record.proofs.SequelLemmas.{secret_fails}
use Rattle.sm_record.proofs.bodies.SecretRowSequel.read_bodies.Goals as goal

pub returns-in_err-versions-clause-exact : goal.returns-in_err-versions-clause-exact
returns-in_err-versions-clause-exact c =
    let p = err_from_is_err_and c.from_residual-in_err-versions.result c.from_residual-in_err-versions.ensures.1 in
    rw (p.1, p.2)
    (secret_fails c.args.edition c.args.bodies.now c.in_ok-head.first c.in_ok-head.head c.in_err-versions.field-0.0
    c.in_ok-head.ensures.exact c.in_err-versions.ensures.exact)
