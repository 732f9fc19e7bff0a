use Rattle.std.proofs.lemmas.Result.{err_from_is_err_and}
use Rattle.sm_record.proofs.SequelLemmas.{rows_fail}
use Rattle.sm_record.proofs.bodies.base_at.Goals as goal

pub returns-in_err-secrets-clause-exact : goal.returns-in_err-secrets-clause-exact
returns-in_err-secrets-clause-exact c =
    let p = err_from_is_err_and c.from_residual-in_err-secrets.result c.from_residual-in_err-secrets.ensures.1 in
    rw (p.1, p.2)
    (rows_fail c.args.edition c.args.bodies.now c.in_ok-start.first c.in_ok-start.start c.in_err-secrets.field-0.0
    c.in_ok-start.ensures.exact c.in_err-secrets.ensures.exact)
