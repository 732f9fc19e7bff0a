use Rattle.std.proofs.Common.{ap, sym, ◌∙◌}
use Rattle.sm_http.specs.Reading.{content}
use Rattle.sm_sigv4.specs.Authorizations.{is_scope}
use Rattle.sm_sigv4.proofs.SignLemmas.{signs}
use Rattle.sm_sigv4.proofs.signing.sign.Goals as goal

pub returns-in-true-clause-signs : goal.returns-in-true-clause-signs
returns-in-true-clause-signs c =
    signs c.args.secret.now (content c.args.message.now) c.args.scope.now c.args.names.now
    (sym (c.is_scope.ensures ∙ ap is_scope c.view.ensures) ∙ c.if-not-is_scope.false)
    (sym c.in_ok-may_sign.ensures ∙ c.in-true.is) c.sign_at.result c.sign_at.ensures
