use Rattle.std.proofs.Common.{ap, sym, ◌∙◌}
use Rattle.sm_http.specs.Reading.{content}
use Rattle.sm_sigv4.specs.Signatures.{signed}
use Rattle.sm_session.specs.Askers.{signed_by}
use Rattle.sm_session.proofs.HearLemmas.{refused_by}
use Rattle.sm_session.proofs.asking.signed_by.Goals as goal

pub returns-in-Bad-clause-is : goal.returns-in-Bad-clause-is
returns-in-Bad-clause-is c =
    ap (λ secret. signed_by c.args.person secret (content c.args.message.now)) (sym c.in-Some.ensures)
    ∙ refused_by c.args.person (signed c.in-Some.secret.now (content c.args.message.now)) c.in-Bad.part c.part_of.result
    c.in-Bad.ensures c.part_of.ensures
