use Rattle.std.proofs.Common.{subst}
use Rattle.sm_http.specs.Messages.{Message}
use Rattle.sm_session.specs.Answer.{heard}
use Rattle.sm_session.specs.Hearing.{Hears}
use Rattle.sm_follow.proofs.answering.hear.Goals as goal

pub returns-in-Ok : goal.returns-in-Ok
returns-in-Ok c = record {
  hears = λ message is. subst (λ (m : Message). Hears c.read.result (heard c.args.people.now m))
      (c.in-Ok.ensures message is) c.read.ensures.hears;
}
