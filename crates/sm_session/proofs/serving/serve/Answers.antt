use Rattle.sm_account.specs.Accounts.{base}
use Rattle.sm_lock.specs.Handles.{built_with}
use Rattle.sm_session.specs.Sessions.{IsRight}
use Rattle.sm_session.proofs.CompleteLemmas.{completes, listed}
use Rattle.sm_session.proofs.HoldLemmas.{session_mine}
use Rattle.sm_session.proofs.serving.serve.Goals as goal

pub returns-clause-served : goal.returns-clause-served
returns-clause-served g c =
    let left = c.answer_stream-pass in
    let session = listed c.new.ensures left.ensures.served in (
      session,
      session_mine c.args.gate.now c.args.pass left.result.pass
          (IsRight c.args.people.now (base (built_with c.args.gate.now))) session.turns c.requires left.ensures.gate
          left.ensures.number session.seat_trace,
      completes session,
    )
