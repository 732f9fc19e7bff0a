use Rattle.sm_journal.proofs.StandsLemmas.{then_mended, at_err}
use Rattle.sm_journal.proofs.journal.Journal.mend.Goals as goal

pub returns-in_err-cut_tail-clause-any_moment : goal.returns-in_err-cut_tail-clause-any_moment
returns-in_err-cut_tail-clause-any_moment g c bodies failed stands =
    then_mended c.args.self.now.file _ c.args.self.now.format _ bodies failed _ _ _ c.close_gate.ensures.same.file
    c.close_gate.ensures.same.format
    (c.close_gate.ensures.any_moment bodies failed stands)
    (c.cut_tail.ensures.any_moment bodies failed (c.close_gate.ensures.stands bodies failed stands))

pub returns-clause-any_moment : goal.returns-clause-any_moment
returns-clause-any_moment g c bodies failed stands =
    then_mended c.args.self.now.file _ c.args.self.now.format _ bodies failed _ _ _ c.close_gate.ensures.same.file
    c.close_gate.ensures.same.format
    (c.close_gate.ensures.any_moment bodies failed stands)
    (c.cut_tail.ensures.any_moment bodies failed (c.close_gate.ensures.stands bodies failed stands))

pub returns-in_err-cut_tail-clause-err : goal.returns-in_err-cut_tail-clause-err
returns-in_err-cut_tail-clause-err g c =
    let kept = c.in_err-cut_tail.ensures.err in
    at_err c.from_residual-in_err-cut_tail.result (
      kept.0,
      λ bodies failed stands.
          kept.1 bodies failed (c.close_gate.ensures.stands bodies failed stands),
    )

pub returns-clause-ok : goal.returns-clause-ok
returns-clause-ok g c =
    let mended = c.in_ok-cut_tail.ensures.ok in
    (mended.0, λ bodies failed stands. mended.1 bodies failed (c.close_gate.ensures.stands bodies failed stands))
