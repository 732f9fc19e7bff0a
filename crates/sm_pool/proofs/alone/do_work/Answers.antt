use Rattle.std.proofs.Common.{refl}
use Rattle.sm_account.specs.Accounts.{base, history}
use Rattle.sm_account.specs.SeatTraces.{NoGap}
use Rattle.sm_pool.proofs.CourseLemmas.{reported_work, unasked_work}
use Rattle.sm_pool.proofs.alone.do_work.Goals as goal

pub returns-in-Ok-clause-does : goal.returns-in-Ok-clause-does
returns-in-Ok-clause-does g c =
    let account = c.args.account.now in
    let verdict = c.in-Ok.verdict in
    let told = c.report-told in
    reported_work (base account) NoGap (λ h. refl) c.args.seat g.R.Rotator.replies verdict.work c.args.work
    c.in-Ok.ensures.work verdict.answer told.result.reported told.result.now _ _ _ (history account)
    (history told.new.account) c.done_reported.result told.ensures.reports c.in-Ok.ensures.allowed told.ensures.told
    c.in-Ok.ensures.asked c.in-Ok.ensures.failed c.done_reported.ensures

pub returns-in-Err-clause-does : goal.returns-in-Err-clause-does
returns-in-Err-clause-does g c =
    let account = c.args.account.now in
    unasked_work (base account) NoGap (λ h. refl) c.args.seat g.R.Rotator.replies c.args.work _ _ _ (history account)
    c.in-Err.ensures.unasked
