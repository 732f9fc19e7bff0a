use Rattle.std.proofs.Common.{[], ◌∷◌}
use Rattle.sm_account.specs.Accounts.{base}
use Rattle.sm_lock.specs.Handles.{built_with, number, seen}
use Rattle.sm_lock.specs.Story.{Grows}
use Rattle.sm_lock.proofs.Stories.{grows-same}
use Rattle.sm_pool.proofs.CourseLemmas.{reported_work, unasked_work}
use Rattle.sm_pool.proofs.shared.work_behind.Goals as goal

pub returns-in-Ok-clause-does : goal.returns-in-Ok-clause-does
returns-in-Ok-clause-does g c =
    let pass = c.args.pass in
    let verdict = c.in-Ok.verdict in
    let told = c.report_behind-pass.result.told in
    reported_work (base (built_with c.args.gate.now)) (Grows (number pass ∷ [])) (grows-same (number pass ∷ []))
    (number pass) g.R.Rotator.replies verdict.work c.args.work c.in-Ok.ensures.work verdict.answer told.reported
    told.now
    _ _ _ (seen pass) (seen c.report_behind-pass.result.pass) c.done_reported.result
    c.report_behind-pass.ensures.reports c.in-Ok.ensures.allowed c.report_behind-pass.ensures.told
    c.in-Ok.ensures.asked c.in-Ok.ensures.failed c.done_reported.ensures

pub returns-in-Err-clause-does : goal.returns-in-Err-clause-does
returns-in-Err-clause-does g c =
    let pass = c.args.pass in
    unasked_work (base (built_with c.args.gate.now)) (Grows (number pass ∷ [])) (grows-same (number pass ∷ []))
    (number pass) g.R.Rotator.replies c.args.work _ _ _ (seen pass) c.in-Err.ensures.unasked
