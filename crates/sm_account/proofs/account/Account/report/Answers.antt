use Rattle.std.proofs.Common.{◌≡◌, true, refl, sym, subst}
use Rattle.sm_core.specs.Histories.{later}
use Rattle.sm_model.specs.declared.entry.Answer.{Answer}
use Rattle.sm_rotator.specs.declared.work.Work.{Work}
use Rattle.sm_account.specs.AccountState.{state_in}
use Rattle.sm_account.specs.CallOutcomes.{Leaves}
use Rattle.sm_account.specs.Report.{ReportsAs, report_at, reported_by}
use Rattle.sm_account.proofs.AccountLemmas.{same_origin}
use Rattle.sm_account.proofs.TurnLemmas.{call_outcome_kept, report_allowed, reported_told, reports_told}
use Rattle.sm_account.proofs.account.Account.report.Goals as goal

pub invariant_of-self : goal.invariant_of-self
invariant_of-self g c =
    let old = c.args.self.now in
    let state = state_in old.inner in
    let moment = later old.inner.last c.args.now in
    let work = c.work.result.now in
    let answer = c.answer.result.now in
    record {
      kept = c.report.ensures.kept;
      allowed = call_outcome_kept g.R.Rotator.replies old.inner c.report.new.inner c.args.seat
          (reported_by c.report.result (report_at state c.args.now work answer)) old.kept c.report.ensures.leaves
          (report_allowed g.R.Rotator.replies old.inner.table c.report.result state moment work answer
          (subst (λ (w : Work). g.R.Rotator.replies w.arn w.at w.current w.pending answer ≡ true)
          (sym c.work.ensures) c.answer.ensures.allowed)) old.allowed;
    }

pub returns : goal.returns
returns g c =
    let old = c.args.self.now in
    let new = c.report.new.inner in
    let verdict = c.args.verdict.now in
    let reports = subst (λ (w : Work). ReportsAs c.report.result (report_at (state_in old.inner) c.args.now w
    c.answer.result.now)) c.work.ensures c.report.ensures.reports in
    let leaves = subst (λ (w : Work). Leaves g.D.Disk old.inner new c.args.seat (reported_by c.report.result
    (report_at (state_in old.inner) c.args.now w c.answer.result.now))) c.work.ensures c.report.ensures.leaves in
    record {
      reports = reports_told old.inner new c.args.seat c.args.now old.kept c.report.result verdict.work verdict.answer
          (subst (λ (a : Answer). ReportsAs c.report.result (report_at (state_in old.inner) c.args.now verdict.work a))
          c.answer.ensures.value reports);
      leaves = reported_told old.inner new c.args.seat c.args.now old.kept c.report.result verdict.work verdict.answer
          (subst (λ (a : Answer). Leaves g.D.Disk old.inner new c.args.seat (reported_by c.report.result
          (report_at (state_in old.inner) c.args.now verdict.work a))) c.answer.ensures.value leaves);
      origin = same_origin old _ c.report.ensures.leaves.origin refl refl;
    }
