use Rattle.std.proofs.Common.{arith}
use Rattle.sm_account.specs.AccountState.{state_in}
use Rattle.sm_account.proofs.CallOutcomeLemmas.{nothing_done}
use Rattle.sm_account.proofs.EffortLemmas.{reported_so, reports_so, reports_stale}
use Rattle.sm_account.proofs.MayLemmas.{report_may}
use Rattle.sm_account.proofs.MomentLemmas.{moment_is}
use Rattle.sm_account.proofs.report.report.Goals as goal

pub move_on-requires : goal.move_on-requires
move_on-requires g c =
    let old = c.args.inner.now in
    record {
      kept = c.requires.kept;
      may = report_may old c.requires.kept (record { 0 = c.max.result }) (omega (arith, c.max.ensures))
          (omega (arith, c.max.ensures, c.requires.kept.bound, c.requires.bound)) c.args.work.now c.args.answer.now
          (rw c.in-Fresh.is at c.in-Ok.ensures);
    }

pub returns-in-Fresh : goal.returns-in-Fresh
returns-in-Fresh g c =
    let old = c.args.inner.now in
    let at = moment_is old.last c.args.now c.max.result c.max.ensures in
    let fresh = rw c.in-Fresh.is at c.in-Ok.ensures in
    record {
      kept = c.move_on.ensures.kept;
      reports = reports_so old c.move_on.new.inner c.args.seat c.args.now c.args.work.now c.args.answer.now
          (record { 0 = c.max.result }) at c.move_on.result fresh c.move_on.ensures.reports;
      leaves = reported_so old c.move_on.new.inner c.args.seat c.args.now c.args.work.now c.args.answer.now
          (record { 0 = c.max.result }) at c.move_on.result fresh c.move_on.ensures.leaves;
    }

pub returns-in-Stale : goal.returns-in-Stale
returns-in-Stale g c =
    let old = c.args.inner.now in
    let at = moment_is old.last c.args.now c.max.result c.max.ensures in
    let stale = rw c.in-Stale.is at c.in-Ok.ensures in
    record {
      kept = c.requires.kept;
      reports = reports_stale (state_in old) c.args.now c.args.work.now c.args.answer.now
          (record { 0 = c.max.result }) at c.in-Stale.at stale.0 stale.1;
      leaves = nothing_done old c.args.seat;
    }

pub returns-in-Err : goal.returns-in-Err
returns-in-Err g c = record {
  kept = c.requires.kept;
  reports = tt;
  leaves = nothing_done c.args.inner.now c.args.seat;
}
