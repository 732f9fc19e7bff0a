use Rattle.std.proofs.Common.{IsSomeAnd, subst, arith}
use Rattle.sm_claims.specs.Ready.{first_ready}
use Rattle.sm_claims.specs.Works.{IsWorkOf}
use Rattle.sm_account.specs.AccountState.{history_in}
use Rattle.sm_account.specs.CallOutcomes.{Leaves}
use Rattle.sm_account.specs.NextWork.{NextAs, next_by}
use Rattle.sm_account.specs.declared.next_work.NextWork.TheVariants as works
use Rattle.sm_account.proofs.ClaimedLemmas.{none_is, ready_same, work_is}
use Rattle.sm_account.proofs.CallOutcomeLemmas.{nothing_done}
use Rattle.sm_account.proofs.MomentLemmas.{moment_is}
use Rattle.sm_account.proofs.next_work.next_work.Goals as goal

pub ready_work-requires : goal.ready_work-requires
ready_work-requires g c = c.requires.kept.sound

pub take_up-requires : goal.take_up-requires
take_up-requires g c = record {
  kept = c.requires.kept;
  ready = subst (λ found. IsSomeAnd found (λ row. IsWorkOf row c.in-Some.work))
      (ready_same c.args.inner.now c.requires.kept (record { 0 = c.max.result }) c.as_slice.result.now
      c.as_slice.ensures.value (omega (arith, c.max.ensures)))
      (work_is _ c.in-Ok.ready c.in-Some.work c.in-Some.is c.in-Ok.ensures);
}

pub returns-in-Some : goal.returns-in-Some
returns-in-Some g c =
    let old = c.args.inner.now in
    let at = moment_is old.last c.args.now c.max.result c.max.ensures in
    record {
      kept = c.take_up.ensures.kept;
      next = subst (λ m. NextAs c.take_up.result (first_ready (history_in old) m old.table.secrets)) at
          c.take_up.ensures.next;
      leaves = subst (λ m. Leaves g.D.Disk old c.take_up.new.inner c.args.seat (next_by c.take_up.result m)) at
          c.take_up.ensures.leaves;
    }

pub returns-in-None : goal.returns-in-None
returns-in-None g c =
    let old = c.args.inner.now in
    let at = moment_is old.last c.args.now c.max.result c.max.ensures in
    record {
      kept = c.requires.kept;
      next = subst (λ m. NextAs works.None (first_ready (history_in old) m old.table.secrets)) at
          (subst (NextAs works.None)
          (ready_same old c.requires.kept (record { 0 = c.max.result }) c.as_slice.result.now c.as_slice.ensures.value
          (omega (arith, c.max.ensures)))
          (none_is _ c.in-Ok.ready c.in-None.is c.in-Ok.ensures));
      leaves = nothing_done old c.args.seat;
    }

pub returns-in-Err : goal.returns-in-Err
returns-in-Err g c = record {
  kept = c.requires.kept;
  next = tt;
  leaves = nothing_done c.args.inner.now c.args.seat;
}
