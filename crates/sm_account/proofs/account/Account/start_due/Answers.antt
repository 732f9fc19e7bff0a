use Rattle.std.proofs.Common.{refl}
use Rattle.sm_account.specs.AccountState.{state_in}
use Rattle.sm_account.specs.StartDue.{due_at, start_at, started_by}
use Rattle.sm_core.specs.Histories.{later}
use Rattle.sm_account.proofs.AccountLemmas.{same_origin}
use Rattle.sm_account.proofs.TurnLemmas.{call_outcome_kept, start_allowed, started_told, starts_told}
use Rattle.sm_account.proofs.account.Account.start_due.Goals as goal

pub invariant_of-self : goal.invariant_of-self
invariant_of-self g c =
    let old = c.args.self.now in
    let state = state_in old.inner in
    let moment = later old.inner.last c.args.now in
    let drawn = c.args.drawn.now in
    record {
      kept = c.start_due.ensures.kept;
      allowed = call_outcome_kept g.R.Rotator.replies old.inner c.start_due.new.inner c.args.seat
          (started_by c.start_due.result (start_at state c.args.now drawn)) old.kept c.start_due.ensures.leaves
          (start_allowed g.R.Rotator.replies old.inner.table c.start_due.result state moment drawn
          (due_at state moment drawn)) old.allowed;
    }

pub returns : goal.returns
returns g c =
    let old = c.args.self.now in
    let new = c.start_due.new.inner in
    record {
      starts = starts_told old.inner new c.args.seat c.args.now old.kept c.start_due.result c.args.drawn.now
          c.start_due.ensures.starts;
      leaves = started_told old.inner new c.args.seat c.args.now old.kept c.start_due.result c.args.drawn.now
          c.start_due.ensures.leaves;
      origin = same_origin old _ c.start_due.ensures.leaves.origin refl refl;
    }
