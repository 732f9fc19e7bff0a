use Rattle.std.proofs.Common.{refl}
use Rattle.sm_core.specs.Histories.{later}
use Rattle.sm_account.specs.NextWork.{next_by}
use Rattle.sm_account.proofs.AccountLemmas.{same_origin}
use Rattle.sm_account.proofs.TurnLemmas.{claimed_told, call_outcome_kept, next_allowed, next_told}
use Rattle.sm_account.proofs.account.Account.next_work.Goals as goal

pub invariant_of-self : goal.invariant_of-self
invariant_of-self g c =
    let old = c.args.self.now in
    let moment = later old.inner.last c.args.now in
    record {
      kept = c.next_work.ensures.kept;
      allowed = call_outcome_kept g.R.Rotator.replies old.inner c.next_work.new.inner c.args.seat
          (next_by c.next_work.result moment) old.kept c.next_work.ensures.leaves
          (next_allowed g.R.Rotator.replies old.inner.table c.next_work.result moment) old.allowed;
    }

pub returns : goal.returns
returns g c =
    let old = c.args.self.now in
    let new = c.next_work.new.inner in
    record {
      next = next_told old.inner new c.args.seat c.args.now old.kept c.next_work.result c.next_work.ensures.next;
      leaves = claimed_told old.inner new c.args.seat c.args.now old.kept c.next_work.result
          c.next_work.ensures.leaves;
      origin = same_origin old _ c.next_work.ensures.leaves.origin refl refl;
    }
