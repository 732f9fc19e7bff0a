use Rattle.sm_account.proofs.HandleLemmas.{faulted_as, limited_as, made_as}
use Rattle.sm_account.proofs.handling.finish.Goals as goal

pub returns-in-Made : goal.returns-in-Made
returns-in-Made g c = record {
  kept = c.enter_due.ensures.kept;
  handles = made_as c.args.inner.now c.enter_due.new.inner c.args.seat c.args.reply c.args.due.entry
      c.in-Made.ensures.enters c.in-Made.ensures.leaves;
}

pub returns-in-Over : goal.returns-in-Over
returns-in-Over g c = record {
  kept = c.enter_due.ensures.kept;
  handles = limited_as c.args.inner.now c.enter_due.new.inner c.args.seat c.args.reply c.args.due.entry
      c.in-Over.passed c.in-Over.ensures.enters c.in-Over.ensures.leaves;
}

pub returns-in-DiskFault : goal.returns-in-DiskFault
returns-in-DiskFault g c = record {
  kept = c.enter_due.ensures.kept;
  handles = faulted_as c.args.inner.now c.enter_due.new.inner c.args.seat c.args.reply c.args.due.entry
      c.in-DiskFault.ensures.enters c.in-DiskFault.ensures.leaves;
}
