use Rattle.sm_account.specs.AccountState.{state_in}
use Rattle.sm_account.specs.Limits.{passed_at}
use Rattle.sm_account.proofs.EffortLemmas.{start_faulted, start_made, start_over}
use Rattle.sm_account.proofs.start_due.start_with.Goals as goal

pub returns-in-Made : goal.returns-in-Made
returns-in-Made g c =
    let old = c.args.inner.now in
    let entry = c.args.start.entry in
    let both = start_made old c.enter_legal.new.inner c.args.seat entry (passed_at (state_in old) entry)
    c.args.start.arn
    c.requires.its (rw c.in-Made.is at c.in-Ok.ensures.enters) (rw c.in-Made.is at c.in-Ok.ensures.leaves) in
    record { kept = c.enter_legal.ensures.kept; starts = both.0; leaves = both.1 }

pub returns-in-Over : goal.returns-in-Over
returns-in-Over g c =
    let old = c.args.inner.now in
    let entry = c.args.start.entry in
    let both = start_over old c.enter_legal.new.inner c.args.seat entry (passed_at (state_in old) entry)
    c.in-Over.passed
    (rw c.in-Over.is at c.in-Ok.ensures.enters) (rw c.in-Over.is at c.in-Ok.ensures.leaves) in
    record { kept = c.enter_legal.ensures.kept; starts = both.0; leaves = both.1 }

pub returns-in-DiskFault : goal.returns-in-DiskFault
returns-in-DiskFault g c =
    let old = c.args.inner.now in
    let entry = c.args.start.entry in
    let both = start_faulted old c.enter_legal.new.inner c.args.seat entry (passed_at (state_in old) entry)
    (rw c.in-DiskFault.is at c.in-Ok.ensures.enters) (rw c.in-DiskFault.is at c.in-Ok.ensures.leaves) in
    record { kept = c.enter_legal.ensures.kept; starts = both.0; leaves = both.1 }
