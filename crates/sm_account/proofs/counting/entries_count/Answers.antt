use Rattle.std.proofs.Common.{arith}
use Rattle.sm_account.proofs.CountLemmas.{counted_in, count_fits}
use Rattle.sm_account.proofs.counting.entries_count.Goals as goal

pub overflow_add-result : goal.overflow_add-result
overflow_add-result g c =
    omega (arith, c.len.ensures, c.args.inner.now.entries.ok, count_fits c.args.inner.now c.requires)

pub returns : goal.returns
returns g c = omega (arith, c.len.ensures, c.args.inner.now.entries.ok, counted_in c.args.inner.now c.requires)
