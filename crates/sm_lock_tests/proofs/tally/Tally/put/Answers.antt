use Rattle.std.proofs.Common.{ap, arith}
use Rattle.sm_lock_tests.specs.Sums.{sum_of}
use Rattle.sm_lock_tests.proofs.Added.{sum-push}
use Rattle.sm_lock_tests.proofs.tally.Tally.put.Goals as goal

pub invariant_of-self-2 : goal.invariant_of-self-2
invariant_of-self-2 c = record {
  adds_up = omega (
    arith,
    ap sum_of c.push_reserved.ensures.items,
    sum-push c.reserve.new.self.items (c.args.seat, c.args.number),
    ap sum_of c.reserve.ensures.items,
    c.args.self.now.adds_up,
  );
}
