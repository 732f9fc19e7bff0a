use Rattle.std.proofs.Common.{arith}
use Rattle.sm_recovery.proofs.FollowLemmas.{none_come}
use Rattle.sm_replica.proofs.taking.follow_one.Goals as goal

pub returns-in-Err-Illegal : goal.returns-in-Err-Illegal
returns-in-Err-Illegal c =
    let none = rw c.in-Err-Illegal.field-0-is at c.in-Err-Illegal.ensures.refused in (
      (
        0,
        record {
          within = omega arith;
          legal = none_come c.args.replayed.now (omega (arith, c.requires.counted));
          not = λ come. none come;
        },
        omega arith,
      ),
      c.in-Err-Illegal.ensures.stays,
    )
