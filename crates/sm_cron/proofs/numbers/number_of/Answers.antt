use Rattle.std.proofs.Common.{arith}
use Rattle.sm_cron.proofs.NumberLemmas.{number_step, from_none}
use Rattle.sm_cron.proofs.numbers.number_of.Goals as goal

pub loop-byte-init : goal.loop-byte-init
loop-byte-init c = omega (arith, from_none 0)

pub loop-byte-preserved : goal.loop-byte-preserved
loop-byte-preserved c =
    omega (
      arith,
      number_step c.args.text.now c.loop-byte.byte-index (omega arith),
      c.loop-byte.invariant,
      c.saturating_mul.ensures,
      c.saturating_add-number.ensures,
      c.from.ensures,
    )
