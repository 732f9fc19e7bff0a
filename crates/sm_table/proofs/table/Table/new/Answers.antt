use Rattle.std.proofs.Common.{◌∙◌, length, refl, sym, ap, arith}
use Rattle.sm_table.proofs.RoomLemmas.{left_none}
use Rattle.sm_table.proofs.table.Table.new.Goals as goal

pub invariant_of-result : goal.invariant_of-result
invariant_of-result c = record {
  kept = c.new.ensures.kept;
  serials = rw c.new.ensures.rows refl;
  names = record { once = rw c.new.ensures.rows refl; arns = rw c.new.ensures.rows tt };
  left = c.new.ensures.left ∙ sym left_none;
  room = record {
    rows = omega (arith, left_none);
    names = omega (arith, left_none);
    signs = record {
      jobs = omega (arith, left_none, ap length c.new.ensures.rows);
      dates = omega (arith, left_none, ap length c.new.ensures.rows);
      deletions = omega (arith, left_none, ap length c.new.ensures.rows);
    };
  };
}
