use Rattle.std.proofs.Common.{arith}
use Rattle.sm_table.proofs.DeletionLemmas.{all_counted}
use Rattle.sm_table.proofs.indexed.Indexed.count_at.Goals as goal

pub returns : goal.returns
returns c =
    omega (
      arith,
      c.len.ensures.len,
      c.count_gone.ensures.gone,
      all_counted c.args.moment c.args.self.now.rows.list,
    )
