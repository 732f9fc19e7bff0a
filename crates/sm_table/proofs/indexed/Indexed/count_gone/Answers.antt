use Rattle.std.proofs.Common.{◌∙◌, length, ap, arith}
use Rattle.sm_table.specs.Dates.{deletion_date, reached}
use Rattle.sm_table.proofs.DateLemmas.{dates_fewer, dates_ordered}
use Rattle.sm_table.proofs.indexed.Indexed.count_gone.Goals as goal

pub reached-requires : goal.reached-requires
reached-requires c =
    rw (c.as_slice.ensures.value, c.requires.signs.deletions) (dates_ordered deletion_date c.args.self.now.rows.list)

pub returns-clause-gone : goal.returns-clause-gone
returns-clause-gone c =
    c.reached.ensures.reached
    ∙ ap (λ ds. reached ds c.args.moment) (c.as_slice.ensures.value ∙ c.requires.signs.deletions)

pub returns-clause-within : goal.returns-clause-within
returns-clause-within c =
    omega (
      arith,
      c.reached.ensures.within,
      ap length c.as_slice.ensures.value,
      ap length c.requires.signs.deletions,
      dates_fewer deletion_date c.args.self.now.rows.list,
    )
