use Rattle.std.proofs.Common.{option_copied}
use Rattle.sm_table.proofs.FoundLemmas.{row_with_have}
use Rattle.sm_table.proofs.table.Table.row.Goals as goal

pub returns-clause-serial : goal.returns-clause-serial
returns-clause-serial c =
    row_with_have c.self.inside.secrets.rows.list c.args.serial (option_copied c.get.result) c.get.ensures
