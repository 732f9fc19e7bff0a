use Rattle.std.proofs.Common.{◌≡◌, Some, IfSome, option_copied, subst}
use Rattle.sm_model.specs.declared.rows.Rows.{Rows}
use Rattle.sm_table.specs.Changes.{row_with}
use Rattle.sm_table.proofs.FoundLaws.{found_arn_own}
use Rattle.sm_table.proofs.table.Table.find_with_arn.Goals as goal

pub returns-clause-own : goal.returns-clause-own
returns-clause-own c =
    let rows : Rows = record { next = c.self.inside.next; secrets = c.self.inside.secrets.rows.list } in
    subst (λ (r : Rows). IfSome (option_copied c.row_with_arn.result) (λ row. row_with r.secrets row.serial ≡ Some row))
    c.self.view_is
    (found_arn_own rows c.args.moment c.args.arn.now (option_copied c.row_with_arn.result) c.self.invariant.serials
    c.row_with_arn.ensures)
