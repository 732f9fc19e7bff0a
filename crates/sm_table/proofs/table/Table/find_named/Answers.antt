use Rattle.std.proofs.Common.{◌≡◌, Some, IfSome, option_copied, subst}
use Rattle.sm_base.specs.declared.secret_id.SecretId.TheVariants.{Name, Arn}
use Rattle.sm_model.specs.declared.rows.Rows.{Rows}
use Rattle.sm_table.specs.Changes.{row_with}
use Rattle.sm_table.proofs.FoundLaws.{found_own}
use Rattle.sm_table.proofs.table.Table.find_named.Goals as goal

pub returns-in-Name-clause-own : goal.returns-in-Name-clause-own
returns-in-Name-clause-own c =
    let rows : Rows = record { next = c.self.inside.next; secrets = c.self.inside.secrets.rows.list } in
    subst (λ (r : Rows). IfSome (option_copied c.row_named.result) (λ row. row_with r.secrets row.serial ≡ Some row))
    c.self.view_is
    (found_own rows c.args.moment (Name c.in-Name.name) (option_copied c.row_named.result) c.self.invariant.serials
    c.row_named.ensures)

pub returns-in-Arn-clause-own : goal.returns-in-Arn-clause-own
returns-in-Arn-clause-own c =
    let rows : Rows = record { next = c.self.inside.next; secrets = c.self.inside.secrets.rows.list } in
    subst (λ (r : Rows). IfSome (option_copied c.row_by_arn.result) (λ row. row_with r.secrets row.serial ≡ Some row))
    c.self.view_is
    (found_own rows c.args.moment (Arn c.in-Arn.arn) (option_copied c.row_by_arn.result) c.self.invariant.serials
    c.row_by_arn.ensures)
