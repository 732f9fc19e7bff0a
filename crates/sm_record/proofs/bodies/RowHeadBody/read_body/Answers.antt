use Rattle.std.proofs.Common.{arith}
use Rattle.sm_record.specs.Rows.{row_head}
use Rattle.sm_record.proofs.RowLaws.{row_head_lawful}
use Rattle.sm_record.proofs.SequelLemmas.{rest_bound, left_bound}
use Rattle.sm_record.proofs.bodies.RowHeadBody.read_body.Goals as goal

pub returns-clause-rest : goal.returns-clause-rest
returns-clause-rest c =
    rest_bound (row_head c.args.edition) (row_head_lawful c.args.edition) (λ x. (x.0, x.1.now)) c.args.bytes.now
    (λ i. omega (arith, c.type_inv.bytes i))
    c.row_head_at.result c.row_head_at.ensures

pub returns-clause-left : goal.returns-clause-left
returns-clause-left c =
    left_bound (row_head c.args.edition) (row_head_lawful c.args.edition) (λ x. (x.0, x.1.now)) c.args.bytes.now
    (λ i. omega (arith, c.type_inv.bytes i))
    c.row_head_at.result c.row_head_at.ensures
