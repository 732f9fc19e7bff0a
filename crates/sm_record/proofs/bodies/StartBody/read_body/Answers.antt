use Rattle.std.proofs.Common.{arith}
use Rattle.sm_record.specs.Rows.{start}
use Rattle.sm_record.proofs.RowLaws.{start_lawful}
use Rattle.sm_record.proofs.SequelLemmas.{rest_bound, left_bound}
use Rattle.sm_record.proofs.bodies.StartBody.read_body.Goals as goal

pub returns-clause-rest : goal.returns-clause-rest
returns-clause-rest c =
    rest_bound (start) (start_lawful) (λ x. (x.0, x.1.now)) c.args.bytes.now (λ i. omega (arith, c.type_inv.bytes i))
    c.start_at.result c.start_at.ensures

pub returns-clause-left : goal.returns-clause-left
returns-clause-left c =
    left_bound (start) (start_lawful) (λ x. (x.0, x.1.now)) c.args.bytes.now (λ i. omega (arith, c.type_inv.bytes i))
    c.start_at.result c.start_at.ensures
