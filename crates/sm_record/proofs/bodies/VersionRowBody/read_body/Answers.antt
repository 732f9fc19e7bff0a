use Rattle.std.proofs.Common.{arith}
use Rattle.sm_record.specs.Rows.{version}
use Rattle.sm_record.proofs.RowLaws.{version_lawful}
use Rattle.sm_record.proofs.SequelLemmas.{rest_bound, left_bound}
use Rattle.sm_record.proofs.bodies.VersionRowBody.read_body.Goals as goal

pub returns-clause-rest : goal.returns-clause-rest
returns-clause-rest c =
    rest_bound (version) (version_lawful) (λ x. (x.0, x.1.now)) c.args.bytes.now
    (λ i. omega (arith, c.type_inv.bytes i))
    c.read_front.result c.read_front.ensures

pub returns-clause-left : goal.returns-clause-left
returns-clause-left c =
    left_bound (version) (version_lawful) (λ x. (x.0, x.1.now)) c.args.bytes.now
    (λ i. omega (arith, c.type_inv.bytes i))
    c.read_front.result c.read_front.ensures
