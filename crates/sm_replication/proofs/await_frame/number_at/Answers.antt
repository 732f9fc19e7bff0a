use Rattle.sm_replication.proofs.WalkLemmas.{read_at}
use Rattle.sm_replication.proofs.await_frame.number_at.Goals as goal

pub returns : goal.returns
returns c = read_at c.args.bytes.now c.args.at c.front_number.result c.front_number.ensures
