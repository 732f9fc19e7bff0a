use Rattle.sm_write_buffer.proofs.Settled.{tried_write}
use Rattle.sm_write_buffer.proofs.settle.settle.Goals as goal

pub returns-in-Write-clause-tried : goal.returns-in-Write-clause-tried
returns-in-Write-clause-tried g c = tried_write c.args.file c.in-Write.at _ _ c.write_at.result c.in-Write.piece _
    c.args.pending.now c.in-Write.is c.as_slice.ensures c.write_at.ensures.written c.write_at.ensures.tried
