use Rattle.sm_store.proofs.StoreStands.{is_idle}
use Rattle.sm_store.proofs.store.Store.close.Goals as goal

pub returns-clause-idle : goal.returns-clause-idle
returns-clause-idle g c sure = is_idle c.args.self c.close.result c.close.ensures.disk (c.close.ensures.idle sure)
