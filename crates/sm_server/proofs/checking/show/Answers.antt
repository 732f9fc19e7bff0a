use Rattle.std.proofs.Common.{refl, take}
use Rattle.sm_server.proofs.checking.show.Goals as goal

pub returns-in-Ok-clause-shows : goal.returns-in-Ok-clause-shows
returns-in-Ok-clause-shows g c = (c.args.text.now, c.in-Ok.ensures.bytes, refl)

pub returns-in-Fault-clause-shows : goal.returns-in-Fault-clause-shows
returns-in-Fault-clause-shows g c = (
  take c.in-Fault.taken c.args.text.now,
  c.in-Fault.ensures.bytes,
  (refl, c.in-Fault.ensures.short, c.in-Fault.ensures.failed),
)
