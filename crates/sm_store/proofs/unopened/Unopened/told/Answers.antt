use Rattle.sm_store.proofs.NamedRuns.{refused_told, no_entry_told}
use Rattle.sm_store.proofs.unopened.Unopened.told.Goals as goal

pub returns-in-NoEntry : goal.returns-in-NoEntry
returns-in-NoEntry g c old why =
    no_entry_told g.D.Disk old c.in-NoEntry.disk c.in-NoEntry.front (rw c.in-NoEntry.is at why)

pub returns-in-Refused : goal.returns-in-Refused
returns-in-Refused g c old why = refused_told g.D.Disk old c.in-Refused.refused (rw c.in-Refused.is at why)
