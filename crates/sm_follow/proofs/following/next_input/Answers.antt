use Rattle.std.proofs.Common.{refl}
use Rattle.sm_replication.specs.declared.reader.NextFrame.TheVariants as next
use Rattle.sm_follow.proofs.following.next_input.Goals as goal

pub returns-in-Input-clause-reads : goal.returns-in-Input-clause-reads
returns-in-Input-clause-reads g c = (next.Input c.in-Input.input, refl, c.in-Input.ensures.reads)

pub returns-in-Bad-clause-reads : goal.returns-in-Bad-clause-reads
returns-in-Bad-clause-reads g c = (next.Bad c.in-Bad.at, refl, c.in-Bad.ensures.reads)

pub returns-in-End-clause-reads : goal.returns-in-End-clause-reads
returns-in-End-clause-reads g c = (next.End, refl, c.in-End.ensures.reads)

pub returns-in-Cut-clause-reads : goal.returns-in-Cut-clause-reads
returns-in-Cut-clause-reads g c = (next.Cut c.in-Cut.count, refl, c.in-Cut.ensures.reads)

pub returns-in-ReadFault-clause-reads : goal.returns-in-ReadFault-clause-reads
returns-in-ReadFault-clause-reads g c = (next.ReadFault, refl, c.in-ReadFault.ensures.reads)

pub returns-in-Memory-clause-reads : goal.returns-in-Memory-clause-reads
returns-in-Memory-clause-reads g c = (next.Memory, refl, c.in-Memory.ensures.reads)
