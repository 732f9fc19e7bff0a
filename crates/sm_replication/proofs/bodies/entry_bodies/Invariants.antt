use Rattle.std.proofs.Common.{◌≡◌, map, take}
use Rattle.sm_record.specs.Spelling.{spelling}
use Rattle.sm_record.specs.declared.edition.Edition.TheVariants.{Second}
use Rattle.sm_replication.proofs.bodies.entry_bodies.Given as goal

abbrev pub invariant-loop-entry : goal.invariant-loop-entry
invariant-loop-entry l = l.bodies.items ≡ map (spelling Second) (take l.entry-index l.entries)
