use Rattle.std.proofs.Common.{◌≡◌, ◌+◌, map, take}
use Rattle.sm_journal.specs.Records.{size}
use Rattle.sm_record.specs.Spelling.{spelling}
use Rattle.sm_recovery.proofs.lawful.place_behind.Given as goal

abbrev pub invariant-loop-entry : goal.invariant-loop-entry
invariant-loop-entry l = l.place ≡ l.gate + size (map (spelling l.edition) (take l.entry-index l.entries))
