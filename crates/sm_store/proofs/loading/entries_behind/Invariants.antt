use Rattle.std.proofs.Common.{◌≡◌, ◌+◌, map, take, drop}
use Rattle.sm_journal.specs.Records.{size}
use Rattle.sm_record.specs.Spelling.{spelling}
use Rattle.sm_store.specs.Held.{AreEntries}
use Rattle.sm_store.proofs.loading.entries_behind.Given as goal

abbrev pub invariant-loop-number : goal.invariant-loop-number
invariant-loop-number l = AreEntries l.edition l.list.items
    × (map (spelling l.edition) l.list.items ≡ take l.number (drop l.count l.bodies))
    × (l.at ≡ l.gate + size (map (spelling l.edition) l.list.items))
