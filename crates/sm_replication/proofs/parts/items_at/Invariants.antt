use Rattle.std.proofs.Common.{◌≡◌, ◌-◌}
use Rattle.sm_record.specs.Codec.{read_items}
use Rattle.sm_record.specs.Fields.{octets}
use Rattle.sm_record.proofs.ReadingLemmas.{with_front}
use Rattle.sm_replication.proofs.parts.items_at.Given as goal

abbrev pub invariant-loop : goal.invariant-loop
invariant-loop l =
    with_front l.items.items (read_items octets (l.count - l.counter) l.rest) ≡ read_items octets l.count l.bytes
