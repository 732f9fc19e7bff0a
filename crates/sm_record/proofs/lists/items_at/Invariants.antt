use Rattle.std.proofs.Common.{◌≡◌, ◌-◌}
use Rattle.sm_record.specs.Codec.{read_items}
use Rattle.sm_record.proofs.ReadingLemmas.{with_front}
use Rattle.sm_record.proofs.lists.items_at.Given as goal

abbrev pub invariant-loop : goal.invariant-loop
invariant-loop g l = with_front l.items.items (read_items (g.A.Field.codec l.edition) (l.count - l.counter) l.rest)
    ≡ read_items (g.A.Field.codec l.edition) l.count l.bytes
