use Rattle.std.proofs.Common.{◌≡◌, ◌<◌, ◌+◌, ◌++◌, length}
use Rattle.sm_journal.specs.Records.{front, size, AreWithin}
use Rattle.sm_journal.specs.Places.{bodies_at, AreInside}
use Rattle.sm_journal.proofs.parse.records.Given as goal

abbrev pub invariant-loop-behind : goal.invariant-loop-behind
invariant-loop-behind l = record {
  split : l.bytes ≡ front l.format (bodies_at l.bytes l.places.items) ++ l.rest;
  inside : AreInside l.bytes l.places.items;
  within : AreWithin (bodies_at l.bytes l.places.items);
  size : length l.bytes ≡ 8 + size (bodies_at l.bytes l.places.items) + length l.rest;
  more : 0 < length l.rest;
}

abbrev pub decreases-loop-behind : goal.decreases-loop-behind
decreases-loop-behind l = length l.rest
