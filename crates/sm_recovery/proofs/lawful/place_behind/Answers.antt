use Rattle.std.proofs.Common.{◌+◌, arith}
use Rattle.sm_recovery.proofs.PlaceLemmas.{entry_at, sizes_front, sizes_take, sizes_all}
use Rattle.sm_recovery.proofs.lawful.place_behind.Goals as goal

pub spelled_size-requires : goal.spelled_size-requires
spelled_size-requires c =
    entry_at c.args.edition c.args.entries.now c.loop-entry.entry-index c.entry-item.result c.requires.spelled
    c.loop-entry-test.true c.entry-item.is

pub overflow_add-place : goal.overflow_add-place
overflow_add-place c = omega (
  arith,
  c.requires.short,
  c.loop-entry.invariant,
  c.in_ok-size.ensures,
  sizes_front c.args.edition c.args.entries.now c.loop-entry.entry-index c.entry-item.result c.loop-entry-test.true
      c.entry-item.is,
  sizes_take c.args.edition c.args.entries.now (c.loop-entry.entry-index + 1),
)

pub loop-entry-preserved : goal.loop-entry-preserved
loop-entry-preserved c = omega (
  arith,
  c.loop-entry.invariant,
  c.in_ok-size.ensures,
  sizes_front c.args.edition c.args.entries.now c.loop-entry.entry-index c.entry-item.result c.loop-entry-test.true
      c.entry-item.is,
)

pub returns : goal.returns
returns c = omega (
  arith,
  c.loop-entry.invariant,
  sizes_all c.args.edition c.args.entries.now c.loop-entry.entry-index c.loop-entry-test.false,
)
