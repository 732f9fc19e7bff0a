use Rattle.std.proofs.Common.{◌∙◌, sym, arith}
use Rattle.sm_listing.proofs.AlikeLemmas.{alike_block}
use Rattle.sm_listing.proofs.beginnings.same_blocks.Goals as goal

pub loop-bytes-preserved : goal.loop-bytes-preserved
loop-bytes-preserved c = (
  omega arith,
  alike_block c.args.one.now c.args.other.now c.loop-bytes.bytes 64 c.loop-bytes.invariant.1 (omega arith)
      (sym c.starts_with.ensures.value ∙ c.if-starts_with.true),
)
