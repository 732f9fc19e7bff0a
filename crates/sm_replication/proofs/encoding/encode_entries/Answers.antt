use Rattle.std.proofs.Common.{◌∙◌, arith}
use Rattle.sm_replication.proofs.EncodeLemmas.{entries_encoded}
use Rattle.sm_replication.proofs.encoding.encode_entries.Goals as goal

pub returns : goal.returns
returns c =
    entries_encoded c.args.at c.as_slice.result.now c.encode_list.result (omega (arith, c.ranges.at.fits))
    c.encode_list.ensures.within c.encode_list.ensures.long c.args.entries.now c.requires
    (omega (arith, c.if-entries.false))
    (c.as_slice.ensures.value ∙ c.in_ok-bodies.ensures) c.encode_list.ensures.bytes
