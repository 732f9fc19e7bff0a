use Rattle.std.proofs.Common.{◌∙◌, arith}
use Rattle.sm_replication.proofs.EncodeLemmas.{rows_encoded}
use Rattle.sm_replication.proofs.encoding.encode_rows.Goals as goal

pub returns : goal.returns
returns c =
    rows_encoded c.args.at c.as_slice.result.now c.encode_list.result (omega (arith, c.ranges.at.fits))
    c.encode_list.ensures.within c.encode_list.ensures.long c.args.base.now c.requires
    (c.as_slice.ensures.value ∙ c.in_ok-bodies.ensures) c.encode_list.ensures.bytes
