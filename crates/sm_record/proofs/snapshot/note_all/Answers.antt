use Rattle.std.proofs.Common.{◌∙◌, ℕ, List, subst, sym}
use Rattle.sm_record.specs.Codec.{IsBytes}
use Rattle.sm_record.proofs.SequelLemmas.{bytes_more, bytes_all}
use Rattle.sm_record.proofs.snapshot.note_all.Goals as goal

pub loop-body-preserved : goal.loop-body-preserved
loop-body-preserved c =
    bytes_more c.args.bodies.now c.loop-body.body-index c.body-item.result c.loop-body-test.true c.body-item.is
    (subst IsBytes c.as_slice.ensures c.note_bytes.ensures) c.loop-body.invariant

pub returns : goal.returns
returns c = bytes_all c.args.bodies.now c.loop-body.body-index c.loop-body-test.false c.loop-body.invariant
