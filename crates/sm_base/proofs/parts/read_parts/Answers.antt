use Rattle.sm_base.proofs.PartLemmas.{no_fault, parts_are_utf8}
use Rattle.sm_base.proofs.parts.read_parts.Goals as goal

pub from_utf8-requires : goal.from_utf8-requires
from_utf8-requires c =
    let parts = c.args.parts.now in
    let bytes = c.args.bytes.now in
    parts_are_utf8 parts bytes (no_fault parts bytes c.requires c.in-None.ensures)
