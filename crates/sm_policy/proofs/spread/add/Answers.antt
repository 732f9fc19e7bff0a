use Rattle.std.proofs.Common.{refl}
use Rattle.sm_policy.proofs.SpreadLemmas.{added}
use Rattle.sm_policy.proofs.spread.add.Goals as goal

pub returns : goal.returns
returns c =
    λ text are. added text c.args.letter c.args.spread.now _ c.requires.narrow c.requires.room c.note.ensures
    c.note-2.ensures c.note-3.ensures c.put.ensures refl are
