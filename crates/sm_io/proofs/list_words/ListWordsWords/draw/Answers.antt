use Rattle.std.proofs.Common.{arith}
use Rattle.std.proofs.lemmas.Grind.{common_steps}
use Rattle.std.proofs.lemmas.List.{drop-drop}
use Rattle.std.proofs.Math.Seq.{take-add}
use Rattle.sm_io.proofs.list_words.ListWordsWords.draw.Goals as goal

pub returns-in-Ok-clause-bytes : goal.returns-in-Ok-clause-bytes
returns-in-Ok-clause-bytes c =
    let parts = take-add c.self.inside.at c.args.n c.self.inside.bytes in
    grind (arith, common_steps)

pub returns-in-Ok-clause-after : goal.returns-in-Ok-clause-after
returns-in-Ok-clause-after c =
    let parts = take-add c.self.inside.at c.args.n c.self.inside.bytes in
    let rest = drop-drop c.args.n c.self.inside.at c.self.inside.bytes in
    grind (arith, common_steps)
