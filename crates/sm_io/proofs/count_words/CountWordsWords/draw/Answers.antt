use Rattle.std.proofs.Common.{◌+◌, arith}
use Rattle.std.proofs.lemmas.Grind.{common_steps}
use Rattle.sm_io.proofs.Counting.{length-count_up, count_up-same, count_up-append}
use Rattle.sm_io.proofs.count_words.CountWordsWords.draw.Goals as goal

pub returns-in-Ok-clause-exactly : goal.returns-in-Ok-clause-exactly
returns-in-Ok-clause-exactly c = grind (arith, common_steps, length-count_up c.self.inside.next c.args.n)

pub returns-in-Ok-clause-bytes : goal.returns-in-Ok-clause-bytes
returns-in-Ok-clause-bytes c =
    let words = c.self.inside in
    let same = count_up-same words.next (words.first + words.count.value) c.args.n (omega arith) in
    let parts = count_up-append words.first words.count.value c.args.n in
    grind (arith, common_steps)

pub returns-in-Ok-clause-next : goal.returns-in-Ok-clause-next
returns-in-Ok-clause-next c =
    let words = c.self.inside in
    let same = count_up-same words.next (words.first + words.count.value) c.args.n (omega arith) in
    grind (arith, common_steps)

pub returns-in-Ok-clause-after : goal.returns-in-Ok-clause-after
returns-in-Ok-clause-after c = grind (arith, common_steps, length-count_up c.self.inside.next c.args.n)
