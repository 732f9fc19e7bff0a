use Rattle.std.proofs.Common.{◌∙◌, ◌*◌, ap, codes, nat_le}
use Rattle.std.proofs.lemmas.Bool.{le-leb, lt-leb}
use Rattle.sm_cron.specs.Languages.{either, reading_of, where_true, word}
use Rattle.sm_cron.proofs.ReadingLemmas.{either_of, reading_where, reading_nowhere}
use Rattle.sm_cron.proofs.rates.days.Goals as goal

pub returns-then-number-gt1000 : goal.returns-then-number-gt1000
returns-then-number-gt1000 c =
    reading_nowhere (nat_le c.args.number 1_000) _ c.args.text.now (lt-leb c.args.number 1_000 c.if-number-gt1000.true)

pub returns : goal.returns
returns c =
    c.or.ensures ∙ either_of _ _ c.args.text.now c.word.result c.word-2.result c.word.ensures c.word-2.ensures
    ∙ reading_where (nat_le c.args.number 1_000) _ c.args.text.now (le-leb c.args.number 1_000 c.if-number-gt1000.false)
    ∙ ap (λ n. reading_of (where_true (nat_le c.args.number 1_000)
    (either (word (codes "day") (n * 86_400)) (word (codes "days")
    (n * 86_400)))) c.args.text.now) c.from-seconds.ensures
