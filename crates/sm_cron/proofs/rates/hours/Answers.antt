use Rattle.std.proofs.Common.{◌∙◌, ◌*◌, ap, codes, nat_le}
use Rattle.std.proofs.lemmas.Bool.{le-leb, lt-leb}
use Rattle.sm_cron.specs.Languages.{either, reading_of, where_true, word}
use Rattle.sm_cron.proofs.ReadingLemmas.{either_of, reading_where, reading_nowhere}
use Rattle.sm_cron.proofs.rates.hours.Goals as goal

pub returns-then-number-lt4 : goal.returns-then-number-lt4
returns-then-number-lt4 c = reading_nowhere (nat_le 4 c.args.number) _ c.args.text.now
    (lt-leb 4 c.args.number c.if-number-lt4.true)

pub returns : goal.returns
returns c =
    c.or.ensures ∙ either_of _ _ c.args.text.now c.word.result c.word-2.result c.word.ensures c.word-2.ensures
    ∙ reading_where (nat_le 4 c.args.number) _ c.args.text.now (le-leb 4 c.args.number c.if-number-lt4.false)
    ∙ ap (λ n. reading_of (where_true (nat_le 4 c.args.number)
    (either (word (codes "hour") (n * 3_600)) (word (codes "hours")
    (n * 3_600)))) c.args.text.now) c.from-seconds.ensures
