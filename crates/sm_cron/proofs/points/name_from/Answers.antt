use Rattle.std.proofs.Common.{◌≡◌, ◌∙◌, ap, nat_le}
use Rattle.std.proofs.lemmas.Bool.{le-leb, lt-leb}
use Rattle.sm_cron.specs.Languages.{reading_of, where_true, word}
use Rattle.sm_cron.proofs.ReadingLemmas.{reading_where, reading_nowhere}
use Rattle.sm_cron.proofs.points.name_from.Goals as goal

pub returns-then-low-number : goal.returns-then-low-number
returns-then-low-number c =
    let said = c.word.ensures ∙ reading_where (nat_le c.args.low c.args.number)
    (word c.as_bytes.result.now c.args.number)
    c.args.text.now (le-leb c.args.low c.args.number c.if-low-number.true) in
    let same : c.as_bytes.result.now ≡ c.args.name.now = c.as_bytes.ensures.value in
    said ∙ ap (λ name. reading_of (where_true (nat_le c.args.low c.args.number)
    (word name c.args.number)) c.args.text.now)
    same

pub returns-else-low-number : goal.returns-else-low-number
returns-else-low-number c =
    reading_nowhere (nat_le c.args.low c.args.number) _ c.args.text.now
    (lt-leb c.args.low c.args.number c.if-low-number.false)
