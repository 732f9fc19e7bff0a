use Rattle.std.proofs.Common.{◌∙◌, ap, arith}
use Rattle.sm_cron.specs.Languages.{reading_of, words_of}
use Rattle.sm_cron.proofs.ReadingLemmas.{words_step, words_all}
use Rattle.sm_cron.proofs.points.name.Goals as goal

pub loop-place-preserved : goal.loop-place-preserved
loop-place-preserved c =
    rw c.or-so_far.ensures
    (words_step c.args.low c.names-names.result.now c.loop-place.place c.loop-place.so_far c.args.text.now _
    (omega arith)
    c.loop-place.invariant c.name_from.result c.name_from.ensures)

pub returns : goal.returns
returns c =
    words_all c.args.low c.names-names.result.now c.loop-place.place c.loop-place.so_far c.args.text.now (omega arith)
    c.loop-place.invariant
    ∙ ap (λ names. reading_of (words_of c.args.low 1 names) c.args.text.now) c.names-names.ensures.names
