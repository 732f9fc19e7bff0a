use Rattle.sm_cron.specs.declared.reading.Reading.TheVariants.{Text, Front, Fault}
use Rattle.sm_cron.specs.Spelling.{point, steps}
use Rattle.sm_cron.proofs.ReadingLemmas.{meaning_of}
use Rattle.sm_cron.proofs.items.range_end.Goals as goal

pub returns-in-Text : goal.returns-in-Text
returns-in-Text c =
    meaning_of (λ last. steps c.args.first last 1) (point c.args.field c.args.first) c.args.text.now
    (Text c.in-Text.last) c.in-Text.ensures

pub returns-in-Front : goal.returns-in-Front
returns-in-Front c =
    meaning_of (λ last. steps c.args.first last 1) (point c.args.field c.args.first) c.args.text.now Front
    c.in-Front.ensures

pub returns-in-Fault : goal.returns-in-Fault
returns-in-Fault c =
    meaning_of (λ last. steps c.args.first last 1) (point c.args.field c.args.first) c.args.text.now Fault
    c.in-Fault.ensures
