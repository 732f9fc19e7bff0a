use Rattle.sm_cron.specs.declared.reading.Reading.TheVariants.{Text, Front, Fault}
use Rattle.sm_cron.specs.Spelling.{least, point, single, steps}
use Rattle.sm_cron.proofs.ReadingLemmas.{meaning_of}
use Rattle.sm_cron.proofs.items.single.Goals as goal

pub returns-in-Text : goal.returns-in-Text
unfolding single
returns-in-Text c =
    meaning_of (λ number. steps number number 1) (point c.args.field (least c.args.field)) c.args.text.now
    (Text c.in-Text.number) c.in-Text.ensures

pub returns-in-Front : goal.returns-in-Front
unfolding single
returns-in-Front c =
    meaning_of (λ number. steps number number 1) (point c.args.field
    (least c.args.field)) c.args.text.now Front c.in-Front.ensures

pub returns-in-Fault : goal.returns-in-Fault
unfolding single
returns-in-Fault c =
    meaning_of (λ number. steps number number 1) (point c.args.field
    (least c.args.field)) c.args.text.now Fault c.in-Fault.ensures
