use Rattle.sm_cron.specs.declared.reading.Reading.TheVariants.{Text, Front, Fault}
use Rattle.std.proofs.Common.{false}
use Rattle.sm_cron.specs.declared.field.Field.TheVariants.{Days as OfDays}
use Rattle.sm_cron.specs.Spelling.{day_set, field_of}
use Rattle.sm_cron.proofs.ReadingLemmas.{meaning_of}
use Rattle.sm_cron.proofs.fields.numbered_days.Goals as goal

pub returns-in-Text : goal.returns-in-Text
returns-in-Text c =
    meaning_of (λ set. day_set set false) (field_of OfDays) c.args.text.now (Text c.in-Text.set) c.in-Text.ensures

pub returns-in-Front : goal.returns-in-Front
returns-in-Front c =
    meaning_of (λ set. day_set set false) (field_of OfDays) c.args.text.now Front c.in-Front.ensures

pub returns-in-Fault : goal.returns-in-Fault
returns-in-Fault c =
    meaning_of (λ set. day_set set false) (field_of OfDays) c.args.text.now Fault c.in-Fault.ensures
