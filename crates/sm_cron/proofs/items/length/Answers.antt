use Rattle.std.proofs.Common.{ℕ, ap, ◌∙◌}
use Rattle.sm_cron.specs.declared.reading.Reading.{Reading}
use Rattle.sm_cron.specs.declared.reading.Reading.TheVariants.{Text, Front, Fault}
use Rattle.sm_cron.specs.declared.steps.Steps.{Steps}
use Rattle.sm_cron.specs.Languages.{numbers}
use Rattle.sm_cron.specs.Spelling.{greatest, steps}
use Rattle.sm_cron.proofs.ReadingLemmas.{meaning_of}
use Rattle.sm_cron.proofs.items.length.Goals as goal

abbrev said : ℕ → ℕ → ℕ → Reading Steps
said first last by = Text (steps first last by)

pub returns-in-Text : goal.returns-in-Text
returns-in-Text c =
    ap (λ last. said c.args.first last c.in-Text.by) c.greatest.ensures
    ∙ meaning_of (λ by. steps c.args.first (greatest c.args.field) by) (numbers 1 31) c.args.text.now
    (Text c.in-Text.by)
    c.in-Text.ensures

pub returns-in-Front : goal.returns-in-Front
returns-in-Front c =
    meaning_of (λ by. steps c.args.first (greatest c.args.field) by)
    (numbers 1 31) c.args.text.now Front c.in-Front.ensures

pub returns-in-Fault : goal.returns-in-Fault
returns-in-Fault c =
    meaning_of (λ by. steps c.args.first (greatest c.args.field) by)
    (numbers 1 31) c.args.text.now Fault c.in-Fault.ensures
