use Rattle.std.proofs.Common.{◌≡◌, length, bit_or}
use Rattle.sm_cron.specs.Languages.{meaning, listed, reading_of}
use Rattle.sm_cron.specs.Sets.{set_of_all}
use Rattle.sm_cron.specs.Spelling.{greatest, item, items}
use Rattle.sm_cron.proofs.fields.items.Given as goal

abbrev pub invariant-loop-before : goal.invariant-loop-before
invariant-loop-before l =
    reading_of (meaning (λ all. bit_or l.set (set_of_all (greatest l.field) all)) (listed 44 (item l.field))) l.rest
    ≡ reading_of (items l.field) l.text

abbrev pub decreases-loop-before : goal.decreases-loop-before
decreases-loop-before l = length l.rest
