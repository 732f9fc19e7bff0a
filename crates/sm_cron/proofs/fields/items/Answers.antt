use Rattle.std.proofs.Common.{◌≡◌, ℕ, ◌+◌, ◌∙◌, ap, [], ◌∷◌, None, bit_or}
use Rattle.sm_cron.specs.declared.reading.Reading.{Reading}
use Rattle.sm_cron.specs.declared.reading.Reading.TheVariants.{Text, Front, Fault}
use Rattle.sm_cron.specs.Languages.{listed, meaning, parted, reading_of}
use Rattle.sm_cron.specs.Sets.{is_step, set_of, set_of_all}
use Rattle.sm_cron.specs.Spelling.{greatest, item}
use Rattle.sm_cron.proofs.PartedLemmas.{parted_shorter}
use Rattle.sm_cron.proofs.SetLemmas.{set_of_one}
use Rattle.sm_cron.proofs.SpellingLemmas.{item_goes_up, items_first, items_more, items_front, items_fault, items_last}
use Rattle.sm_cron.proofs.fields.items.Goals as goal

abbrev said : ℕ → Reading ℕ
said set = Text set

pub loop-before-init : goal.loop-before-init
loop-before-init c = items_first c.args.field c.args.text.now

pub set-set-requires-clause-steps : goal.set-set-requires-clause-steps
set-set-requires-clause-steps c = item_goes_up c.args.field c.in-Some.before.now c.in-Text.steps c.in-Text.ensures

pub returns-in-Front : goal.returns-in-Front
returns-in-Front c =
    items_front c.args.field c.loop-before.set c.loop-before.rest.now c.in-Some.before.now c.in-Some.behind.now
    c.in-Some.ensures c.in-Front.ensures ∙ c.loop-before.invariant

pub returns-in-Fault : goal.returns-in-Fault
returns-in-Fault c =
    items_fault c.args.field c.loop-before.set c.loop-before.rest.now c.in-Some.before.now c.in-Some.behind.now
    c.in-Some.ensures c.in-Fault.ensures ∙ c.loop-before.invariant

pub loop-before-smaller : goal.loop-before-smaller
loop-before-smaller c =
    parted_shorter 44 c.loop-before.rest.now c.in-Some.before.now c.in-Some.behind.now c.in-Some.ensures

pub loop-before-preserved : goal.loop-before-preserved
loop-before-preserved c =
    let set : c.set-set.result ≡ set_of (is_step c.in-Text.steps) (greatest c.args.field + 1) =
    c.set-set.ensures.value ∙ ap (λ g. set_of (is_step c.in-Text.steps) (g + 1)) c.greatest.ensures in
    ap (λ s. reading_of (meaning (λ all. bit_or (bit_or c.loop-before.set s) (set_of_all (greatest c.args.field) all))
    (listed 44 (item c.args.field))) c.in-Some.behind.now) set
    ∙ items_more c.args.field c.loop-before.set c.loop-before.rest.now c.in-Some.before.now c.in-Some.behind.now
    c.in-Text.steps c.in-Some.ensures c.in-Text.ensures
    ∙ c.loop-before.invariant

pub set-requires-clause-steps : goal.set-requires-clause-steps
set-requires-clause-steps c =
    item_goes_up c.args.field c.loop-before.rest.now c.in-Text-item.steps c.in-Text-item.ensures

pub returns-in-Text-item : goal.returns-in-Text-item
returns-in-Text-item c =
    let none : None ≡ parted 44 c.loop-before.rest.now = c.in_default.ensures in
    let set : c.set.result ≡ set_of_all (greatest c.args.field) (c.in-Text-item.steps ∷ []) =
    c.set.ensures.value ∙ ap (λ g. set_of (is_step c.in-Text-item.steps) (g + 1)) c.greatest-in-Text-item.ensures
    ∙ set_of_one (greatest c.args.field) c.in-Text-item.steps in
    ap (λ s. said (bit_or c.loop-before.set s)) set
    ∙ items_last c.args.field c.loop-before.set c.loop-before.rest.now (Text c.in-Text-item.steps) none
    c.in-Text-item.ensures ∙ c.loop-before.invariant

pub returns-in-Front-item : goal.returns-in-Front-item
returns-in-Front-item c =
    let none : None ≡ parted 44 c.loop-before.rest.now = c.in_default.ensures in
    items_last c.args.field c.loop-before.set c.loop-before.rest.now Front none c.in-Front-item.ensures
    ∙ c.loop-before.invariant

pub returns-in-Fault-item : goal.returns-in-Fault-item
returns-in-Fault-item c =
    let none : None ≡ parted 44 c.loop-before.rest.now = c.in_default.ensures in
    items_last c.args.field c.loop-before.set c.loop-before.rest.now Fault none c.in-Fault-item.ensures
    ∙ c.loop-before.invariant
