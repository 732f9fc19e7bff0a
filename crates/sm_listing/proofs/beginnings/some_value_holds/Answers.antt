use Rattle.std.proofs.Common.{map, get_or, [], ◌∙◌, sym, ap}
use Rattle.sm_listing.specs.Beginnings.{text_of}
use Rattle.sm_listing.specs.Filters.{value_holds}
use Rattle.sm_listing.proofs.ValueLemmas.{holds_here, holds_not}
use Rattle.sm_listing.proofs.beginnings.some_value_holds.Goals as goal

pub returns-then-value_holds-clause-holds : goal.returns-then-value_holds-clause-holds
returns-then-value_holds-clause-holds c =
    holds_here (value_holds (map (text_of c.args.part) c.args.tags.now)) c.args.sought.now.values c.args.first
    c.args.count c.loop-step.step c.requires.places c.loop-step-test.true
    (sym c.if-value_holds.true ∙ c.value_holds.ensures.holds
    ∙ ap (λ place. value_holds (map (text_of c.args.part) c.args.tags.now) (get_or c.args.sought.now.values place []))
    c.place_at-place.ensures)

pub loop-step-preserved : goal.loop-step-preserved
loop-step-preserved c = (
  c.value_holds.ensures.known,
  holds_not (value_holds (map (text_of c.args.part) c.args.tags.now)) c.args.sought.now.values c.args.first
      c.args.count c.loop-step.step c.requires.places c.loop-step-test.true
      (sym c.if-value_holds.false ∙ c.value_holds.ensures.holds
      ∙ ap (λ place. value_holds (map (text_of c.args.part) c.args.tags.now) (get_or c.args.sought.now.values place []))
      c.place_at-place.ensures)
      c.loop-step.invariant.1,
)
