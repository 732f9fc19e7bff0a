use Rattle.std.proofs.Common.{◌+◌, ◌∙◌, ap, sym}
use Rattle.sm_listing.specs.Filters.{filter_holds}
use Rattle.sm_listing.proofs.ValueLemmas.{values_count, all_more}
use Rattle.sm_listing.proofs.filters.all_sought_hold.Goals as goal

pub loop-filter-preserved : goal.loop-filter-preserved
loop-filter-preserved c = (
  c.place_at-first.ensures ∙ ap (λ count. c.loop-filter.first + count) c.len.ensures
      ∙ values_count c.args.filters.now c.loop-filter.filter-index c.loop-filter.first c.filter-item.result
      c.loop-filter-test.true c.filter-item.is c.loop-filter.invariant.0,
  c.sought_holds.ensures.known_keys,
  c.sought_holds.ensures.known_values,
  all_more (filter_holds c.args.row.now) c.args.filters.now c.loop-filter.filter-index c.filter-item.result
      c.loop-filter-test.true c.filter-item.is (sym c.if-not-sought_holds.ensures.holds)
      c.loop-filter.invariant.3,
)
