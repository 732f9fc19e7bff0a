use Rattle.sm_listing.proofs.FilterLemmas.{any_of_keys, any_of_values}
use Rattle.sm_listing.proofs.filters.some_begins.Goals as goal

pub returns-in-TagKey : goal.returns-in-TagKey
returns-in-TagKey c = cc (any_of_keys c.args.row.now.tags c.args.beginning.now)

pub returns-in-TagValue : goal.returns-in-TagValue
returns-in-TagValue c = cc (any_of_values c.args.row.now.tags c.args.beginning.now)
